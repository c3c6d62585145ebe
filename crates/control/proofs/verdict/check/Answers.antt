use Rattle.std.proofs.Common.{sym, ap, ◌∙◌}
use Rattle.control.specs.Answers.{verdict}
use Rattle.control.proofs.Kept.{kept}
use Rattle.control.proofs.verdict.check.Goals as goal

pub returns : goal.returns
returns g c =
    let m = g.A.Arena.meaning c.args.arena.now in record {
      answer = c.judge.ensures;
      promise = λ n e. kept m (g.A.Arena.lawful c.args.arena.now) c.args.certificate.now (n, sym c.judge.ensures ∙ ap verdict e);
    }
