use Rattle.std.proofs.Common.{rules, sym}
use Rattle.std.proofs.Output.{has_written_append, has_written_of_eq}
use Rattle.report.specs.Plan.{goal_text}
use Rattle.report.proofs.Rows.{concat_more}
use Rattle.report.proofs.decisions.ChoicesDisplay.fmt.Goals as goal

pub loop-g-preserved : goal.loop-g-preserved
loop-g-preserved g c p =
    let certificate = c.args.self.now.certificate.now in
    let m = g.A.Arena.meaning certificate.arena.now in
    let more = concat_more (goal_text m certificate.bytes.now c.args.self.now.position) c.loop-g.g in
    has_written_of_eq _ _ _ _ _ (sym more) (has_written_append _ _ _ _ _ _ (c.loop-g.invariant p) (search rules))
