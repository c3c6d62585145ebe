use Rattle.std.proofs.Common.{rules, tests}
use Rattle.arena.proofs.Chains.{all_left}
use Rattle.control.specs.Accept.{good_step_of}
use Rattle.control.proofs.record.Record.are_all_good_steps.Goals as goal

pub returns : goal.returns
returns g c =
    all_left (good_step_of (g.A.Arena.meaning c.args.self.now.certificate.now.arena.now) c.args.self.now.certificate.now.bytes.now c.args.self.now.position)
    c.moves.result c.all.new.self _ c.all.result _ c.all.ensures.ran c.moves.ensures (λ x b q k. search (rules, tests))
