use Rattle.std.proofs.Common.{rules, tests}
use Rattle.arena.proofs.Chains.{any_left}
use Rattle.solver.specs.Columns.{by_round}
use Rattle.solver.proofs.attract.Present.can_enter.Goals as goal

pub returns : goal.returns
returns g c =
    any_left (by_round c.args.ranks.now c.args.i) c.moves_of.result c.any.new.self _ c.any.result _ c.any.ensures.ran c.moves_of.ensures
    (λ x b q k. search (rules, tests))
