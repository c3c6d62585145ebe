use Rattle.std.proofs.Common.{not, ◌||◌, rules, tests}
use Rattle.arena.proofs.Chains.{all_left}
use Rattle.solver.specs.Columns.{by_round, present}
use Rattle.solver.proofs.attract.Present.must_enter.Goals as goal

pub returns : goal.returns
returns g c =
    all_left (λ q. not (present c.args.self.now.taken.now q) || by_round c.args.ranks.now c.args.i q) c.moves_of.result c.all.new.self _ c.all.result
    _ c.all.ensures.ran c.moves_of.ensures (λ x b q k. search (rules, tests))
