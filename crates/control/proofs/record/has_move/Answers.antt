use Rattle.std.proofs.Common.{nat_eq, ◌∙◌, rules, tests}
use Rattle.arena.proofs.Chains.{any_left}
use Rattle.arena.proofs.Within.{moves_inside}
use Rattle.control.proofs.record.has_move.Goals as goal

pub returns : goal.returns
returns g c =
    any_left (λ x. nat_eq x c.args.q) c.moves_of.result c.any.new.self _ c.any.result _ c.any.ensures.ran
    (c.moves_of.ensures ∙ moves_inside (g.A.Arena.meaning c.args.arena.now) c.args.p c.requires) (λ x b q k. search (rules, tests))
