use Rattle.std.proofs.Common.{List, ℕ, get_or, sym, ap, ◌∙◌}
use Rattle.solver.proofs.Laid.{goal_kept, goal_taken}
use Rattle.solver.proofs.settled.Settled.goal.Goals as goal

pub returns-then-is_kept : goal.returns-then-is_kept
returns-then-is_kept g c o l =
    ap (λ (xs : List ℕ). get_or xs o 0) c.goal.ensures
    ∙ goal_kept (g.A.Arena.meaning c.args.self.now.arena.now) c.args.p c.args.g c.rank.result c.args.step c.requires.goal (sym c.if-is_kept.ensures) c.rank.ensures c.requires.told o l

pub returns-else-is_kept : goal.returns-else-is_kept
returns-else-is_kept g c o l =
    ap (λ (xs : List ℕ). get_or xs o 0) c.goal-else-is_kept.ensures ∙ goal_taken (g.A.Arena.meaning c.args.self.now.arena.now) c.args.p c.args.g c.requires.goal (sym c.if-is_kept.ensures) o l
