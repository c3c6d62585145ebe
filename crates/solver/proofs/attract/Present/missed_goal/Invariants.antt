use Rattle.std.proofs.Common.{◌≡◌, ℕ, ◌<◌, None}
use Rattle.arena.specs.Sets.{any, least, upto}
use Rattle.solver.specs.Columns.{present}
use Rattle.solver.specs.Memory.{GoalRanks}
use Rattle.solver.specs.Solution.{core}
use Rattle.solver.proofs.attract.Present.missed_goal.Given as goal

abbrev pub invariant-loop-g : goal.invariant-loop-g
invariant-loop-g g l =
    (least (λ h. any (core (g.A.Arena.meaning l.self.arena.now) (present l.self.taken.now) h) (upto (g.A.Arena.meaning l.self.arena.now).size)) l.g ≡ None)
    × ((h : ℕ) → h < l.g → GoalRanks (g.A.Arena.meaning l.self.arena.now) (present l.self.taken.now) h l.ranks)
