use Rattle.std.proofs.Common.{◌≡◌, ◌-◌, ◌≤◌, length}
use Rattle.solver.specs.Memory.{Standing}
use Rattle.solver.specs.Solution.{stages}
use Rattle.solver.proofs.stage.run_stages.Given as goal

abbrev pub invariant-stages : goal.invariant-stages
invariant-stages g l =
    (l.s ≤ stages (g.A.Arena.meaning l.a)) × Standing (g.A.Arena.meaning l.a) l.s l.taken l.goals l.approaches
    × (length l.ranks ≡ length l.initial.ranks)

abbrev pub decreases-stages : goal.decreases-stages
decreases-stages g l = stages (g.A.Arena.meaning l.a) - l.s
