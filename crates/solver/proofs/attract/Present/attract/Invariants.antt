use Rattle.std.proofs.Common.{◌≡◌, ℕ, suc, ◌<◌, Bool, ◌&&◌, slice_index}
use Rattle.arena.specs.Owners.{owner_number}
use Rattle.arena.specs.Sets.{least}
use Rattle.solver.specs.Attractor.{round}
use Rattle.solver.specs.Columns.{TestsBelow, code, present}
use Rattle.solver.proofs.attract.Present.attract.Given as goal

abbrev pub invariant-loop-i : goal.invariant-loop-i
invariant-loop-i g l =
    (set : ℕ → Bool) → TestsBelow (g.A.Arena.meaning l.self.arena.now).size (goal.F-post g l.is_target) set
    → (k : ℕ) → k < (g.A.Arena.meaning l.self.arena.now).size
    → slice_index l.ranks k ≡ code (least (λ j. round (g.A.Arena.meaning l.self.arena.now) (owner_number l.side) (present l.self.taken.now) (λ p. present l.self.taken.now p && set p) j k) (suc l.i))
