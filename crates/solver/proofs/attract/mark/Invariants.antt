use Rattle.std.proofs.Common.{◌≡◌, ℕ, ◌<◌, Bool, length, slice_index, if◌then◌else◌}
use Rattle.solver.specs.Columns.{TestsBelow}
use Rattle.solver.proofs.attract.mark.Given as goal

abbrev pub invariant-loop-p : goal.invariant-loop-p
invariant-loop-p g l =
    (set : ℕ → Bool) → TestsBelow (length l.ranks) (goal.F-post g l.is_member) set
    → (k : ℕ) → k < l.p → slice_index l.ranks k ≡ (if set k then 1 else 0)
