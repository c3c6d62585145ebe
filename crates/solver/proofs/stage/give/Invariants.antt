use Rattle.std.proofs.Common.{◌≡◌, ℕ, ◌-◌, ◌<◌, ◌≤◌, slice_index}
use Rattle.solver.proofs.stage.give.Given as goal

abbrev pub invariant-loop-p : goal.invariant-loop-p
invariant-loop-p g l =
    ((k : ℕ) → k < l.p → 0 < slice_index l.near k → goal.F-post g l.value (slice_index l.near k - 1) (slice_index l.column k))
    × ((k : ℕ) → k < l.p → slice_index l.near k ≡ 0 → slice_index l.column k ≡ slice_index l.initial.column k)
    × ((k : ℕ) → l.p ≤ k → slice_index l.column k ≡ slice_index l.initial.column k)
