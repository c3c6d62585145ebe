use Rattle.std.proofs.Common.{◌≡◌, ℕ, ◌<◌, ◌≤◌, false, slice_index}
use Rattle.arena.specs.Owners.{owner_number}
use Rattle.solver.specs.Columns.{next}
use Rattle.solver.proofs.attract.Present.next_round.Given as goal

abbrev pub invariant-loop-p : goal.invariant-loop-p
invariant-loop-p g l =
    ((k : ℕ) → k < l.p → slice_index l.ranks k ≡ next (g.A.Arena.meaning l.self.arena.now) (owner_number l.side) l.self.taken.now l.initial.ranks l.i k)
    × ((k : ℕ) → l.p ≤ k → slice_index l.ranks k ≡ slice_index l.initial.ranks k)
    × (l.more ≡ false → l.ranks ≡ l.initial.ranks)
