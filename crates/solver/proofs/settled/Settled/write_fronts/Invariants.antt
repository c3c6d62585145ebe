use Rattle.std.proofs.Common.{◌≡◌, ℕ, ◌+◌, ◌*◌, ◌<◌, slice_index}
use Rattle.arena.specs.Certificate.{record_bytes}
use Rattle.solver.specs.Certificate.{entry}
use Rattle.solver.proofs.settled.Settled.write_fronts.Given as goal

abbrev pub invariant-loop-p : goal.invariant-loop-p
invariant-loop-p g l =
    (q o : ℕ) → q < l.p → o < 10 → slice_index l.records (q * record_bytes (g.A.Arena.meaning l.self.arena.now) + o) ≡ slice_index (entry (g.A.Arena.meaning l.self.arena.now) q) o
