-- Solve with the two memories that it is lent: what it answers, and what each memory holds after it.
-- Read after the certificate.
use Rattle.std.specs.Prelude.{ℕ, ◌+◌, ◌*◌, Bool, ◌&&◌, List, ◌++◌, length, drop, replicate, nat_le}
use Rattle.arena.specs.Refusals.{Outcome, accepted, require, after}
use Rattle.arena.specs.Arena.{Meaning, sized}
use Rattle.solver.specs.Solution.{controlled, stages}
use Rattle.arena.specs.Certificate.{certificate_bytes}
use Rattle.solver.specs.Certificate.{certificate}

module _ (m : Meaning) where
  -- how many numbers of work memory are used
  abbrev pub work_numbers : ℕ
  work_numbers = m.size * (m.goals + 6)

  -- the certificate memory and the work memory are long enough
  abbrev pub enough : List ℕ → List ℕ → Bool
  enough bytes work = nat_le (certificate_bytes m) (length bytes) && nat_le work_numbers (length work)

  -- what solve answers: the number of the controller's positions and the number of stages
  abbrev pub solve : List ℕ → List ℕ → Outcome (ℕ × ℕ)
  solve bytes work = sized m (require (enough bytes work) 3 (accepted (controlled m, stages m)))

  -- the certificate memory after: the certificate and then the bytes as they were; refused, all as they were
  abbrev pub bytes_after : List ℕ → List ℕ → List ℕ
  bytes_after bytes work = after (solve bytes work) (certificate m ++ drop (certificate_bytes m) bytes) bytes

  -- the work memory after: zeros where it was used and then the numbers as they were; refused, all as they were
  abbrev pub work_after : List ℕ → List ℕ → List ℕ
  work_after bytes work = after (solve bytes work) (replicate work_numbers 0 ++ drop work_numbers work) work
