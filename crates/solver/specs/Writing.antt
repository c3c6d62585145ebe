-- The certificate's records as they are written. Read after the certificate.
-- Only the contracts of private functions cite it.
use Rattle.std.specs.Prelude.{◌≡◌, ℕ, ◌+◌, ◌*◌, ◌<◌, List, ◌∷◌, ◌++◌, slice_index}
use Rattle.arena.specs.Arena.{Meaning}
use Rattle.arena.specs.Bytes.{two}
use Rattle.arena.specs.Certificate.{record_bytes}
use Rattle.solver.specs.Certificate.{entry}

-- what stands before the goals in a record
abbrev pub front_bytes : ℕ → ℕ → ℕ → ℕ → ℕ → List ℕ
front_bytes side goal stage approach move = 0x43 ∷ 0x50 ∷ side ∷ goal ∷ (two stage ++ (two approach ++ two move))

-- what stands for a goal in a record
abbrev pub goal_bytes : ℕ → ℕ → List ℕ
goal_bytes rank move = two rank ++ two move

-- so many bytes are those of p's record from an offset on
abbrev pub Field : Meaning → ℕ → ℕ → ℕ → List ℕ → Type 0
Field m p off len bytes = (o : ℕ) → o < len → slice_index bytes o ≡ slice_index (entry m p) (off + o)

-- the first bytes of each record, one record after another, are those of the certificate
abbrev pub Rows : Meaning → ℕ → List ℕ → Type 0
Rows m len records = (p o : ℕ) → p < m.size → o < len → slice_index records (p * record_bytes m + o) ≡ slice_index (entry m p) o
