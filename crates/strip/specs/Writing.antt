-- The strip of rows: what is written of them. Read after the rows and their records; the strip's layout is told there.
use Rattle.std.specs.Prelude.{ℕ, ◌+◌, ◌*◌, List, ◌∷◌, ◌++◌}
use Rattle.arena.specs.Bytes.{two}
use Rattle.arena.specs.Sets.{concat, upto}
use Rattle.row.specs.Rows.{Row}
use Rattle.row.specs.Records.{record_of}

-- a head with the numbers of positions and goals
abbrev pub head_of : ℕ → ℕ → List ℕ
head_of n k = 0x47 ∷ 0x48 ∷ (two n ++ two k)

-- an end with the number of positions
abbrev pub end_of : ℕ → List ℕ
end_of n = 0x47 ∷ 0x45 ∷ two n

-- a head, the records of n rows, and an end
abbrev pub strip : ℕ → ℕ → (ℕ → Row) → List ℕ
strip n k row = head_of n k ++ (concat (λ p. record_of (row p)) (upto n) ++ end_of n)

-- the length of a strip of n rows
abbrev pub strip_bytes : ℕ → ℕ
strip_bytes n = 38 * n + 10
