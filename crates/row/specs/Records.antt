-- The record of a row: its bytes as a strip stores them. Read after the rows.
--
--   47 50, owner (one byte), marks (one byte), the number of moves, sixteen moves, the unused ones zero
--
-- The mark stands in hexadecimal. The numbers of moves and the moves have two bytes each, the high byte first.
use Rattle.std.specs.Prelude.{ℕ, List, ◌∷◌, ◌++◌, length, take, replicate}
use Rattle.arena.specs.Bytes.{two}
use Rattle.arena.specs.Sets.{concat}
use Rattle.row.specs.Rows.{Row}

-- the moves and then zeros, sixteen together
abbrev pub padded : List ℕ → List ℕ
padded moves = take 16 (moves ++ replicate 16 0)

-- numbers in two bytes each
abbrev pub pairs : List ℕ → List ℕ
pairs = concat two

-- the record of a row
abbrev pub record_of : Row → List ℕ
record_of r = 0x47 ∷ 0x50 ∷ r.owner ∷ r.marks ∷ (two (length r.moves) ++ pairs (padded r.moves))
