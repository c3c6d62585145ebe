-- The rows of a sheet in memory, as rows of the definitions, and what always holds of them.
use Rattle.std.specs.Prelude.{ℕ, ◌^◌, ◌<◌, Bool, List, is_some, map, length, ◌==◌, slice_index, slice_index_or}
use Rattle.arena.specs.Arena.{Meaning}
use Rattle.row.specs.Rows as rows
use Rattle.row.specs.Rows.{empty, meaning_of}
use Rattle.row.specs.RowModel.{row_of}
use Rattle.sheet.specs.Seats.{seat_or_none}
use Rattle.sheet.specs.declared.slot.Slot.{Slot}

-- the rows
abbrev pub rows_of : List Slot → List rows.Row
rows_of = map (λ (h : Slot). row_of h.row)

-- for each the seat that it is out to, 0 for none
abbrev pub seats_of : List Slot → List ℕ
seats_of = map (λ (h : Slot). seat_or_none h.holder)

-- the row in a slot is out
abbrev pub is_lent : Slot → Bool
is_lent h = is_some h.holder

-- the row in a slot has no moves
abbrev pub is_empty : Slot → Bool
is_empty h = length (row_of h.row).moves == 0

-- the row of position p
abbrev pub row_at : List rows.Row → ℕ → rows.Row
row_at drawn p = slice_index_or drawn p empty

-- every move of n rows is to one of n positions
abbrev pub Below : ℕ → List rows.Row → Type 0
Below n drawn = (p j : ℕ) → p < n → j < length (row_at drawn p).moves → slice_index (row_at drawn p).moves j < n

-- every mark of n rows is for one of k goals
abbrev pub Marked : ℕ → ℕ → List rows.Row → Type 0
Marked n k drawn = (p : ℕ) → p < n → (row_at drawn p).marks < 2 ^ k

-- every one of n rows has a move
abbrev pub Moved : ℕ → List rows.Row → Type 0
Moved n drawn = (p : ℕ) → p < n → 0 < length (row_at drawn p).moves

-- the arena that rows in memory draw for k goals
abbrev pub arena_drawn : ℕ → List Slot → Meaning
arena_drawn k slots = meaning_of (length slots) k (row_at (rows_of slots))
