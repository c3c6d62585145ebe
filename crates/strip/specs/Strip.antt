-- A strip: the rows of a plant as bytes. Its fields, the place of its first fault, and the rows read back.
-- Read after the rows.
--
--   head     47 48, the number of positions, the number of goals
--   record   47 50, owner (one byte), marks (one byte), the number of moves, sixteen moves, the unused ones zero
--   end      47 45, the number of positions
--
-- Marks of head, record and end stand in hexadecimal. All other numbers have two bytes, the high byte first.
use Rattle.std.specs.Prelude.{ℕ, ◌+◌, ◌-◌, ◌*◌, ◌^◌, Bool, cond, not, ◌&&◌, ◌||◌, List, [], ◌∷◌, ◌++◌, map, length, take, drop, Some, None, Option, ◌==◌, nat_le, nat_lt}
use Rattle.arena.specs.Refusals.{Outcome, accepted, require_none}
use Rattle.arena.specs.Arena.{Meaning, within}
use Rattle.arena.specs.Sets.{concat, upto, between, least, holds}
use Rattle.arena.specs.Bytes.{byte, number}
use Rattle.row.specs.Rows.{Row, meaning_of}

-- the length of a record
abbrev pub row_bytes : ℕ
row_bytes = 38

-- one record and the bytes after it; of fewer than 38 bytes: all, and none
abbrev pub next_record : List ℕ → List ℕ × List ℕ
next_record bs = (take row_bytes bs, drop row_bytes bs)

-- where the record of position p begins in a strip; after the last one, where the end does
abbrev pub row_at : ℕ → ℕ
row_at p = 6 + row_bytes * p

-- where the j-th of the sixteen moves stands in the record at offset o
abbrev pub move_at : ℕ → ℕ → ℕ
move_at o j = o + (6 + 2 * j)

-- a field: where it stands, how many bytes it has, and whether it is right
pub record Field : Type 0 where
  pub offset : ℕ
  pub width : ℕ
  pub right : Bool

-- the first of two searches that has found something
abbrev pub or_else : Option ℕ → Option ℕ → Option ℕ
or_else None next = next
or_else (Some found) next = Some found

module _ (bs : List ℕ) where
  -- a field is there, not cut off, and right
  abbrev pub stands : Field → Bool
  stands f = nat_le (f.offset + f.width) (length bs) && f.right

  -- the offset of the first field of a list that is cut off or wrong
  abbrev pub first_wrong : List Field → Option ℕ
  first_wrong [] = None
  first_wrong (f ∷ fs) = cond (stands f) (first_wrong fs) (Some f.offset)

  -- the two bytes of a mark
  abbrev pub mark_right : ℕ → ℕ → Bool
  mark_right o second = byte bs o == 0x47 && byte bs (o + 1) == second

  -- a mark is one field of two bytes
  abbrev pub mark : ℕ → ℕ → Field
  mark o second = record { offset = o; width = 2; right = mark_right o second }

  -- how many moves the record at offset o has
  abbrev pub moves_at : ℕ → ℕ
  moves_at o = number bs (o + 4)

  -- its j-th move is below n and above the one before it, or zero where it is unused
  abbrev pub move_right : ℕ → ℕ → ℕ → Bool
  move_right n o j =
      let here : ℕ = move_at o j in
      cond (nat_lt j (moves_at o))
      (nat_lt (number bs here) n && (j == 0 || nat_lt (number bs (here - 2)) (number bs here)))
      (number bs here == 0)

  -- the field of the j-th move
  abbrev pub move_field : ℕ → ℕ → ℕ → Field
  move_field n o j = record { offset = move_at o j; width = 2; right = move_right n o j }

  -- the fields before the moves, in a strip of k goals: the mark, the owner, the marks, the number of moves
  abbrev pub front_fields : ℕ → ℕ → List Field
  front_fields k o =
      mark o 0x50
      ∷ (record { offset = o + 2; width = 1; right = nat_le (byte bs (o + 2)) 1 })
      ∷ (record { offset = o + 3; width = 1; right = nat_lt (byte bs (o + 3)) (2 ^ k) })
      ∷ (record { offset = o + 4; width = 2; right = nat_le (moves_at o) 16 })
      ∷ []

  -- the fields of a record at offset o, in order, in a strip of n positions and k goals
  abbrev pub record_fields : ℕ → ℕ → ℕ → List Field
  record_fields n k o = front_fields k o ++ map (move_field n o) (upto 16)

  -- the row that a record without a fault stores, the record beginning at offset o
  abbrev pub row_from : ℕ → Row
  row_from o =
      record {
        owner = byte bs (o + 2);
        marks = byte bs (o + 3);
        moves = map (λ j. number bs (move_at o j)) (upto (moves_at o));
      }

  -- The row that one record stores, absent where the bytes are no record of a row. Taken alone, a record tells neither
  -- n nor k: any two-byte number may be a move, and any of the eight goals may be marked.
  abbrev pub row_in : Option Row
  row_in = within (length bs == row_bytes && not (holds (first_wrong (record_fields 65536 8 0)))) (row_from 0)

  -- the number of positions in the head
  abbrev pub size : ℕ
  size = number bs 2

  -- the number of goals in the head
  abbrev pub goals : ℕ
  goals = number bs 4

  -- the fields of the head
  abbrev pub head_fields : List Field
  head_fields =
      mark 0 0x48
      ∷ (record { offset = 2; width = 2; right = between 1 512 size })
      ∷ (record { offset = 4; width = 2; right = between 1 8 goals })
      ∷ []

  -- the fields of the record of position p
  abbrev pub row_fields : ℕ → List Field
  row_fields p = record_fields size goals (row_at p)

  -- where the end begins
  abbrev pub end_at : ℕ
  end_at = row_at size

  -- the fields of the end
  abbrev pub end_fields : List Field
  end_fields = mark end_at 0x45 ∷ (record { offset = end_at + 2; width = 2; right = (number bs (end_at + 2) == size) }) ∷ []

  -- all fields, in order
  abbrev pub fields : List Field
  fields = head_fields ++ (concat row_fields (upto size) ++ end_fields)

  -- the first byte after the end, if there is one
  abbrev pub trailing : Option ℕ
  trailing = cond (nat_lt (end_at + 4) (length bs)) (Some (end_at + 4)) None

  -- the place of the fault: the first field, in order, that is cut off or wrong, or else the first byte after the end
  abbrev pub fault : Option ℕ
  fault = or_else (first_wrong fields) trailing

  -- the row that a strip without a fault stores for position p
  abbrev pub row_read : ℕ → Row
  row_read p = row_from (row_at p)

  -- the row of position p has no moves
  abbrev pub bare : ℕ → Bool
  bare p = length (row_read p).moves == 0

  -- the arena that the rows draw
  abbrev pub drawn : Meaning
  drawn = meaning_of size goals row_read

  -- what an opened strip may hold: no bytes at all, or a strip without a fault whose rows all have moves
  abbrev pub openable : Bool
  openable = length bs == 0 || (not (holds fault) && not (holds (least bare size)))

  -- open: the arena that a strip's rows draw; refused by its fault, then by the lowest row without moves
  abbrev pub open_answer : Outcome Meaning
  open_answer = require_none fault 13 (require_none (least bare size) 11 (accepted drawn))
