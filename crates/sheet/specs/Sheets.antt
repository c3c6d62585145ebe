-- A sheet by its calls: what each answers, and what it leaves. Read after the rows and the strip; a succession of calls
-- comes next. A seat is one of those who draw on the sheet. A row that a seat has taken is out to it; the slip that it
-- then holds tells the seat and the position, so put and let go name these two.
use Rattle.std.specs.Prelude.{◌≡◌, ℕ, ◌^◌, Bool, not, ◌&&◌, List, ◌++◌, map, length, take, drop, replicate, None, Option, ◌==◌, nat_le, nat_lt, slice_index, slice_index_or, slice_set}
use Rattle.arena.specs.Refusals.{Outcome, accepted, refused, Done, done, require, require_none, after}
use Rattle.arena.specs.Arena.{Meaning}
use Rattle.arena.specs.Sets.{all, between, least, count, upto}
use Rattle.row.specs.Rows.{Row, empty, meaning_of}
use Rattle.strip.specs.Strip.{size, goals, fault, row_read}
use Rattle.strip.specs.Writing.{strip, strip_bytes}

-- the numbers of positions and goals, the rows, and for each row the seat that it is out to, 0 for none
pub record Sheet : Type 0 where
  pub size : ℕ
  pub goals : ℕ
  pub rows : List Row
  pub out : List ℕ

-- a sheet of these rows, none of them out
abbrev pub all_in : ℕ → ℕ → List Row → Sheet
all_in n k rows = record { size = n; goals = k; rows = rows; out = replicate n 0 }

-- a sheet just shaped: every row empty, none out
abbrev pub new : ℕ → ℕ → Sheet
new n k = all_in n k (replicate n empty)

-- a blank sheet
abbrev pub blank : Sheet
blank = new 1 1

-- what a call tells, or else what was there
abbrev pub told_or : {A : Type 0} → Outcome A → A → A
told_or (accepted value) old = value
told_or (refused number names) old = old

module _ (s : Sheet) where
  -- the row of position p
  abbrev pub row_on : ℕ → Row
  row_on p = slice_index_or s.rows p empty

  -- the row of position p is out
  abbrev pub is_out : ℕ → Bool
  is_out p = not (slice_index s.out p == 0)

  -- the row of position p is out to the seat
  abbrev pub out_to : ℕ → ℕ → Bool
  out_to seat p = nat_lt p s.size && nat_lt 0 seat && slice_index s.out p == seat

  -- the lowest row that is out
  abbrev pub lowest_out : Option ℕ
  lowest_out = least is_out s.size

  -- the row of position p has no moves
  abbrev pub is_bare : ℕ → Bool
  is_bare p = length (row_on p).moves == 0

  -- the lowest row without moves
  abbrev pub lowest_bare : Option ℕ
  lowest_bare = least is_bare s.size

  -- the sheet with row p out to a seat, or in again; all else as it was
  abbrev pub lent : ℕ → ℕ → Sheet
  lent p seat = record { size = s.size; goals = s.goals; rows = s.rows; out = slice_set s.out p seat }

  -- the sheet with a new row p, which is in; all else as it was
  abbrev pub stored : ℕ → Row → Sheet
  stored p r = record { size = s.size; goals = s.goals; rows = slice_set s.rows p r; out = slice_set s.out p 0 }

  -- take: a copy of the row, which is then out to the seat
  abbrev pub take_answer : ℕ → ℕ → Outcome Row
  take_answer seat p =
      require (between 1 16 seat) 5
      (require (nat_lt p s.size) 4
      (require (not (is_out p)) 6 (accepted (row_on p))))

  -- the sheet after it; refused, as it was
  abbrev pub take_after : ℕ → ℕ → Sheet
  take_after seat p = after (take_answer seat p) (lent p seat) s

  -- the draft after it: the copy; refused, as it was
  abbrev pub take_draft : ℕ → ℕ → Row → Row
  take_draft seat p draft = told_or (take_answer seat p) draft

  -- put: the draft becomes the row, which is then in
  abbrev pub put_answer : ℕ → ℕ → Row → Outcome Done
  put_answer seat p r =
      require (out_to seat p) 7
      (require (all (λ q. nat_lt q s.size) r.moves) 8
      (require (nat_lt r.marks (2 ^ s.goals)) 9 (accepted done)))

  -- the sheet after it; refused, as it was
  abbrev pub put_after : ℕ → ℕ → Row → Sheet
  put_after seat p r = after (put_answer seat p r) (stored p r) s

  -- let go: the row stays as it was, and is in
  abbrev pub let_go_answer : ℕ → ℕ → Outcome Done
  let_go_answer seat p = require (out_to seat p) 7 (accepted done)

  -- the sheet after it; refused, as it was
  abbrev pub let_go_after : ℕ → ℕ → Sheet
  let_go_after seat p = after (let_go_answer seat p) (lent p 0) s

  -- count: how many rows are out
  abbrev pub count_answer : ℕ
  count_answer = count is_out (upto s.size)

  -- shape: another number of positions and of goals, and every row empty
  abbrev pub shape_answer : ℕ → ℕ → Outcome Done
  shape_answer n k =
      require_none lowest_out 10
      (require (between 1 512 n) 1
      (require (between 1 8 k) 2 (accepted done)))

  -- the sheet after it; refused, as it was
  abbrev pub shape_after : ℕ → ℕ → Sheet
  shape_after n k = after (shape_answer n k) (new n k) s

  -- the arena that the rows draw
  abbrev pub arena_of : Meaning
  arena_of = meaning_of s.size s.goals row_on

  -- what close asks before all else: no row is out, and every row has a move
  abbrev pub closing : {A : Type 0} → Outcome A → Outcome A
  closing next = require_none lowest_out 10 (require_none lowest_bare 11 next)

  -- close: the arena; the sheet stays as it was
  abbrev pub close_answer : Outcome Meaning
  close_answer = closing (accepted arena_of)

  -- load: the sheet becomes what a strip stores, with no row out
  abbrev pub load_answer : List ℕ → Outcome Done
  load_answer bs = require_none lowest_out 10 (require_none (fault bs) 13 (accepted done))

  -- the sheet after it; refused, as it was
  abbrev pub load_after : List ℕ → Sheet
  load_after bs = after (load_answer bs) (all_in (size bs) (goals bs) (map (row_read bs) (upto (size bs)))) s

  -- the strip that the rows are
  abbrev pub strip_of : List ℕ
  strip_of = strip s.size s.goals row_on

  -- write: the strip of the rows into bytes that are long enough
  abbrev pub write_answer : List ℕ → Outcome Done
  write_answer bytes = require (nat_le (strip_bytes s.size) (length bytes)) 3 (accepted done)

  -- the bytes after it: the strip, and then as they were; refused, all as they were
  abbrev pub write_bytes : List ℕ → List ℕ
  write_bytes bytes = after (write_answer bytes) (strip_of ++ drop (strip_bytes s.size) bytes) bytes

-- What write leaves is read back: loaded into any sheet with no row out, the strip at the front of these bytes is accepted
-- and gives the rows that it was written from.
abbrev pub ReadsBack : Sheet → List ℕ → Type 0
ReadsBack s bytes =
    let written : List ℕ = take (strip_bytes s.size) bytes in
    (t : Sheet) → lowest_out t ≡ None →
    (load_answer t written ≡ accepted done) × (load_after t written ≡ all_in s.size s.goals s.rows)

-- What load accepts is written back: the strip is the one that the rows then held would be written as.
abbrev pub WritesBack : Sheet → List ℕ → Type 0
WritesBack s bs = strip_of s ≡ bs
