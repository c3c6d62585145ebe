-- The sheets of the code as sheets of the definitions, and what always holds of them.
use Rattle.std.specs.Prelude.{◌<◌, ◌≤◌, vec_capacity, vec_items, vec_len}
use Rattle.sheet.specs.Sheets as sheets
use Rattle.sheet.specs.Slots.{Below, Marked, rows_of, seats_of}
use Rattle.sheet.specs.declared.sheet.Sheet.TheInside.{Inside}

-- what a sheet of the code stands for
abbrev pub sheet_of : Inside → sheets.Sheet
sheet_of s =
    record {
      size = vec_len s.slots;
      goals = s.goals;
      rows = rows_of (vec_items s.slots);
      out = seats_of (vec_items s.slots);
    }

-- the numbers are right, there is memory for 512 rows, and no row has a move or a mark that the sheet has not
pub record Held (s : Inside) : Type 0 where
  pub goaled : 0 < s.goals
  pub bounded : s.goals ≤ 8
  pub drawn : 0 < vec_len s.slots
  pub few : vec_len s.slots ≤ 512
  pub room : 512 ≤ vec_capacity s.slots
  pub below : Below (vec_len s.slots) (rows_of (vec_items s.slots))
  pub marked : Marked (vec_len s.slots) s.goals (rows_of (vec_items s.slots))
