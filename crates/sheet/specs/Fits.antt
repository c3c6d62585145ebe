-- What always holds of a sheet; each call on one says so. Read after the sheet's calls.
use Rattle.std.specs.Prelude.{◌≡◌, ℕ, ◌<◌, ◌≤◌, length}
use Rattle.strip.specs.RoundTrip.{Good}
use Rattle.sheet.specs.Sheets.{Sheet, row_on}

-- 1 to 512 positions and 1 to 8 goals; a row for each position, which a sheet of these sizes may hold, and a seat or none
pub record Fits (s : Sheet) : Type 0 where
  pub some : 0 < s.size
  pub few : s.size ≤ 512
  pub aimed : 0 < s.goals
  pub aims : s.goals ≤ 8
  pub drawn : length s.rows ≡ s.size
  pub seated : length s.out ≡ s.size
  pub good : (p : ℕ) → p < s.size → Good s.size s.goals (row_on s p)
