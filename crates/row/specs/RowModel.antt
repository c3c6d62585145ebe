-- The rows of the code as rows of the definitions.
use Rattle.std.specs.Prelude.{take}
use Rattle.arena.specs.Owners.{owner_number}
use Rattle.row.specs.Rows as rows
use Rattle.row.specs.declared.row.Row.{Row}

-- what a row of the code stands for
abbrev pub row_of : Row → rows.Row
row_of r = record { owner = owner_number r.owner; marks = r.marks; moves = take r.count r.moves }
