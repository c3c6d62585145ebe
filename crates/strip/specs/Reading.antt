-- What reading a record answers, as a row of the definitions.
use Rattle.std.specs.Prelude.{Some, None, Option}
use Rattle.row.specs.Rows as rows
use Rattle.row.specs.RowModel.{row_of}
use Rattle.row.specs.declared.row.Row.{Row}

abbrev pub read_outcome : Option Row → Option rows.Row
read_outcome None = None
read_outcome (Some r) = Some (row_of r)
