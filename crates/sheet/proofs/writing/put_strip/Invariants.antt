use Rattle.std.proofs.Common.{◌≡◌, ◌*◌}
use lib.Seq.{paste}
use Rattle.sheet.specs.Slots.{row_at, rows_of}
use Rattle.sheet.proofs.Pasting.{records}
use Rattle.sheet.proofs.writing.put_strip.Given as goal

abbrev pub invariant-loop-p : goal.invariant-loop-p
invariant-loop-p l = l.bytes ≡ paste l.initial.bytes 6 (records (row_at (rows_of l.slots)) l.p) (38 * l.p)
