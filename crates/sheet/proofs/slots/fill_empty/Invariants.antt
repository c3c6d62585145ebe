use Rattle.std.proofs.Common.{◌≡◌, replicate, vec_items, vec_len, vec_capacity}
use Rattle.row.specs.Rows.{empty}
use Rattle.sheet.specs.Slots.{rows_of, seats_of}
use Rattle.sheet.proofs.slots.fill_empty.Given as goal

abbrev pub invariant-loop : goal.invariant-loop
invariant-loop l =
    (rows_of (vec_items l.slots) ≡ replicate l.counter empty)
    × (seats_of (vec_items l.slots) ≡ replicate l.counter 0)
    × (vec_len l.slots ≡ l.counter)
    × (vec_capacity l.slots ≡ vec_capacity l.initial.slots)
