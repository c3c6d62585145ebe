use Rattle.std.proofs.Common.{◌≡◌, map, replicate, vec_items, vec_len, vec_capacity}
use Rattle.arena.specs.Sets.{upto}
use Rattle.strip.specs.Strip.{row_read}
use Rattle.sheet.specs.Slots.{rows_of, seats_of}
use Rattle.sheet.proofs.loading.fill_read.Given as goal

abbrev pub invariant-loop-p : goal.invariant-loop-p
invariant-loop-p l =
    (rows_of (vec_items l.slots) ≡ map (row_read l.strip) (upto l.p))
    × (seats_of (vec_items l.slots) ≡ replicate l.p 0)
    × (vec_len l.slots ≡ l.p)
    × (vec_capacity l.slots ≡ vec_capacity l.initial.slots)
