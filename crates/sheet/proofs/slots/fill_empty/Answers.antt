use Rattle.std.proofs.Common.{◌≡◌, [], ◌∷◌, ◌++◌, vec_items, ap, ◌∙◌, arith}
use Rattle.std.proofs.lemmas.List.{map_push, replicate_more}
use Rattle.row.specs.Rows.{Row, empty}
use Rattle.row.specs.RowModel.{row_of}
use Rattle.sheet.specs.Seats.{seat_or_none}
use Rattle.sheet.specs.Slots.{rows_of, seats_of}
use Rattle.sheet.proofs.slots.fill_empty.Goals as goal

pub loop-preserved : goal.loop-preserved
loop-preserved c =
    let inv = c.loop.invariant in
    let i = c.loop.counter in
    let before = vec_items c.loop.slots in
    let pushed = c.push_reserved.ensures.items in
    let row : row_of c.empty.result ≡ empty = c.empty.ensures in (
      ap rows_of pushed ∙ map_push (λ h. row_of h.row) before _ ∙ ap (λ (r : Row). rows_of before ++ r ∷ []) row ∙ ap (λ xs. xs ++ empty ∷ []) inv.0 ∙ replicate_more i empty,
      ap seats_of pushed ∙ map_push (λ h. seat_or_none h.holder) before _ ∙ ap (λ xs. xs ++ 0 ∷ []) inv.1 ∙ replicate_more i 0,
      omega (arith, c.push_reserved.ensures.len, inv.2),
      c.push_reserved.ensures.capacity ∙ inv.3,
    )
