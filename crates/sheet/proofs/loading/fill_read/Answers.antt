use Rattle.std.proofs.Common.{[], ◌∷◌, ◌++◌, vec_items, sym, ap, ◌∙◌, arith}
use Rattle.std.proofs.lemmas.List.{map_push, replicate_more}
use Rattle.std.proofs.lemmas.List.FromFn.{map-range_with_len_more}
use Rattle.row.specs.Rows.{Row}
use Rattle.row.specs.RowModel.{row_of}
use Rattle.strip.specs.Strip.{row_read}
use Rattle.sheet.specs.Seats.{seat_or_none}
use Rattle.sheet.specs.Slots.{rows_of, seats_of}
use Rattle.sheet.proofs.loading.fill_read.Goals as goal

pub loop-p-preserved : goal.loop-p-preserved
loop-p-preserved c =
    let inv = c.loop-p.invariant in
    let p = c.loop-p.p in
    let read : _ → Row = row_read c.args.strip.now in
    let before = vec_items c.loop-p.slots in
    let pushed = c.push_reserved.ensures.items in (
      ap rows_of pushed ∙ map_push (λ h. row_of h.row) before _ ∙ ap (λ (r : Row). rows_of before ++ r ∷ []) c.stored_row.ensures ∙ ap (λ xs. xs ++ read p ∷ []) inv.0 ∙ sym (map-range_with_len_more read 0 p p (omega arith)),
      ap seats_of pushed ∙ map_push (λ h. seat_or_none h.holder) before _ ∙ ap (λ xs. xs ++ 0 ∷ []) inv.1 ∙ replicate_more p 0,
      omega (arith, c.push_reserved.ensures.len, inv.2),
      c.push_reserved.ensures.capacity ∙ inv.3,
    )
