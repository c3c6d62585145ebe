-- What always holds of the fields of a sheet is what always holds of the sheet that they are.
use Rattle.std.proofs.Common.{vec_items, arith}
use lib.ListN.{length-map}
use Rattle.row.specs.RowModel.{row_of}
use Rattle.sheet.specs.declared.sheet.Sheet.TheInside.{Inside}
use Rattle.sheet.specs.declared.slot.Slot.{Slot}
use Rattle.sheet.specs.Fits.{Fits}
use Rattle.sheet.specs.Laws.{row_owned, row_few, row_rises}
use Rattle.sheet.specs.Seats.{seat_or_none}
use Rattle.sheet.specs.SheetModel.{Held, sheet_of}

pub fits : (s : Inside) → Held s → Fits (sheet_of s)
fits s held =
    let items = vec_items s.slots in
    record {
      some = held.drawn;
      few = held.few;
      aimed = held.goaled;
      aims = held.bounded;
      drawn = omega (arith, length-map items (λ (h : Slot). row_of h.row), s.slots.ok.0);
      seated = omega (arith, length-map items (λ (h : Slot). seat_or_none h.holder), s.slots.ok.0);
      good = λ p l.
          record {
            owned = row_owned items p;
            goals = held.marked p l;
            few = row_few items p;
            below = λ j m. held.below p j l m;
            rising = λ i j m w. row_rises items p i j m w;
          };
    }
