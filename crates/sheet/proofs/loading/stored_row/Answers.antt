use Rattle.std.proofs.Common.{◌≡◌, ℕ, ◌-◌, ◌<◌, List, length, take, drop, Some, None, Option, sym, rules, ap, ◌∙◌, arith}
use Rattle.row.specs.Rows.{Row}
use Rattle.row.specs.RowModel.{row_of}
use Rattle.row.specs.declared.row.Row.{Row as Drawn}
use Rattle.std.specs.Option.{IsSome}
use Rattle.std.proofs.lemmas.List.{length-drop, take_all}
use Rattle.strip.specs.Reading.{read_outcome}
use Rattle.strip.specs.Faults.{sound}
use Rattle.strip.specs.Strip.{fault, size, row_at, row_in, row_read}
use Rattle.strip.proofs.Cut.{cut_row}
use Rattle.sheet.proofs.loading.stored_row.Goals as goal

pub slice_bounds-next_record-count : goal.slice_bounds-next_record-count
slice_bounds-next_record-count c = omega (arith, (sound c.args.strip.now c.requires.sound).long)

pub slice_bounds-next_record-start : goal.slice_bounds-next_record-start
slice_bounds-next_record-start c = omega (arith, (sound c.args.strip.now c.requires.sound).long)

-- what is read of a record that stores a row
some_read : (o : Option Drawn) (y : Row) → read_outcome o ≡ Some y → IsSome o
some_read None y e = let z : ◌≡◌ {A = ℕ} 0 1 = cc in absurd (omega arith)
some_read (Some r) y e = search rules

row_read_is : (o : Option Drawn) (r : Drawn) (y : Row) → o ≡ Some r → read_outcome o ≡ Some y → row_of r ≡ y
row_read_is o r y e f = let g : Some (row_of r) ≡ Some y = ap read_outcome (sym e) ∙ f in cc

-- the record read is the one cut out at its place, which stores the row
reads : (bs one : List ℕ) (p at : ℕ) → one ≡ take 38 (take (length bs - at) (drop at bs)) → at ≡ row_at p → fault bs ≡ None → p < size bs → row_in one ≡ Some (row_read bs p)
reads bs one p at front place none inside =
    let whole = take_all (length bs - at) (drop at bs) (omega (arith, length-drop at bs)) in
    ap row_in (front ∙ ap (take 38) whole ∙ ap (λ i. take 38 (drop i bs)) place) ∙ cut_row bs (sound bs none) p inside

pub unwrap-requires : goal.unwrap-requires
unwrap-requires c =
    let bs = c.args.strip.now in
    some_read c.read_row.result (row_read bs c.args.p)
    (c.read_row.ensures ∙ reads bs c.next_record.result.0.now c.args.p c.record_at.result c.next_record.ensures.one c.record_at.ensures c.requires.sound c.requires.inside)

pub returns : goal.returns
returns c =
    let bs = c.args.strip.now in
    row_read_is c.read_row.result c.unwrap.result (row_read bs c.args.p) c.unwrap.ensures
    (c.read_row.ensures ∙ reads bs c.next_record.result.0.now c.args.p c.record_at.result c.next_record.ensures.one c.record_at.ensures c.requires.sound c.requires.inside)
