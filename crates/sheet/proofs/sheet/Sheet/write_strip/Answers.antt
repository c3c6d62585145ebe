use Rattle.std.proofs.Common.{◌≡◌, ℕ, List, ◌++◌, length, drop, vec_items, vec_len, sym, ap, ◌∙◌, subst}
use lib.ListN.{length-map}
use Rattle.row.specs.RowModel.{row_of}
use Rattle.strip.specs.Writing.{strip, strip_bytes}
use Rattle.sheet.specs.Sheets.{ReadsBack, strip_of}
use Rattle.sheet.specs.SheetModel.{sheet_of}
use Rattle.sheet.specs.Slots.{row_at, rows_of}
use Rattle.sheet.proofs.Fitting.{fits}
use Rattle.sheet.proofs.Trips.{write_reads}
use Rattle.sheet.proofs.sheet.Sheet.write_strip.Goals as goal

pub returns-clause-back : goal.returns-clause-back
returns-clause-back c =
    let s = c.self.inside in
    let held = c.self.invariant in
    let k = s.goals in
    let items = vec_items s.slots in
    let n : ℕ = vec_len s.slots in
    let len : length (rows_of items) ≡ n = length-map items (λ h. row_of h.row) ∙ sym (ap length c.as_slice.ensures.value) ∙ c.as_slice.ensures.len in
    let bytes : List ℕ = c.args.bytes.now in
    let wrote : c.put_strip.new.bytes ≡ strip_of (sheet_of s) ++ drop (strip_bytes n) bytes =
    c.put_strip.ensures
    ∙ ap (λ xs. strip (length xs) k (row_at (rows_of xs)) ++ drop (strip_bytes (length xs)) bytes) c.as_slice.ensures.value
    ∙ ap (λ m. strip m k (row_at (rows_of items)) ++ drop (strip_bytes m) bytes) (sym (ap length c.as_slice.ensures.value) ∙ c.as_slice.ensures.len) in
    subst (λ v. ReadsBack v c.put_strip.new.bytes) c.self.view_is (write_reads (sheet_of s) held.drawn held.few held.goaled held.bounded len (fits s held).good c.put_strip.new.bytes (drop (strip_bytes n) bytes) wrote)
