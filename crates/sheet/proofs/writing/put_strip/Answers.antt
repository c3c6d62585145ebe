use Rattle.std.proofs.Common.{◌≡◌, ℕ, ◌+◌, ◌*◌, ◌≤◌, List, length, sym, ap, ◌∙◌, arith}
use lib.Seq.{paste}
use Rattle.std.proofs.lemmas.List.{get_or-map}
use Rattle.row.specs.Rows.{Row, empty}
use Rattle.row.specs.RowModel.{row_of}
use Rattle.sheet.specs.declared.slot.Slot.{Slot}
use Rattle.row.specs.Records.{record_of}
use Rattle.row.proofs.RecordBytes.{length_record}
use Rattle.strip.specs.Writing.{end_of}
use Rattle.sheet.specs.Slots.{row_at, rows_of}
use Rattle.sheet.proofs.Pasting.{records, one_more, all_parts}
use Rattle.sheet.proofs.writing.put_strip.Goals as goal

pub loop-p-preserved : goal.loop-p-preserved
loop-p-preserved c =
    let row : ℕ → Row = row_at (rows_of c.args.slots.now) in
    let headed : List ℕ = c.put_at.new.bytes in
    let so_far : List ℕ = c.loop-p.bytes in
    let p = c.loop-p.p in
    let place : ℕ = 6 + 38 * p in
    let one : c.record.result ≡ record_of (row p) = c.record.ensures ∙ ap (λ (h : Slot). record_of (row_of h.row)) c.index-slots-p.is ∙ ap record_of (sym (get_or-map (λ (h : Slot). row_of h.row) c.args.slots.now p c.index-slots-p.result empty (omega arith))) in
    let room : 6 ≤ length headed = omega arith in
    c.put_at-in-loop-p.ensures
    ∙ ap (λ at. paste so_far at c.record.result (length c.record.result)) c.record_at.ensures
    ∙ ap (λ w. paste so_far place w (length w)) one
    ∙ ap (paste so_far place (record_of (row p))) (length_record (row p))
    ∙ ap (λ bs. paste bs place (record_of (row p)) 38) c.loop-p.invariant
    ∙ one_more row headed p room

pub returns : goal.returns
returns c =
    let row : ℕ → Row = row_at (rows_of c.args.slots.now) in
    let n : ℕ = length c.args.slots.now in
    let bytes : List ℕ = c.args.bytes.now in
    let headed : List ℕ = c.put_at.new.bytes in
    let place : ℕ = 6 + 38 * n in
    let e : c.loop-p.p ≡ n = omega arith in
    c.put_at-2.ensures
    ∙ ap (λ at. paste c.loop-p.bytes at c.end.result (length c.end.result)) c.record_at-2.ensures
    ∙ ap (λ w. paste c.loop-p.bytes place w (length w)) c.end.ensures
    ∙ ap (λ bs. paste bs place (end_of n) 4) (c.loop-p.invariant ∙ ap (λ p. paste headed 6 (records row p) (38 * p)) e)
    ∙ ap (λ bs. paste (paste bs 6 (records row n) (38 * n)) place (end_of n) 4) (c.put_at.ensures ∙ ap (λ w. paste bytes 0 w (length w)) c.head.ensures)
    ∙ all_parts row bytes n c.args.k c.requires.room
