use Rattle.std.proofs.Common.{◌≡◌, ◌+◌, ◌<◌, sym, ap, ◌∙◌, arith}
use Rattle.strip.specs.Strip.{size, goals, row_at}
use Rattle.strip.specs.Parts.{nothing_first, something_first, record_wrong, rows_wrong, rows_step, rows_end}
use Rattle.strip.proofs.Passing.{passed_on}
use Rattle.strip.proofs.fields.Strip.records.Goals as goal

pub returns-in_err-inspect : goal.returns-in_err-inspect
returns-in_err-inspect c =
    let s = c.args.self.now in
    let bs = s.bytes.now in
    let p = c.loop-p.p in
    let fault = c.in_err-inspect.field-0.0 in
    let handed = passed_on c.from_residual.result fault c.from_residual.ensures.1 in
    let same : record_wrong c.record.result.bytes.now c.record.result.positions c.record.result.goals c.record.result.offset ≡ record_wrong bs (size bs) (goals bs) (row_at p) = cc (c.record.ensures.bytes, c.record.ensures.held.0, c.record.ensures.held.1, c.record.ensures.place, s.positions_read, s.goals_read) in
    let found = something_first (record_wrong bs (size bs) (goals bs) (row_at p)) (rows_wrong bs (p + 1)) fault.place (c.in_err-inspect.ensures ∙ same) in
    let below : p < size bs = omega (arith, s.positions_read) in
    handed ∙ sym (rows_step bs p below ∙ found) ∙ c.loop-p.invariant

pub loop-p-preserved : goal.loop-p-preserved
loop-p-preserved c =
    let s = c.args.self.now in
    let bs = s.bytes.now in
    let p = c.loop-p.p in
    let same : record_wrong c.record.result.bytes.now c.record.result.positions c.record.result.goals c.record.result.offset ≡ record_wrong bs (size bs) (goals bs) (row_at p) = cc (c.record.ensures.bytes, c.record.ensures.held.0, c.record.ensures.held.1, c.record.ensures.place, s.positions_read, s.goals_read) in
    let none = nothing_first (record_wrong bs (size bs) (goals bs) (row_at p)) (rows_wrong bs (p + 1)) (c.in_ok-inspect.ensures ∙ same) in
    let below : p < size bs = omega (arith, s.positions_read) in
    sym (rows_step bs p below ∙ none) ∙ c.loop-p.invariant

pub returns : goal.returns
returns c =
    let s = c.args.self.now in
    let bs = s.bytes.now in
    let e : c.loop-p.p ≡ size bs = omega (arith, s.positions_read) in
    sym (rows_end bs) ∙ ap (rows_wrong bs) (sym e) ∙ c.loop-p.invariant
