use Rattle.std.proofs.Common.{sym, ◌∙◌}
use Rattle.strip.specs.Strip.{first_wrong, front_fields}
use Rattle.strip.specs.Parts.{nothing_first, something_first, moves_wrong, record_parts}
use Rattle.strip.proofs.Passing.{passed_on}
use Rattle.strip.proofs.fields.Record.inspect.Goals as goal

pub returns-in_err-front : goal.returns-in_err-front
returns-in_err-front c =
    let r = c.args.self.now in
    let bs = r.bytes.now in
    let fault = c.in_err-front.field-0.0 in
    let handed = passed_on c.from_residual.result fault c.from_residual.ensures.1 in
    let found = something_first (first_wrong bs (front_fields bs r.goals r.offset)) (moves_wrong bs r.positions r.offset 0) fault.place c.in_err-front.ensures in
    handed ∙ sym (record_parts bs r.positions r.goals r.offset ∙ found)

pub returns : goal.returns
returns c =
    let r = c.args.self.now in
    let bs = r.bytes.now in
    let none = nothing_first (first_wrong bs (front_fields bs r.goals r.offset)) (moves_wrong bs r.positions r.offset 0) c.in_ok-front.ensures in
    c.moves.ensures ∙ sym (record_parts bs r.positions r.goals r.offset ∙ none)
