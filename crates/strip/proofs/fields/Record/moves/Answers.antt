use Rattle.std.proofs.Common.{◌≡◌, ◌+◌, Bool, [], ◌∷◌, sym, ap, ◌∙◌, arith}
use Rattle.strip.specs.Strip.{first_wrong, move_field, move_at}
use Rattle.strip.specs.Parts.{nothing_first, something_first, moves_wrong, moves_step, moves_end}
use Rattle.strip.proofs.Passing.{passed_on}
use Rattle.strip.proofs.fields.Record.moves.Goals as goal

pub returns-in_err-field : goal.returns-in_err-field
returns-in_err-field c =
    let bs = c.args.self.now.bytes.now in
    let n = c.args.self.now.positions in
    let o = c.args.self.now.offset in
    let j = c.loop-j.j in
    let fault = c.in_err-field.field-0.0 in
    let handed = passed_on c.from_residual.result fault c.from_residual.ensures.1 in
    let same = ap (λ (right : Bool). first_wrong bs (record { offset = move_at o j; width = 2; right = right } ∷ [])) c.is_move_right.ensures in
    let found = something_first (first_wrong bs (move_field bs n o j ∷ [])) (moves_wrong bs n o (j + 1)) fault.place (c.in_err-field.ensures ∙ same) in
    handed ∙ sym (moves_step bs n o j c.loop-j-test.true ∙ found) ∙ c.loop-j.invariant

pub loop-j-preserved : goal.loop-j-preserved
loop-j-preserved c =
    let bs = c.args.self.now.bytes.now in
    let n = c.args.self.now.positions in
    let o = c.args.self.now.offset in
    let j = c.loop-j.j in
    let same = ap (λ (right : Bool). first_wrong bs (record { offset = move_at o j; width = 2; right = right } ∷ [])) c.is_move_right.ensures in
    let none = nothing_first (first_wrong bs (move_field bs n o j ∷ [])) (moves_wrong bs n o (j + 1)) (c.in_ok-field.ensures ∙ same) in
    sym (moves_step bs n o j c.loop-j-test.true ∙ none) ∙ c.loop-j.invariant

pub returns : goal.returns
returns c =
    let bs = c.args.self.now.bytes.now in
    let n = c.args.self.now.positions in
    let o = c.args.self.now.offset in
    let e : c.loop-j.j ≡ 16 = omega arith in
    sym (moves_end bs n o) ∙ ap (moves_wrong bs n o) (sym e) ∙ c.loop-j.invariant
