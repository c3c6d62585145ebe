use Rattle.std.proofs.Common.{length, refl, arith}
use Rattle.std.proofs.lemmas.Bool.{lt-ltb, le-ltb}
use Rattle.arena.specs.Owners.{owner_number}
use Rattle.row.proofs.Moves.{listed, moves_count, absent, there, gap, added}
use Rattle.row.proofs.row.Row.link.Goals as goal

pub returns-in_default-clause-answer : goal.returns-in_default-clause-answer
returns-in_default-clause-answer c =
    let h = there c.args.self.now c.args.q c.in_default.field-0 c.moves.result.now c.moves.ensures c.in_default.ensures.position in
    rw h.known refl

pub returns-in_default-clause-draft : goal.returns-in_default-clause-draft
returns-in_default-clause-draft c =
    let h = there c.args.self.now c.args.q c.in_default.field-0 c.moves.result.now c.moves.ensures c.in_default.ensures.position in
    rw h.known refl

pub returns-then-self-ge16-clause-answer : goal.returns-then-self-ge16-clause-answer
returns-then-self-ge16-clause-answer c =
    let r = c.args.self.now in
    let h = gap r c.args.q c.in-Err.at c.moves.result.now c.moves.ensures c.in-Err.ensures.position in
    let new = absent (listed r) c.args.q c.in-Err.at h in
    let full = le-ltb (length (listed r)) 16 (omega (arith, moves_count r)) in
    rw (new, full) refl

pub invariant_of-self : goal.invariant_of-self
invariant_of-self c =
    let r = c.args.self.now in
    let h = gap r c.args.q c.in-Err.at c.moves.result.now c.moves.ensures c.in-Err.ensures.position in
    let d = added r c.args.q c.in-Err.at h c.if-self-ge16.false c.set_in.new.moves c.set_in.ensures in
    record { wide = d.wide; few = d.few; rising = d.rising; unused = d.unused }

pub returns-clause-answer : goal.returns-clause-answer
returns-clause-answer c =
    let r = c.args.self.now in
    let h = gap r c.args.q c.in-Err.at c.moves.result.now c.moves.ensures c.in-Err.ensures.position in
    let new = absent (listed r) c.args.q c.in-Err.at h in
    let room = lt-ltb (length (listed r)) 16 (omega (arith, moves_count r)) in
    rw (new, room) refl

pub returns-clause-draft : goal.returns-clause-draft
returns-clause-draft c =
    let r = c.args.self.now in
    let h = gap r c.args.q c.in-Err.at c.moves.result.now c.moves.ensures c.in-Err.ensures.position in
    let new = absent (listed r) c.args.q c.in-Err.at h in
    let room = lt-ltb (length (listed r)) 16 (omega (arith, moves_count r)) in
    let d = added r c.args.q c.in-Err.at h c.if-self-ge16.false c.set_in.new.moves c.set_in.ensures in
    rw (new, room) (λ i. record { owner = owner_number r.owner; marks = r.marks; moves = d.listed_as i })
