use Rattle.std.proofs.Common.{sym}
use Rattle.arena.specs.Owners.{owner_number}
use Rattle.row.proofs.Moves.{listed, absent, there, gap, struck, strike_none}
use Rattle.row.proofs.row.Row.strike_move.Goals as goal

pub returns-in_default-clause-answer : goal.returns-in_default-clause-answer
returns-in_default-clause-answer c =
    let r = c.args.self.now in
    let h = gap r c.args.q c.in_default.field-0 c.moves.result.now c.moves.ensures c.in_default.ensures.position in
    sym (absent (listed r) c.args.q c.in_default.field-0 h)

pub returns-in_default-clause-draft : goal.returns-in_default-clause-draft
returns-in_default-clause-draft c =
    let r = c.args.self.now in
    let h = gap r c.args.q c.in_default.field-0 c.moves.result.now c.moves.ensures c.in_default.ensures.position in
    let same = sym (strike_none (listed r) c.args.q (absent (listed r) c.args.q c.in_default.field-0 h)) in
    λ i. record { owner = owner_number r.owner; marks = r.marks; moves = same i }

pub invariant_of-self : goal.invariant_of-self
invariant_of-self c =
    let r = c.args.self.now in
    let h = there r c.args.q c.in-Ok.at c.moves.result.now c.moves.ensures c.in-Ok.ensures.position in
    let d = struck r c.args.q c.in-Ok.at h c.strike_out.new.moves c.strike_out.ensures in
    record { wide = d.wide; few = d.few; rising = d.rising; unused = d.unused }

pub returns-clause-answer : goal.returns-clause-answer
returns-clause-answer c =
    sym (there c.args.self.now c.args.q c.in-Ok.at c.moves.result.now c.moves.ensures c.in-Ok.ensures.position).known

pub returns-clause-draft : goal.returns-clause-draft
returns-clause-draft c =
    let r = c.args.self.now in
    let h = there r c.args.q c.in-Ok.at c.moves.result.now c.moves.ensures c.in-Ok.ensures.position in
    let d = struck r c.args.q c.in-Ok.at h c.strike_out.new.moves c.strike_out.ensures in
    λ i. record { owner = owner_number r.owner; marks = r.marks; moves = d.listed_as i }
