-- Drafts: rows in a caller's hands. Each edit answers whether it changed the draft, and leaves a new one; one that is
-- refused leaves the draft as it was. Read after the rows.
use Rattle.std.specs.Prelude.{ℕ, ◌+◌, ◌-◌, ◌^◌, Bool, cond, not, ◌||◌, List, [], ◌∷◌, length, ◌==◌, nat_lt}
use Rattle.arena.specs.Refusals.{Outcome, accepted, require, after}
use Rattle.arena.specs.Sets.{elem, keep}
use Rattle.row.specs.Rows.{Row, has_mark}

-- assign: the draft gets an owner
abbrev pub assign_answer : ℕ → Row → Bool
assign_answer owner r = not (r.owner == owner)

-- the draft after it
abbrev pub assign_after : ℕ → Row → Row
assign_after owner r = record { owner = owner; marks = r.marks; moves = r.moves }

-- a list with q set in before the first larger element
abbrev pub insert : ℕ → List ℕ → List ℕ
insert q [] = q ∷ []
insert q (x ∷ xs) = cond (nat_lt q x) (q ∷ x ∷ xs) (x ∷ insert q xs)

-- link: the draft gets a move, in its place in the order. It has room for sixteen; a move that is there already is
-- accepted in a full draft too.
abbrev pub link_answer : ℕ → Row → Outcome Bool
link_answer q r = require (elem q r.moves || nat_lt (length r.moves) 16) 12 (accepted (not (elem q r.moves)))

-- the draft after it
abbrev pub link_after : ℕ → Row → Row
link_after q r =
    after (link_answer q r)
    (record { owner = r.owner; marks = r.marks; moves = cond (elem q r.moves) r.moves (insert q r.moves) })
    r

-- unlink: the draft loses a move
abbrev pub unlink_answer : ℕ → Row → Bool
unlink_answer q r = elem q r.moves

-- the draft after it
abbrev pub unlink_after : ℕ → Row → Row
unlink_after q r = record { owner = r.owner; marks = r.marks; moves = keep (λ x. not (x == q)) r.moves }

-- mark: the draft gets a mark for one of the eight possible goals
abbrev pub mark_answer : ℕ → Row → Outcome Bool
mark_answer g r = require (nat_lt g 8) 2 (accepted (not (has_mark r g)))

-- the draft after it
abbrev pub mark_after : ℕ → Row → Row
mark_after g r =
    after (mark_answer g r)
    (record { owner = r.owner; marks = cond (has_mark r g) r.marks (r.marks + 2 ^ g); moves = r.moves })
    r

-- unmark: the draft loses a mark
abbrev pub unmark_answer : ℕ → Row → Outcome Bool
unmark_answer g r = require (nat_lt g 8) 2 (accepted (has_mark r g))

-- the draft after it
abbrev pub unmark_after : ℕ → Row → Row
unmark_after g r =
    after (unmark_answer g r)
    (record { owner = r.owner; marks = cond (has_mark r g) (r.marks - 2 ^ g) r.marks; moves = r.moves })
    r
