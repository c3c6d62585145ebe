-- What an answer of the arena says: there is one exactly where the question is inside the ranges, and it is the meaning's.
use Rattle.std.proofs.Common.{◌≡◌, ℕ, ◌<◌, Bool, true, false, cond, ◌&&◌, ltb, [], length, get_or, Some, None, refl, ap, arith}
use Rattle.std.proofs.lemmas.Bool.{and_parts, ltb-true, lt-ltb}
use Rattle.arena.specs.Arena.{Meaning, within, count_answer, move_answer, moves_answer}

pub within_true : {A : Type 0} (b : Bool) (x : A) → b ≡ true → within b x ≡ Some x
within_true b x e = ap (λ t. within t x) e

pub within_false : {A : Type 0} (b : Bool) (x : A) → b ≡ false → within b x ≡ None
within_false b x e = ap (λ t. within t x) e

pub within_some : {A : Type 0} (b : Bool) (v x : A) → Some x ≡ within b v → (b ≡ true) × (x ≡ v)
within_some true v x e = (refl, cc)
within_some false v x e = let z : ◌≡◌ {A = ℕ} 0 1 = cc in absurd (omega arith)

pub within_none : {A : Type 0} (b : Bool) (v : A) → None ≡ within b v → b ≡ false
within_none true v e = let z : ◌≡◌ {A = ℕ} 0 1 = cc in absurd (omega arith)
within_none false v e = refl

-- a number of moves that is answered is the length of the list
pub count_answered : (m : Meaning) (p c : ℕ) → Some c ≡ count_answer m p → c ≡ length (m.moves p)
count_answered m p c e = (within_some (ltb p m.size) (length (m.moves p)) c e).1

-- a move that is answered is in the list, at the place asked for
pub move_answered : (m : Meaning) (p j x : ℕ) → Some x ≡ move_answer m p j → (j < length (m.moves p)) × (x ≡ get_or (m.moves p) j 0)
move_answered m p j x e =
    let r = within_some (ltb p m.size && ltb j (length (m.moves p))) (get_or (m.moves p) j 0) x e in
    (ltb-true j (length (m.moves p)) (and_parts (ltb p m.size) (ltb j (length (m.moves p))) r.0).1, r.1)

-- the moves of a position of the arena
pub moves_inside : (m : Meaning) (p : ℕ) → p < m.size → moves_answer m p ≡ m.moves p
moves_inside m p h = ap (λ b. cond b (m.moves p) []) (lt-ltb p m.size h)
