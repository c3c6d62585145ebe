-- What always holds of a sheet's rows is kept: of empty rows, and of rows of which one is replaced.
use Rattle.std.proofs.Common.{◌≡◌, ℕ, zero, suc, ◌^◌, ◌<◌, true, ltb, List, [], ◌∷◌, length, get_or, set, replicate, sym, ap, ◌∙◌, subst, inl, inr, arith}
use Rattle.std.proofs.lemmas.Nat.{pow_pos}
use Rattle.std.proofs.lemmas.List.{get_or-set_same, get_or-set_other}
use Rattle.std.proofs.lemmas.Bool.{and_parts, cases_eq, ltb-true}
use Rattle.arena.specs.Sets.{all}
use Rattle.arena.proofs.Basics.{get_or_all}
use Rattle.row.specs.Rows.{Row, empty}
use Rattle.sheet.specs.Slots.{row_at, Below, Marked}

pub empties_below : (n m : ℕ) → Below n (replicate m empty)
empties_below n m p j l k =
    let few : j < length empty.moves = subst (λ (r : Row). j < length r.moves) (get_or_all m p empty) k in
    absurd (omega arith)

pub empties_marked : (n m k : ℕ) → Marked n k (replicate m empty)
empties_marked n m k p l = subst (λ (r : Row). r.marks < 2 ^ k) (sym (get_or_all m p empty)) (pow_pos k)

-- a test of all elements, at one of them
pub all_below : (n : ℕ) (xs : List ℕ) → all (λ q. ltb q n) xs ≡ true → (j : ℕ) → j < length xs → get_or xs j 0 < n
all_below n [] e j l = absurd (omega arith)
all_below n (x ∷ xs) e zero l = ltb-true x n (and_parts (ltb x n) (all (λ q. ltb q n) xs) e).0
all_below n (x ∷ xs) e (suc j) l = all_below n xs (and_parts (ltb x n) (all (λ q. ltb q n) xs) e).1 j (omega arith)

-- what holds of the new row and of every row that was there
module _ (drawn : List Row) (p : ℕ) (r : Row) (inside : p < length drawn) (P : Row → Type 0) where
  replaced : (q : ℕ) → P r → P (row_at drawn q) → P (row_at (set drawn p r) q)
  replaced q new old =
      elim (cases_eq q p) [
        | inl e ↦ subst P (sym (ap (row_at (set drawn p r)) e ∙ get_or-set_same drawn p r empty inside)) new
        | inr ne ↦ subst P (sym (get_or-set_other drawn p q r empty ne)) old
      ]

pub stored_below : (n : ℕ) (drawn : List Row) (p : ℕ) (r : Row) → p < length drawn → all (λ q. ltb q n) r.moves ≡ true → Below n drawn → Below n (set drawn p r)
stored_below n drawn p r inside new old q j l =
    replaced drawn p r inside (λ (x : Row). j < length x.moves → get_or x.moves j 0 < n) q (λ m. all_below n r.moves new j m) (λ m. old q j l m)

pub stored_marked : (n k : ℕ) (drawn : List Row) (p : ℕ) (r : Row) → p < length drawn → r.marks < 2 ^ k → Marked n k drawn → Marked n k (set drawn p r)
stored_marked n k drawn p r inside new old q l = replaced drawn p r inside (λ (x : Row). x.marks < 2 ^ k) q new (old q l)
