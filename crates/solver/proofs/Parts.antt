-- What a list holds once a part of it has been written: in the part what was written, and else what was there.
use Rattle.std.proofs.Common.{◌≡◌, ℕ, suc, ◌+◌, ◌-◌, ◌*◌, ◌<◌, ◌≤◌, ◌⊎◌, inl, inr, sym, ap, ◌∙◌, mul-le-mul_right, suc-mul, List, length, get_or, take, drop, rules, arith}
use Rattle.std.proofs.lemmas.List.{places}
use Rattle.std.proofs.lemmas.Bool.{cases_lt, cases_order}
use borrow.Rule.Slice.PartMut.{put_mid}

-- a record ends where the next begins, or before
pub rows_apart : (p q w : ℕ) → p < q → p * w + w ≤ q * w
rows_apart p q w h = let a : suc p ≤ q = h in omega (arith, suc-mul p w, mul-le-mul_right w a)

module _ (a k : ℕ) (xs ys : List ℕ) (fits : a + k ≤ length xs) (long : length ys ≡ k) where
  pub part_at : (j : ℕ) → j < k → get_or (put_mid a k xs ys) (a + j) 0 ≡ get_or ys j 0
  part_at j h = search (rules, places)

  pub part_before : (i : ℕ) → i < a → get_or (put_mid a k xs ys) i 0 ≡ get_or xs i 0
  part_before i h = search (rules, places)

  pub part_after : (i : ℕ) → a + k ≤ i → get_or (put_mid a k xs ys) i 0 ≡ get_or xs i 0
  part_after i h = search (rules, places)

-- what is read of a part
pub part_is : (a b : ℕ) (xs : List ℕ) (j : ℕ) → a + j < b → get_or (take (b - a) (drop a xs)) j 0 ≡ get_or xs (a + j) 0
part_is a b xs j h = search (rules, places)

-- records of w bytes one after another: one more of them has its bytes from an offset on, and those before that keep theirs
module _ (entry : ℕ → List ℕ) (w n off len p at k : ℕ) (xs part : List ℕ) (below : p < n) (fits : n * w ≤ length xs) (room : off + len ≤ w)
    (place : at ≡ p * w + off) (size : k ≡ len) (long : length part ≡ len) where
  end : at + k ≤ length xs
  end = omega (arith, rows_apart p n w below)

  pub rows_kept : ((q o : ℕ) → q < n → o < off → get_or xs (q * w + o) 0 ≡ get_or (entry q) o 0) → (q o : ℕ) → q < n → o < off → get_or (put_mid at k xs part) (q * w + o) 0 ≡ get_or (entry q) o 0
  rows_kept before q o h l = go (cases_order q p)
    where
      go : (q ≡ p) ⊎ ((q < p) ⊎ (p < q)) → get_or (put_mid at k xs part) (q * w + o) 0 ≡ get_or (entry q) o 0
      go (inl e) = let f = ap (λ x. x * w) e in part_before at k xs part end (omega arith) (q * w + o) (omega arith) ∙ before q o h l
      go (inr (inl s)) = part_before at k xs part end (omega arith) (q * w + o) (omega (arith, rows_apart q p w s)) ∙ before q o h l
      go (inr (inr s)) = part_after at k xs part end (omega arith) (q * w + o) (omega (arith, rows_apart p q w s)) ∙ before q o h l

  pub rows_more : ((q o : ℕ) → q < p → o < off + len → get_or xs (q * w + o) 0 ≡ get_or (entry q) o 0)
      → ((q o : ℕ) → q < n → o < off → get_or xs (q * w + o) 0 ≡ get_or (entry q) o 0)
      → ((o : ℕ) → o < len → get_or part o 0 ≡ get_or (entry p) (off + o) 0)
      → (q o : ℕ) → q < p + 1 → o < off + len → get_or (put_mid at k xs part) (q * w + o) 0 ≡ get_or (entry q) o 0
  rows_more done before here q o h l = go (cases_lt q p) (cases_lt o off)
    where
      go : (q < p) ⊎ (p ≤ q) → (o < off) ⊎ (off ≤ o) → get_or (put_mid at k xs part) (q * w + o) 0 ≡ get_or (entry q) o 0
      go (inl s) z = part_before at k xs part end (omega arith) (q * w + o) (omega (arith, rows_apart q p w s)) ∙ done q o s l
      go (inr s) (inl z) = rows_kept before q o (omega arith) z
      go (inr s) (inr z) =
          let e : q ≡ p = omega arith in
          let f = ap (λ x. x * w) e in
          let i : q * w + o ≡ at + (o - off) = omega arith in
          let j : off + (o - off) ≡ o = omega arith in
          ap (λ x. get_or (put_mid at k xs part) x 0) i
          ∙ part_at at k xs part end (omega arith) (o - off) (omega arith)
          ∙ here (o - off) (omega arith)
          ∙ ap (λ x. get_or (entry p) x 0) j
          ∙ ap (λ x. get_or (entry x) o 0) (sym e)
