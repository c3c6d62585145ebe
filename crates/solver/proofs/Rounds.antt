-- A round in place. What a round adds is written with a number that the round does not read, so the set that it reads stays.
use Rattle.std.proofs.Common.{◌≡◌, ℕ, ◌+◌, ◌<◌, ◌≤◌, ◌≢◌, ◌⊎◌, Bool, true, false, cond, ◌&&◌, ltb, leb, List, length, get_or, set, sym, ap, ◌∙◌, inl, inr, arith, below_more}
use Rattle.std.proofs.lemmas.List.{get_or-set_same, get_or-set_other}
use Rattle.std.proofs.lemmas.Bool.{cases_lt, lt-ltb, le-ltb, lt-leb, le-leb, and_left, and_right, and_from, cond-true, cond-false}
use Rattle.arena.specs.Arena.{Meaning}
use Rattle.solver.specs.Columns.{present, by_round, drawn_in, next}

-- a number that is there by round i
abbrev pub Early : ℕ → ℕ → Bool
Early i x = ltb 0 x && leb x (i + 1)

pub early_zero : (i x : ℕ) → x ≡ 0 → Early i x ≡ false
early_zero i x e = and_left (ltb 0 x) _ (le-ltb 0 x (omega arith))

pub early_late : (i x : ℕ) → i + 1 < x → Early i x ≡ false
early_late i x h = and_right (ltb 0 x) _ (lt-leb x (i + 1) h)

pub early_there : (i x : ℕ) → 0 < x → x ≤ i + 1 → Early i x ≡ true
early_there i x a b = and_from (ltb 0 x) _ (lt-ltb 0 x a) (le-leb x (i + 1) b)

-- the round at p: those before have their next numbers, and the others are as they were
module _ (m : Meaning) (side i p : ℕ) (taken w v : List ℕ)
    (here : (k : ℕ) → k < p → get_or v k 0 ≡ next m side taken w i k)
    (rest : (k : ℕ) → p ≤ k → get_or v k 0 ≡ get_or w k 0) where
  written : (d : Bool) (x y : ℕ) → x ≡ cond (ltb 0 y) y (cond d (i + 2) 0) → Early i x ≡ Early i y
  written d x y e = go (cases_lt 0 y) d e
    where
      go : (0 < y) ⊎ (y ≤ 0) → (d : Bool) → x ≡ cond (ltb 0 y) y (cond d (i + 2) 0) → Early i x ≡ Early i y
      go (inl h) d e = ap (Early i) (e ∙ cond-true (ltb 0 y) _ _ (lt-ltb 0 y h))
      go (inr h) true e = early_late i x (let f = e ∙ cond-false (ltb 0 y) _ _ (le-ltb 0 y h) in omega arith) ∙ sym (early_zero i y (omega arith))
      go (inr h) false e = early_zero i x (e ∙ cond-false (ltb 0 y) _ _ (le-ltb 0 y h)) ∙ sym (early_zero i y (omega arith))

  by_same : by_round v i ≡ by_round w i
  by_same = λ j k. go k j
    where
      go : (k : ℕ) → by_round v i k ≡ by_round w i k
      go k =
          elim (cases_lt k p) [
            | inl l ↦ written (drawn_in m side (present taken) (by_round w i) k) (get_or v k 0) (get_or w k 0) (here k l)
            | inr l ↦ ap (Early i) (rest k l)
          ]

  -- the number for p where there was none
  pub next_new : get_or v p 0 ≡ 0 → (b : Bool) → b ≡ drawn_in m side (present taken) (by_round v i) p → next m side taken w i p ≡ cond b (i + 2) 0
  next_new z b e =
      let k = rest p (omega arith) in
      cond-false (ltb 0 (get_or w p 0)) _ _ (le-ltb 0 (get_or w p 0) (omega arith))
      ∙ ap (λ d. cond d (i + 2) 0) (sym (e ∙ (λ j. drawn_in m side (present taken) (by_same j) p)))

  -- and where there was one
  pub next_old : (get_or v p 0 ≡ 0 → ⊥) → get_or v p 0 ≡ next m side taken w i p
  next_old z =
      let k = rest p (omega arith) in
      k ∙ sym (cond-true (ltb 0 (get_or w p 0)) _ _ (lt-ltb 0 (get_or w p 0) (omega arith)))

-- the whole column after the round at p, from what was written there
module _ (m : Meaning) (side i p : ℕ) (taken w v : List ℕ)
    (here : (k : ℕ) → k < p → get_or v k 0 ≡ next m side taken w i k)
    (rest : (k : ℕ) → p ≤ k → get_or v k 0 ≡ get_or w k 0) where
  pub next_here : (x : ℕ) → p < length v → x ≡ next m side taken w i p → (k : ℕ) → k < p + 1 → get_or (set v p x) k 0 ≡ next m side taken w i k
  next_here x h e = below_more _ p (λ k l. let ne : k ≢ p = omega arith in get_or-set_other v p k x 0 ne ∙ here k l) (get_or-set_same v p x 0 h ∙ e)

  pub next_rest : (x k : ℕ) → p + 1 ≤ k → get_or (set v p x) k 0 ≡ get_or w k 0
  next_rest x k l = let ne : k ≢ p = omega arith in get_or-set_other v p k x 0 ne ∙ rest k (omega arith)

  pub pass_here : get_or v p 0 ≡ next m side taken w i p → (k : ℕ) → k < p + 1 → get_or v k 0 ≡ next m side taken w i k
  pass_here e = below_more _ p here e
