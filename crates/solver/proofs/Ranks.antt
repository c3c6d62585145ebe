-- Ranks built round by round. A column holds the rank as found in the rounds so far; a round that changes nothing is the
-- last, and then these are the ranks.
use Rattle.std.proofs.Common.{◌≡◌, ℕ, zero, suc, ◌+◌, ◌<◌, ◌≤◌, Bool, true, false, cond, ◌&&◌, ◌||◌, ltb, ◌⊎◌, List, length, get_or, Some, None, Option, sym, refl, ap, ◌∙◌, subst, inl, inr, arith}
use Rattle.std.proofs.lemmas.List.{get_or_past}
use Rattle.std.proofs.lemmas.Bool.{both_ways, cases_lt, cases_Bool, lt-ltb, le-ltb, and_left, or_from, cond-true, cond-false}
use Rattle.arena.specs.Arena.{Meaning, Lawful}
use Rattle.arena.specs.Sets.{seek, least}
use Rattle.arena.proofs.Basics.{Yes, No, Least, seek_some, least_found, cases_option}
use Rattle.solver.specs.Attractor.{round, rank}
use Rattle.solver.specs.Columns.{Ranks, code, present, by_round, drawn_in, next}
use Rattle.solver.proofs.Attraction.{R, grows_to, Last, last_next}
use Rattle.solver.proofs.Rounds.{Early, early_zero, early_there}

-- beyond the positions there is nothing
pub present_outside : (taken : List ℕ) (p : ℕ) → length taken ≤ p → present taken p ≡ false
present_outside taken p h = and_left (ltb p (length taken)) _ (le-ltb p (length taken) h)

gap : (a b : ℕ) → a ≤ b → (d : ℕ) × (b ≡ a + d)
gap zero b l = (b, omega arith)
gap (suc a) zero l = absurd (omega arith)
gap (suc a) (suc b) l = let r = gap a b (omega arith) in (r.0, let e = r.1 in omega arith)

-- a search, and where it finds nothing another
abbrev pub or_else : Option ℕ → Option ℕ → Option ℕ
or_else None y = y
or_else (Some x) y = Some x

-- what came first, with one more number tried
seek_more : (f : ℕ → Bool) (a c : ℕ) → seek f a (suc c) ≡ or_else (seek f a c) (cond (f (a + c)) (Some (a + c)) None)
seek_more f a zero = let e : a ≡ a + 0 = omega arith in ap (λ x. cond (f x) (Some x) None) e
seek_more f a (suc c) = go (f a) (seek_more f (a + 1) c)
  where
    go : (b : Bool) → seek f (a + 1) (suc c) ≡ or_else (seek f (a + 1) c) (cond (f (a + 1 + c)) (Some (a + 1 + c)) None) → cond b (Some a) (seek f (a + 1) (suc c)) ≡ or_else (cond b (Some a) (seek f (a + 1) c)) (cond (f (a + suc c)) (Some (a + suc c)) None)
    go true e = refl
    go false e =
        let s : a + 1 + c ≡ a + suc c = omega arith in
        e ∙ ap (λ x. or_else (seek f (a + 1) c) (cond (f x) (Some x) None)) s

pub least_more : (f : ℕ → Bool) (n : ℕ) → least f (suc n) ≡ or_else (least f n) (cond (f n) (Some n) None)
least_more f n =
    let e : 0 + n ≡ n = omega arith in
    seek_more f 0 n ∙ ap (λ x. or_else (least f n) (cond (f x) (Some x) None)) e

-- a search for what, once there, stays
module _ (f : ℕ → Bool) (grows : (i j : ℕ) → i ≤ j → Yes f i → Yes f j) where
  pub least_yes : (i : ℕ) → Yes f i → (j : ℕ) × (least f (suc i) ≡ Some j) × (j ≤ i)
  least_yes i y = let r = least_found f (suc i) i (omega arith) y in (r.0, r.1, r.2)

  pub least_no : (i : ℕ) → No f i → least f (suc i) ≡ None
  least_no i z =
      elim (cases_option (least f (suc i))) [
        | inl e ↦ e
        | inr e ↦
            let r : Least f 0 (suc i) e.0 = seek_some f 0 (suc i) e.0 e.1 in
            absurd (both_ways (f i) z (grows e.0 i (omega (arith, r.below)) r.here))
      ]

  pub early_least : (i : ℕ) → Early i (code (least f (suc i))) ≡ f i
  early_least i =
      elim (cases_Bool (f i)) [
        | inl y ↦
            let r = least_yes i y in
            ap (λ o. Early i (code o)) r.1 ∙ early_there i (suc r.0) (omega arith) (omega (arith, r.2)) ∙ sym y
        | inr z ↦ ap (λ o. Early i (code o)) (least_no i z) ∙ sym z
      ]

  pub there_least : (i : ℕ) → ltb 0 (code (least f (suc i))) ≡ f i
  there_least i =
      elim (cases_Bool (f i)) [
        | inl y ↦ let r = least_yes i y in ap (λ o. ltb 0 (code o)) r.1 ∙ lt-ltb 0 (suc r.0) (omega arith) ∙ sym y
        | inr z ↦ ap (λ o. ltb 0 (code o)) (least_no i z) ∙ sym z
      ]

  pub code_more : (i : ℕ) (b : Bool) → f (suc i) ≡ (f i || b) → cond (f i) (code (least f (suc i))) (cond b (i + 2) 0) ≡ code (least f (suc (suc i)))
  code_more i b e =
      elim (cases_Bool (f i)) [
        | inl y ↦
            let r = least_yes i y in
            cond-true (f i) _ _ y ∙ ap code (r.1 ∙ sym (least_more f (suc i) ∙ ap (λ o. or_else o (cond (f (suc i)) (Some (suc i)) None)) r.1))
        | inr z ↦
            cond-false (f i) _ _ z
            ∙ later b
            ∙ sym (ap code (least_more f (suc i) ∙ ap (λ o. or_else o (cond (f (suc i)) (Some (suc i)) None)) (least_no i z) ∙ ap (λ d. cond d (Some (suc i)) None) (e ∙ ap (λ d. d || b) z)))
      ]
    where
      later : (d : Bool) → cond d (i + 2) 0 ≡ code (cond d (Some (suc i)) None)
      later true = omega arith
      later false = refl

  -- once nothing more comes, the search is over
  pub least_over : (i : ℕ) → ((j : ℕ) → i ≤ j → Yes f j → Yes f i) → (d : ℕ) → least f (suc (i + d)) ≡ least f (suc i)
  least_over i over zero = let e : i + 0 ≡ i = omega arith in ap (λ k. least f (suc k)) e
  least_over i over (suc d) =
      let e : i + suc d ≡ suc (i + d) = omega arith in
      ap (λ k. least f (suc k)) e ∙ least_more f (suc (i + d)) ∙ ap (λ o. or_else o (cond (f (suc (i + d))) (Some (suc (i + d))) None)) (least_over i over d) ∙ go (cases_Bool (f i))
    where
      go : (f i ≡ true) ⊎ (f i ≡ false) → or_else (least f (suc i)) (cond (f (suc (i + d))) (Some (suc (i + d))) None) ≡ least f (suc i)
      go (inl y) = let r = least_yes i y in ap (λ o. or_else o (cond (f (suc (i + d))) (Some (suc (i + d))) None)) r.1 ∙ sym r.1
      go (inr z) =
          ap (λ o. or_else o (cond (f (suc (i + d))) (Some (suc (i + d))) None)) (least_no i z)
          ∙ cond-false (f (suc (i + d))) _ _ (gone (cases_Bool (f (suc (i + d)))))
          ∙ sym (least_no i z)
        where
          gone : (f (suc (i + d)) ≡ true) ⊎ (f (suc (i + d)) ≡ false) → f (suc (i + d)) ≡ false
          gone (inl y) = absurd (both_ways (f i) z (over (suc (i + d)) (omega arith) y))
          gone (inr y) = y

-- the rounds of the attractor of what passes a test inside what no stage has taken
module _ (m : Meaning) (side : ℕ) (taken : List ℕ) (long : length taken ≡ m.size) (test : ℕ → Bool) where
  abbrev n : ℕ
  n = m.size

  abbrev I : ℕ → Bool
  I = present taken

  abbrev T : ℕ → Bool
  T p = present taken p && test p

  -- the number for k once round i is done
  abbrev pub number : ℕ → ℕ → ℕ
  number i k = code (least (λ j. round m side I T j k) (suc i))

  rising : (k i j : ℕ) → i ≤ j → Yes (R m side I T i) k → Yes (R m side I T j) k
  rising k i j l h = grows_to m side I T i j k l h

  outside : (i p : ℕ) → n ≤ p → round m side I T i p ≡ false
  outside zero p h = and_left (I p) _ (present_outside taken p (omega arith))
  outside (suc i) p h = or_from (round m side I T i p) _ (outside i p h) (and_left (I p) _ (present_outside taken p (omega arith)))

  pub number_start : (x k : ℕ) → x ≡ cond (T k) 1 0 → x ≡ number 0 k
  number_start x k e = e ∙ go (T k)
    where
      go : (b : Bool) → cond b 1 0 ≡ code (cond b (Some 0) None)
      go true = refl
      go false = refl

  -- a round done on the numbers of round i gives those of round i + 1
  module _ (i : ℕ) (v : List ℕ) (same : length v ≡ m.size) (c : (k : ℕ) → k < m.size → get_or v k 0 ≡ number i k) where
    by_is : by_round v i ≡ round m side I T i
    by_is = λ j p. go p j
      where
        go : (p : ℕ) → by_round v i p ≡ round m side I T i p
        go p =
            elim (cases_lt p n) [
              | inl h ↦ ap (Early i) (c p h) ∙ early_least (λ j. round m side I T j p) (rising p) i
              | inr h ↦ early_zero i (get_or v p 0) (get_or_past v p 0 (omega arith)) ∙ sym (outside i p h)
            ]

    pub number_next : (u : List ℕ) → ((k : ℕ) → k < m.size → get_or u k 0 ≡ next m side taken v i k) → (k : ℕ) → k < m.size → get_or u k 0 ≡ number (suc i) k
    number_next u d k h =
        d k h
        ∙ (λ j. cond (ltb 0 (c k h j)) (c k h j) (cond (drawn_in m side I (by_is j) k) (i + 2) 0))
        ∙ ap (λ b. cond b (number i k) (cond (drawn_in m side I (round m side I T i) k) (i + 2) 0)) (there_least (λ j. round m side I T j k) (rising k) i)
        ∙ code_more (λ j. round m side I T j k) (rising k) i (drawn_in m side I (round m side I T i) k) refl

    -- where the round changed nothing, all ranks are there
    pub number_over : Lawful m → i ≤ m.size → (u : List ℕ) → ((k : ℕ) → k < m.size → get_or u k 0 ≡ next m side taken v i k) → u ≡ v → Ranks m side I T u
    number_over law small u d stays = λ k h. number_next u d k h ∙ whole k h
      where
        last : Last m side I T i
        last k h y =
            elim (cases_Bool (round m side I T i k)) [
              | inl e ↦ e
              | inr e ↦
                  absurd (
                  let r = least_yes (λ j. round m side I T j k) (rising k) (suc i) y in
                  let z : number i k ≡ 0 = ap code (least_no (λ j. round m side I T j k) (rising k) i e) in
                  let s : number (suc i) k ≡ suc r.0 = ap code r.1 in
                  let a = number_next u d k h in
                  let b = c k h in
                  let o = ap (λ (xs : List ℕ). get_or xs k 0) stays in
                  omega arith
                  )
            ]

        from : (d : ℕ) → Last m side I T (i + d)
        from zero = let e : i ≡ i + 0 = omega arith in subst (Last m side I T) e last
        from (suc d) = let e : suc (i + d) ≡ i + suc d = omega arith in subst (Last m side I T) e (last_next m side I T law (i + d) (from d))

        back : (k d : ℕ) → k < n → Yes (R m side I T (i + d)) k → Yes (R m side I T i) k
        back k zero h y = let e : i + 0 ≡ i = omega arith in subst (λ j. Yes (R m side I T j) k) e y
        back k (suc d) h y = let e : i + suc d ≡ suc (i + d) = omega arith in back k d h (from d k h (subst (λ j. Yes (R m side I T j) k) e y))

        over : (k : ℕ) → k < n → (j : ℕ) → i ≤ j → Yes (R m side I T j) k → Yes (R m side I T i) k
        over k h j l y = let r = gap i j l in back k r.0 h (subst (λ j. Yes (R m side I T j) k) r.1 y)

        whole : (k : ℕ) → k < n → number (suc i) k ≡ code (rank m side I T k)
        whole k h =
            let r = gap i n small in
            let o = least_over (λ j. round m side I T j k) (rising k) i (over k h) in
            let e : suc i ≡ i + 1 = omega arith in
            ap code (ap (λ j. least (λ j. round m side I T j k) (suc j)) e ∙ o 1 ∙ sym (o r.0) ∙ ap (λ j. least (λ j. round m side I T j k) (suc j)) (sym r.1))
