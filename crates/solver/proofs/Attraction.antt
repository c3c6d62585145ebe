-- The laws of attractors and ranks. A round that adds nothing is the last, and each one before it adds a position, so round
-- n is past the last; hence the attractor is closed, and a position of rank above 0 has a move, or all its moves, to a smaller
-- rank. Outside the attractor the side has no move into it, and the other side has a move that stays out.
use Rattle.std.proofs.Common.{◌≡◌, ℕ, zero, suc, ◌+◌, ◌<◌, ◌≤◌, Bool, true, false, cond, not, ◌&&◌, ◌||◌, eqb, ◌⊎◌, sym, refl, ap, ◌∙◌, subst, inl, inr, arith}
use Rattle.std.proofs.lemmas.Bool.{both_ways, not-true, not-false, not_from_false, eqb-true, eqb-false, eq-eqb, ne_eqb, cases_Bool, and_parts, and_from, or_cases, or_left, or_right, or_parts, cond-true, cond-false, cases_lt}
use Rattle.arena.specs.Arena.{Meaning, Lawful}
use Rattle.arena.specs.Sets.{any, all, upto, count, value_or}
use Rattle.solver.specs.Attractor.{round, rank}
use Rattle.arena.proofs.Basics.{In, Yes, No, asked, unless, any_true, any_from, any_false, all_true, all_from, all_false, in_upto, upto_in, least_found, count_upto_full, count_upto_more}
use Rattle.arena.proofs.Laws.{move_inside}

pub record Way (m : Meaning) (side : ℕ) (inside here : ℕ → Bool) (p : ℕ) : Type 0 where
  pub within : Yes inside p
  pub own : m.owner p ≡ side → (q : ℕ) × In q (m.moves p) × Yes here q
  pub other : (m.owner p ≡ side → ⊥) → (q : ℕ) → In q (m.moves p) → Yes inside q → Yes here q

module _ (m : Meaning) (side : ℕ) (inside target : ℕ → Bool) where
  abbrev pub R : ℕ → ℕ → Bool
  R i p = round m side inside target i p

  pub grows : (i p : ℕ) → Yes (R i) p → Yes (R (suc i)) p
  grows i p h = or_left (R i p) _ h

  pub grows_to : (i j p : ℕ) → i ≤ j → Yes (R i) p → Yes (R j) p
  grows_to i zero p l h = let e : i ≡ 0 = omega arith in subst (λ k. Yes (R k) p) e h
  grows_to i (suc j) p l h = go (cases_lt i (suc j)) (grows_to i j p)
    where
      go : (i < suc j) ⊎ (suc j ≤ i) → (i ≤ j → Yes (R i) p → Yes (R j) p) → Yes (R (suc j)) p
      go (inl a) ih = grows j p (ih (omega arith) h)
      go (inr a) ih = let e : i ≡ suc j = omega arith in subst (λ k. Yes (R k) p) e h

  pub step_own : (i p q : ℕ) → Yes inside p → m.owner p ≡ side → In q (m.moves p) → Yes (R i) q → Yes (R (suc i)) p
  step_own i p q w o n h =
      or_right (R i p) _ (and_from (inside p) _ w (cond-true (eqb (m.owner p) side) _ _ (eq-eqb (m.owner p) side o) ∙ any_from (R i) q (m.moves p) n h))

  pub step_other : (i p : ℕ) → Yes inside p → (m.owner p ≡ side → ⊥) → ((q : ℕ) → In q (m.moves p) → Yes inside q → Yes (R i) q) → Yes (R (suc i)) p
  step_other i p w o h =
      or_right (R i p) _ (and_from (inside p) _ w (cond-false (eqb (m.owner p) side) _ _ (ne_eqb (m.owner p) side o) ∙ all_from _ (m.moves p) (λ q n. unless (inside q) (R i q) (h q n))))

  -- how a round adds a position
  pub added : (i p : ℕ) → Yes (R (suc i)) p → No (R i) p → Way m side inside (R i) p
  added i p h n = go (or_cases (R i p) _ h)
    where
      go : (R i p ≡ true) ⊎ ((inside p && cond (eqb (m.owner p) side) (any (R i) (m.moves p)) (all (λ q. not (inside q) || R i q) (m.moves p))) ≡ true) → Way m side inside (R i) p
      go (inl e) = absurd (both_ways (R i p) n e)
      go (inr e) =
          let both = and_parts (inside p) _ e in
          record {
            within = both.0;
            own = λ o. any_true (R i) (m.moves p) (sym (cond-true (eqb (m.owner p) side) _ _ (eq-eqb (m.owner p) side o)) ∙ both.1);
            other = λ o q k w. asked (inside q) (R i q) (all_true _ (m.moves p) (sym (cond-false (eqb (m.owner p) side) _ _ (ne_eqb (m.owner p) side o)) ∙ both.1) q k) w;
          }

  pub round_inside : ((p : ℕ) → Yes target p → Yes inside p) → (i p : ℕ) → Yes (R i) p → Yes inside p
  round_inside t zero p h = t p h
  round_inside t (suc i) p h = go (cases_Bool (R i p)) (round_inside t i p)
    where
      go : (R i p ≡ true) ⊎ (R i p ≡ false) → (Yes (R i) p → Yes inside p) → Yes inside p
      go (inl e) ih = ih e
      go (inr e) ih = (added i p h e).within

  -- round i + 1 adds nothing
  abbrev pub Last : ℕ → Type 0
  Last i = (p : ℕ) → p < m.size → Yes (R (suc i)) p → Yes (R i) p

  pub last_next : Lawful m → (i : ℕ) → Last i → Last (suc i)
  last_next law i l p b h = go (cases_Bool (R (suc i) p))
    where
      go : (R (suc i) p ≡ true) ⊎ (R (suc i) p ≡ false) → Yes (R (suc i)) p
      go (inl e) = e
      go (inr e) = by (added (suc i) p h e) (cases_Bool (eqb (m.owner p) side))
        where
          by : Way m side inside (R (suc i)) p → (eqb (m.owner p) side ≡ true) ⊎ (eqb (m.owner p) side ≡ false) → Yes (R (suc i)) p
          by w (inl o) =
              let o' = eqb-true (m.owner p) side o in
              let r = w.own o' in
              step_own i p r.0 w.within o' r.1 (l r.0 (move_inside m law p r.0 b r.1) r.2)
          by w (inr o) =
              let o' = eqb-false (m.owner p) side o in
              step_other i p w.within o' (λ q k u. l q (move_inside m law p q b k) (w.other o' q k u))

  abbrev pub size_of : ℕ → ℕ
  size_of i = count (R i) (upto m.size)

  -- each round up to the last adds a position
  pub last_or_more : Lawful m → (i : ℕ) → Last i ⊎ (i + size_of 0 ≤ size_of i)
  last_or_more law zero = inr (omega arith)
  last_or_more law (suc i) = go (last_or_more law i) (cases_Bool (any new (upto m.size)))
    where
      new : ℕ → Bool
      new q = R (suc i) q && not (R i q)

      go : Last i ⊎ (i + size_of 0 ≤ size_of i) → (any new (upto m.size) ≡ true) ⊎ (any new (upto m.size) ≡ false) → Last (suc i) ⊎ (suc i + size_of 0 ≤ size_of (suc i))
      go (inl l) z = inl (last_next law i l)
      go (inr h) (inl z) =
          let r = any_true new (upto m.size) z in
          let b = and_parts (R (suc i) r.0) (not (R i r.0)) r.2 in
          let k = count_upto_more (R i) (R (suc i)) m.size (grows i) r.0 (upto_in m.size r.0 r.1) (not-true (R i r.0) b.1) b.0 in
          inr (omega arith)
      go (inr h) (inr z) = inl (last_next law i l)
        where
          l : Last i
          l p b y = elim (cases_Bool (R i p)) [ inl e ↦ e | inr e ↦ absurd (both_ways (new p) (any_false new (upto m.size) z p (in_upto m.size p b)) (and_from (R (suc i) p) (not (R i p)) y (not_from_false (R i p) e))) ]

  pub last_size : Lawful m → Last m.size
  last_size law p b h = go (last_or_more law m.size)
    where
      go : Last m.size ⊎ (m.size + size_of 0 ≤ size_of m.size) → Yes (R m.size) p
      go (inl l) = l p b h
      go (inr k) = count_upto_full (R m.size) m.size (omega arith) p b

  pub size_pos : (q : ℕ) → q < m.size → Yes target q → 0 < size_of 0
  size_pos q b t = let k = count_upto_more (λ _. false) (R 0) m.size (λ x h. absurd (both_ways false refl h)) q b refl t in omega arith

  -- where the target is not empty, the round before size is the last
  pub last_before : Lawful m → (q : ℕ) → q < m.size → Yes target q → (n : ℕ) → m.size ≡ suc n → (p : ℕ) → p < m.size → Yes (R m.size) p → Yes (R n) p
  last_before law q b t n e p c h = go (last_or_more law n)
    where
      go : Last n ⊎ (n + size_of 0 ≤ size_of n) → Yes (R n) p
      go (inl l) = l p c (subst (λ k. Yes (R k) p) e h)
      go (inr k) = let z = size_pos q b t in count_upto_full (R n) m.size (omega arith) p c

  -- the attractor, and the rank of a position in it
  abbrev pub A : ℕ → Bool
  A p = R m.size p

  abbrev pub rk : ℕ → ℕ
  rk p = value_or (rank m side inside target p) 0

  pub rk_below : (k p : ℕ) → k ≤ m.size → Yes (R k) p → Yes (R (rk p)) p × (rk p ≤ k)
  rk_below k p b h =
      let r = least_found (λ i. R i p) (suc m.size) k (omega arith) h in
      let e : r.0 ≡ rk p = sym (ap (λ o. value_or o 0) r.1) in
      (subst (λ i. Yes (R i) p) e r.3.here, subst (λ i. i ≤ k) e r.2)

  pub rk_here : (p : ℕ) → Yes A p → Yes (R (rk p)) p
  rk_here p h = (rk_below m.size p (omega arith) h).0

  pub rk_le : (k p : ℕ) → k ≤ m.size → Yes (R k) p → rk p ≤ k
  rk_le k p b h = (rk_below k p b h).1

  pub rk_size : (p : ℕ) → Yes A p → rk p ≤ m.size
  rk_size p h = rk_le m.size p (omega arith) h

  pub rk_target : (p : ℕ) → Yes target p → rk p ≡ 0
  rk_target p h = let k = rk_le 0 p (omega arith) h in omega arith

  pub target_in : (p : ℕ) → Yes target p → Yes A p
  target_in p h = grows_to 0 m.size p (omega arith) h

  pub rk_zero : (p : ℕ) → Yes A p → rk p ≡ 0 → Yes target p
  rk_zero p h e = subst (λ i. Yes (R i) p) e (rk_here p h)

  -- how a position with a rank above zero comes nearer
  pub record Nearer (p : ℕ) : Type 0 where
    pub within : Yes inside p
    pub own : m.owner p ≡ side → (q : ℕ) × In q (m.moves p) × Yes A q × (rk q < rk p)
    pub other : (m.owner p ≡ side → ⊥) → (q : ℕ) → In q (m.moves p) → Yes inside q → Yes A q × (rk q < rk p)

  pub nearer : (p : ℕ) → Yes A p → 0 < rk p → Nearer p
  nearer p h z = go (rk p) refl (rk_here p h)
    where
      go : (j : ℕ) → rk p ≡ j → Yes (R j) p → Nearer p
      go zero e y = absurd (omega arith)
      go (suc i) e y = by (cases_Bool (R i p))
        where
          l : i ≤ m.size
          l = omega (arith, rk_size p h)

          close : (q : ℕ) → Yes (R i) q → Yes A q × (rk q < rk p)
          close q u = (grows_to i m.size q l u, let k = rk_le i q l u in omega arith)

          by : (R i p ≡ true) ⊎ (R i p ≡ false) → Nearer p
          by (inl u) = absurd (let k = rk_le i p l u in omega arith)
          by (inr u) =
              let w : Way m side inside (R i) p = added i p y u in
              record {
                within = w.within;
                own = λ o. let r = w.own o in let c = close r.0 r.2 in (r.0, r.1, c.0, c.1);
                other = λ o q n v. close q (w.other o q n v);
              }

  -- the attractor is closed: from outside it the side has no move into it, and the other side has one that stays out
  pub kept_out : Lawful m → (p q : ℕ) → p < m.size → Yes inside p → No A p → m.owner p ≡ side → In q (m.moves p) → No A q
  kept_out law p q b w n o i =
      elim (cases_Bool (A q)) [ inl e ↦ absurd (both_ways (A p) n (last_size law p b (step_own m.size p q w o i e))) | inr e ↦ e ]

  pub way_out : Lawful m → (p : ℕ) → p < m.size → Yes inside p → No A p → (m.owner p ≡ side → ⊥) → (q : ℕ) × In q (m.moves p) × Yes inside q × No A q
  way_out law p b w n o = go (cases_Bool (all (λ q. not (inside q) || A q) (m.moves p)))
    where
      go : (all (λ q. not (inside q) || A q) (m.moves p) ≡ true) ⊎ (all (λ q. not (inside q) || A q) (m.moves p) ≡ false) → (q : ℕ) × In q (m.moves p) × Yes inside q × No A q
      go (inl e) = absurd (both_ways (A p) n (last_size law p b (step_other m.size p w o (λ q i v. asked (inside q) (A q) (all_true _ (m.moves p) e q i) v))))
      go (inr e) =
          let r = all_false (λ q. not (inside q) || A q) (m.moves p) e in
          let c = or_parts (not (inside r.0)) (A r.0) r.2 in
          (r.0, r.1, not-false (inside r.0) c.0, c.1)

  -- where every position inside has a move inside, an attractor that is not empty has a target that is not
  pub has_target : Lawful m → ((p : ℕ) → p < m.size → Yes inside p → (q : ℕ) × In q (m.moves p) × Yes inside q) → (i p : ℕ) → p < m.size → Yes (R i) p → (q : ℕ) × (q < m.size) × Yes target q
  has_target law live zero p b h = (p, b, h)
  has_target law live (suc i) p b h = go (cases_Bool (R i p)) (has_target law live i)
    where
      go : (R i p ≡ true) ⊎ (R i p ≡ false) → ((s : ℕ) → s < m.size → Yes (R i) s → (q : ℕ) × (q < m.size) × Yes target q) → (q : ℕ) × (q < m.size) × Yes target q
      go (inl e) ih = ih p b e
      go (inr e) ih = by (added i p h e) (cases_Bool (eqb (m.owner p) side))
        where
          by : Way m side inside (R i) p → (eqb (m.owner p) side ≡ true) ⊎ (eqb (m.owner p) side ≡ false) → (q : ℕ) × (q < m.size) × Yes target q
          by w (inl o) = let r = w.own (eqb-true (m.owner p) side o) in ih r.0 (move_inside m law p r.0 b r.1) r.2
          by w (inr o) =
              let r = live p b w.within in
              ih r.0 (move_inside m law p r.0 b r.1) (w.other (eqb-false (m.owner p) side o) r.0 r.1 r.2)

  pub rk_lt : Lawful m → ((p : ℕ) → p < m.size → Yes inside p → (q : ℕ) × In q (m.moves p) × Yes inside q) → (p : ℕ) → p < m.size → Yes A p → rk p < m.size
  rk_lt law live p b h = go m.size refl
    where
      go : (n : ℕ) → m.size ≡ n → rk p < m.size
      go zero e = absurd (omega arith)
      go (suc n) e =
          let t = has_target law live m.size p b h in
          let k = rk_le n p (omega arith) (last_before law t.0 t.1 t.2 n e p b h) in
          omega arith
