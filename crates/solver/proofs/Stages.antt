-- The laws of the stages. What is left after each stage is closed: the traffic cannot leave it, and every position has a
-- move that stays. Each stage takes a position, so the stages end, and then no goal has a core.
use Rattle.std.proofs.Common.{◌≡◌, ℕ, zero, suc, ◌+◌, ◌<◌, ◌≤◌, Bool, true, false, not, ◌&&◌, ◌⊎◌, get_or, Some, None, Option, sym, refl, ap, ◌∙◌, subst, inl, inr, arith}
use Rattle.std.proofs.lemmas.Bool.{both_ways, not-true, not_from_false, not_from_true, lt-ltb, ltb-true, cases_Bool, and_parts, and_from, and_right, cases_lt, cases_eq}
use Rattle.arena.specs.Arena.{Meaning, Lawful}
use Rattle.arena.specs.Sets.{any, upto, count, value_or, holds}
use Rattle.solver.specs.Solution.{target, core, missed, without, left, stages}
use Rattle.arena.proofs.Basics.{In, Yes, No, any_true, any_false, in_upto, upto_in, front, Least, seek_some, least_none, least_found, cases_option, count_upto, count_upto_more}
use Rattle.arena.proofs.Laws.{move_inside}
use Rattle.solver.proofs.Attraction.{A, kept_out, way_out, target_in}

-- every position of X has a move in X, and every move of a traffic's one is in X
pub record Closed (m : Meaning) (X : ℕ → Bool) : Type 0 where
  pub below : (p : ℕ) → Yes X p → p < m.size
  pub some : (p : ℕ) → Yes X p → (q : ℕ) × In q (m.moves p) × Yes X q
  pub traffic : (p : ℕ) → Yes X p → m.owner p ≡ 1 → (q : ℕ) → In q (m.moves p) → Yes X q

pub some_number : (o : Option ℕ) (g : ℕ) → o ≡ Some g → value_or o 0 ≡ g
some_number o g e = ap (λ x. value_or x 0) e

module _ (m : Meaning) where
  pub without_in : (o : Option ℕ) (X : ℕ → Bool) (p : ℕ) → Yes (without m o X) p → Yes X p
  without_in None X p h = h
  without_in (Some g) X p h = (and_parts (X p) _ h).0

  pub core_in : (X : ℕ → Bool) (g p : ℕ) → Yes (core m X g) p → Yes X p
  core_in X g p h = (and_parts (X p) _ h).0

  pub target_inside : (X : ℕ → Bool) (g p : ℕ) → Yes (target m X g) p → Yes X p
  target_inside X g p h = (and_parts (X p) _ h).0

  pub missed_some : (X : ℕ → Bool) (g : ℕ) → missed m X ≡ Some g → (g < m.goals) × ((p : ℕ) × (p < m.size) × Yes (core m X g) p)
  missed_some X g e =
      let r : Least (λ h. any (core m X h) (upto m.size)) 0 m.goals g = seek_some _ 0 m.goals g e in
      let a = any_true (core m X g) (upto m.size) r.here in
      (omega (arith, r.below), (a.0, upto_in m.size a.0 a.1, a.2))

  pub missed_none : (X : ℕ → Bool) → missed m X ≡ None → (g p : ℕ) → g < m.goals → p < m.size → Yes X p → Yes (A m 0 X (target m X g)) p
  missed_none X e g p h b y = go (cases_Bool (A m 0 X (target m X g) p))
    where
      no : No (core m X g) p
      no = any_false (core m X g) (upto m.size) (least_none (λ k. any (core m X k) (upto m.size)) m.goals e g h) p (in_upto m.size p b)

      go : (A m 0 X (target m X g) p ≡ true) ⊎ (A m 0 X (target m X g) p ≡ false) → Yes (A m 0 X (target m X g)) p
      go (inl u) = u
      go (inr u) = absurd (both_ways (core m X g p) no (and_from (X p) (not (A m 0 X (target m X g) p)) y (not_from_false _ u)))

module _ (m : Meaning) (law : Lawful m) where
  pub closed_zero : Closed m (left m 0)
  closed_zero = record {
    below = λ p h. ltb-true p m.size h;
    some = λ p h. let b = ltb-true p m.size h in let i = front (m.moves p) (law.some p b) in (get_or (m.moves p) 0 0, i, lt-ltb (get_or (m.moves p) 0 0) m.size (move_inside m law p (get_or (m.moves p) 0 0) b i));
    traffic = λ p h o q n. lt-ltb q m.size (move_inside m law p q (ltb-true p m.size h) n);
  }

  pub closed_without : (o : Option ℕ) (X : ℕ → Bool) → Closed m X → Closed m (without m o X)
  closed_without None X c = record { below = c.below; some = c.some; traffic = c.traffic }
  closed_without (Some g) X c = record {
    below = λ p h. c.below p (parts p h).0;
    some = λ p h. some_move p (parts p h).0 (not-true (B p) (parts p h).1) (cases_eq (m.owner p) 1);
    traffic = λ p h o q n. keeps p q (parts p h).0 (not-true (B p) (parts p h).1) o n;
  }
    where
      B : ℕ → Bool
      B = A m 1 X (core m X g)

      parts : (p : ℕ) → (X p && not (B p)) ≡ true → (X p ≡ true) × (not (B p) ≡ true)
      parts p h = and_parts (X p) (not (B p)) h

      keeps : (p q : ℕ) → Yes X p → No B p → m.owner p ≡ 1 → In q (m.moves p) → (X q && not (B q)) ≡ true
      keeps p q x n o i =
          and_from (X q) (not (B q)) (c.traffic p x o q i) (not_from_false (B q) (kept_out m 1 X (core m X g) law p q (c.below p x) x n o i))

      some_move : (p : ℕ) → Yes X p → No B p → (m.owner p ≡ 1) ⊎ (m.owner p ≡ 1 → ⊥) → (q : ℕ) × In q (m.moves p) × ((X q && not (B q)) ≡ true)
      some_move p x n (inl o) = let r = c.some p x in (r.0, r.1, keeps p r.0 x n o r.1)
      some_move p x n (inr o) =
          let r = way_out m 1 X (core m X g) law p (c.below p x) x n o in
          (r.0, r.1, and_from (X r.0) (not (B r.0)) r.2 (not_from_false (B r.0) r.3))

  pub closed_left : (s : ℕ) → Closed m (left m s)
  closed_left zero = closed_zero
  closed_left (suc s) = closed_without (missed m (left m s)) (left m s) (closed_left s)

  pub shrinks : (s p : ℕ) → Yes (left m (suc s)) p → Yes (left m s) p
  shrinks s p h = without_in m (missed m (left m s)) (left m s) p h

  pub shrinks_to : (s t p : ℕ) → s ≤ t → Yes (left m t) p → Yes (left m s) p
  shrinks_to s zero p l h = let e : 0 ≡ s = omega arith in subst (λ k. Yes (left m k) p) e h
  shrinks_to s (suc t) p l h = go (cases_lt s (suc t)) (shrinks_to s t p)
    where
      go : (s < suc t) ⊎ (suc t ≤ s) → (s ≤ t → Yes (left m t) p → Yes (left m s) p) → Yes (left m s) p
      go (inl a) ih = ih (omega arith) (shrinks t p h)
      go (inr a) ih = let e : suc t ≡ s = omega arith in subst (λ k. Yes (left m k) p) e h

  -- what a stage takes is what the traffic attracts to the core
  pub taken : (s g p : ℕ) → missed m (left m s) ≡ Some g → Yes (A m 1 (left m s) (core m (left m s) g)) p → No (left m (suc s)) p
  taken s g p e h = ap (λ o. without m o (left m s) p) e ∙ and_right (left m s p) _ (not_from_true _ h)

  pub taken_back : (s g p : ℕ) → missed m (left m s) ≡ Some g → Yes (left m s) p → No (left m (suc s)) p → Yes (A m 1 (left m s) (core m (left m s) g)) p
  taken_back s g p e y h = go (cases_Bool (A m 1 (left m s) (core m (left m s) g) p))
    where
      go : (A m 1 (left m s) (core m (left m s) g) p ≡ true) ⊎ (A m 1 (left m s) (core m (left m s) g) p ≡ false) → Yes (A m 1 (left m s) (core m (left m s) g)) p
      go (inl u) = u
      go (inr u) = absurd (both_ways (left m (suc s) p) h (ap (λ o. without m o (left m s) p) e ∙ and_from (left m s p) _ y (not_from_false _ u)))

  abbrev pub remains : ℕ → ℕ
  remains s = count (left m s) (upto m.size)

  pub stage_takes : (s g : ℕ) → missed m (left m s) ≡ Some g → remains (suc s) < remains s
  stage_takes s g e =
      let r = (missed_some m (left m s) g e).1 in
      count_upto_more (left m (suc s)) (left m s) m.size (shrinks s) r.0 r.1
      (taken s g r.0 e (target_in m 1 (left m s) (core m (left m s) g) r.0 r.2))
      (core_in m (left m s) g r.0 r.2)

  pub ends_or_less : (s : ℕ) → ((t : ℕ) × (t ≤ s) × (missed m (left m t) ≡ None)) ⊎ (remains s + s ≤ m.size)
  ends_or_less zero = inr (omega (arith, count_upto (left m 0) m.size))
  ends_or_less (suc s) = go (ends_or_less s) (cases_option (missed m (left m s)))
    where
      go : ((t : ℕ) × (t ≤ s) × (missed m (left m t) ≡ None)) ⊎ (remains s + s ≤ m.size) → (missed m (left m s) ≡ None) ⊎ ((g : ℕ) × (missed m (left m s) ≡ Some g)) → ((t : ℕ) × (t ≤ suc s) × (missed m (left m t) ≡ None)) ⊎ (remains (suc s) + suc s ≤ m.size)
      go (inl t) z = inl (t.0, omega (arith, t.1), t.2)
      go (inr h) (inl z) = inl (s, omega arith, z)
      go (inr h) (inr z) = let k = stage_takes s z.0 z.1 in inr (omega arith)

  pub ends : (t : ℕ) × (t ≤ m.size) × (missed m (left m t) ≡ None)
  ends = go (ends_or_less m.size) (cases_option (missed m (left m m.size)))
    where
      go : ((t : ℕ) × (t ≤ m.size) × (missed m (left m t) ≡ None)) ⊎ (remains m.size + m.size ≤ m.size) → (missed m (left m m.size) ≡ None) ⊎ ((g : ℕ) × (missed m (left m m.size) ≡ Some g)) → (t : ℕ) × (t ≤ m.size) × (missed m (left m t) ≡ None)
      go (inl t) z = t
      go (inr h) (inl z) = (m.size, omega arith, z)
      go (inr h) (inr z) = let k = stage_takes m.size z.0 z.1 in absurd (omega arith)

  pub record Ended (n : ℕ) : Type 0 where
    pub small : n ≤ m.size
    pub none : missed m (left m n) ≡ None
    pub some : (s : ℕ) → s < n → (g : ℕ) × (missed m (left m s) ≡ Some g)

  pub holds_not : (o : Option ℕ) → not (holds o) ≡ true → o ≡ None
  holds_not None h = refl
  holds_not (Some g) h = absurd (both_ways false refl h)

  pub holds_some : (o : Option ℕ) → not (holds o) ≡ false → (g : ℕ) × (o ≡ Some g)
  holds_some None h = absurd (both_ways true h refl)
  holds_some (Some g) h = (g, refl)

  pub ended : Ended (stages m)
  ended =
      let e = ends in
      let r = least_found (λ s. not (holds (missed m (left m s)))) (suc m.size) e.0 (omega arith) (ap (λ o. not (holds o)) e.2) in
      subst Ended (sym (some_number _ r.0 r.1)) (record {
        small = omega (arith, r.3.below);
        none = holds_not _ r.3.here;
        some = λ s h. holds_some _ (r.3.sooner s (omega arith) h);
      })
