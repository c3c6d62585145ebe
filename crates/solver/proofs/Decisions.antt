-- What the solution decides at each position: in the controller's part every goal has a rank and a move to a smaller one,
-- and in the traffic's part a good step always is there, by the approach before the core and by staying in it afterwards.
use Rattle.std.proofs.Common.{◌≡◌, ℕ, zero, suc, ◌<◌, ◌≤◌, Bool, true, false, not, ◌&&◌, ◌||◌, eqb, ltb, ◌⊎◌, Some, sym, refl, ap, ◌∙◌, subst, inl, inr, arith}
use Rattle.std.proofs.lemmas.Bool.{both_ways, not-true, not-false, not_from_false, eq-eqb, ne_eqb, lt-ltb, cases_Bool, and_parts, and_from, or_left, or_right, cond-true, cond-false, cases_lt, cases_eq}
use Rattle.arena.specs.Arena.{Meaning, Lawful}
use Rattle.arena.specs.Sets.{first, value_or}
use Rattle.solver.specs.Solution.{target, core, missed, left, stages, final, earlier, stage, given_up, approach, goal_rank, nearer, good_step, goal_move, traffic_move}
use Rattle.arena.proofs.Basics.{In, Yes, No, least_found, first_is}
use Rattle.arena.proofs.Laws.{move_inside}
use Rattle.solver.proofs.Attraction.{A, rk, rk_lt, rk_zero, rk_target, Nearer, nearer as come-nearer, kept_out, way_out, target_in, round_inside}
use Rattle.solver.proofs.Stages.{Closed, some_number, core_in, target_inside, missed_some, missed_none, closed_left, shrinks_to, taken, taken_back, ended}

-- the controller's part
module _ (m : Meaning) (law : Lawful m) (g : ℕ) (goal : g < m.goals) where
  abbrev F : ℕ → Bool
  F = final m

  abbrev G : ℕ → Bool
  G = target m (final m) g

  pub final_closed : Closed m (final m)
  final_closed = closed_left m law (stages m)

  pub reaches : (p : ℕ) → Yes F p → Yes (A m 0 F G) p
  reaches p h = missed_none m F (ended m law).none g p goal (final_closed.below p h) h

  pub rank_small : (p : ℕ) → Yes F p → goal_rank m g p < m.size
  rank_small p h = rk_lt m 0 F G law (λ q b y. final_closed.some q y) p (final_closed.below p h) (reaches p h)

  pub rank_marked : (p : ℕ) → Yes F p → goal_rank m g p ≡ 0 → m.marked p g ≡ true
  rank_marked p h e = (and_parts (F p) (m.marked p g) (rk_zero m 0 F G p (reaches p h) e)).1

  pub marked_rank : (p : ℕ) → Yes F p → m.marked p g ≡ true → goal_rank m g p ≡ 0
  marked_rank p h e = rk_target m 0 F G p (and_from (F p) (m.marked p g) h e)

  pub nearer_from : (p q : ℕ) → Yes F q → (goal_rank m g p ≡ 0) ⊎ (goal_rank m g q < goal_rank m g p) → nearer m g p q ≡ true
  nearer_from p q h (inl e) = and_from (F q) _ h (or_left (eqb (goal_rank m g p) 0) _ (eq-eqb (goal_rank m g p) 0 e))
  nearer_from p q h (inr e) = and_from (F q) _ h (or_right (eqb (goal_rank m g p) 0) _ (lt-ltb (goal_rank m g q) (goal_rank m g p) e))

  pub all_nearer : (p : ℕ) → Yes F p → m.owner p ≡ 1 → (q : ℕ) → In q (m.moves p) → nearer m g p q ≡ true
  all_nearer p h o q n = nearer_from p q y (go (cases_eq (goal_rank m g p) 0))
    where
      y : Yes F q
      y = final_closed.traffic p h o q n

      go : (goal_rank m g p ≡ 0) ⊎ (goal_rank m g p ≡ 0 → ⊥) → (goal_rank m g p ≡ 0) ⊎ (goal_rank m g q < goal_rank m g p)
      go (inl e) = inl e
      go (inr e) =
          let w : Nearer m 0 F G p = come-nearer m 0 F G p (reaches p h) (omega arith) in
          inr (w.other (λ z. omega arith) q n y).1

  pub some_nearer : (p : ℕ) → Yes F p → m.owner p ≡ 0 → (q : ℕ) × In q (m.moves p) × (nearer m g p q ≡ true)
  some_nearer p h o = go (cases_eq (goal_rank m g p) 0)
    where
      go : (goal_rank m g p ≡ 0) ⊎ (goal_rank m g p ≡ 0 → ⊥) → (q : ℕ) × In q (m.moves p) × (nearer m g p q ≡ true)
      go (inl e) = let r = final_closed.some p h in (r.0, r.1, nearer_from p r.0 r.2 (inl e))
      go (inr e) =
          let w : Nearer m 0 F G p = come-nearer m 0 F G p (reaches p h) (omega arith) in
          let r = w.own o in
          (r.0, r.1, nearer_from p r.0 (round_inside m 0 F G (target_inside m F g) m.size r.0 r.2) (inr r.3))

  pub goal_move_other : (p : ℕ) → m.owner p ≡ 1 → goal_move m g p ≡ 65535
  goal_move_other p o = cond-false (eqb (m.owner p) 0) _ _ (ne_eqb (m.owner p) 0 (λ e. omega arith))

  pub goal_move_own : (p : ℕ) → Yes F p → m.owner p ≡ 0 → In (goal_move m g p) (m.moves p) × (nearer m g p (goal_move m g p) ≡ true)
  goal_move_own p h o =
      let r = some_nearer p h o in
      let e : goal_move m g p ≡ first (nearer m g p) 65535 (m.moves p) = cond-true (eqb (m.owner p) 0) _ _ (eq-eqb (m.owner p) 0 o) in
      subst (λ q. In q (m.moves p) × (nearer m g p q ≡ true)) (sym e) (first_is (nearer m g p) 65535 r.0 (m.moves p) r.1 r.2)

-- the traffic's part
module _ (m : Meaning) (law : Lawful m) where
  -- the goal that stage s picks, what the traffic attracts to the core in it, and how near a position is
  abbrev pub pick : ℕ → ℕ
  pick s = value_or (missed m (left m s)) 0

  abbrev pub C : ℕ → ℕ → Bool
  C s = core m (left m s) (pick s)

  abbrev pub B : ℕ → ℕ → Bool
  B s = A m 1 (left m s) (C s)

  abbrev pub near : ℕ → ℕ → ℕ
  near s p = rk m 1 (left m s) (C s) p

  pub record Taken (s p : ℕ) : Type 0 where
    pub early : s < stages m
    pub present : Yes (left m s) p
    pub gone : No (left m (suc s)) p

  pub taken_at : (p : ℕ) → p < m.size → No (final m) p → Taken (earlier m p) p
  taken_at p b h = go (stages m) refl
    where
      go : (n : ℕ) → stages m ≡ n → Taken (earlier m p) p
      go zero e = absurd (both_ways (left m 0 p) (subst (λ n. No (left m n) p) e h) (lt-ltb p m.size b))
      go (suc n) e =
          let r = least_found (λ s. not (left m (suc s) p)) (stages m) n (omega arith) (not_from_false (left m (suc n) p) (subst (λ k. No (left m k) p) e h)) in
          subst (λ s. Taken s p) (sym (some_number _ r.0 r.1)) (record {
            early = omega (arith, r.3.below);
            present = here r.0 (λ k l. r.3.sooner k (omega arith) l);
            gone = not-true _ r.3.here;
          })
        where
          here : (s : ℕ) → ((k : ℕ) → k < s → not (left m (suc k) p) ≡ false) → Yes (left m s) p
          here zero f = lt-ltb p m.size b
          here (suc s) f = not-false _ (f s (omega arith))

  pub taken_lt : (s t p : ℕ) → Yes (left m s) p → No (left m (suc t)) p → s ≤ t
  taken_lt s t p y n = elim (cases_lt t s) [ inl a ↦ absurd (both_ways (left m (suc t) p) n (shrinks_to m law (suc t) s p a y)) | inr a ↦ a ]

  pub taken_once : (s t p : ℕ) → Taken s p → Taken t p → s ≡ t
  taken_once s t p a b = let k = taken_lt s t p a.present b.gone in let l = taken_lt t s p b.present a.gone in omega arith

  pub not_final : (s p : ℕ) → s ≤ stages m → No (left m s) p → No (final m) p
  not_final s p l h = elim (cases_Bool (final m p)) [ inl e ↦ absurd (both_ways (left m s p) h (shrinks_to m law s (stages m) p l e)) | inr e ↦ e ]

  pub picked : (s : ℕ) → s < stages m → missed m (left m s) ≡ Some (pick s)
  picked s h = let r = (ended m law).some s h in r.1 ∙ ap Some (sym (some_number _ r.0 r.1))

  pub pick_small : (s : ℕ) → s < stages m → pick s < m.goals
  pick_small s h = (missed_some m (left m s) (pick s) (picked s h)).0

  pub taken_B : (s p : ℕ) → Taken s p → Yes (B s) p
  taken_B s p t = taken_back m law s (pick s) p (picked s t.early) t.present t.gone

  pub BTaken : (s p : ℕ) → s < stages m → Yes (B s) p → Taken s p
  BTaken s p h y = record {
    early = h;
    present = round_inside m 1 (left m s) (C s) (core_in m (left m s) (pick s)) m.size p y;
    gone = taken m law s (pick s) p (picked s h) y;
  }

  -- a core's positions: unmarked, and the controller cannot leave it towards what it attracts
  pub core_unmarked : (X : ℕ → Bool) (g p : ℕ) → Yes (core m X g) p → m.marked p g ≡ false
  core_unmarked X g p h = go (cases_Bool (m.marked p g))
    where
      both : (X p ≡ true) × (not (A m 0 X (target m X g) p) ≡ true)
      both = and_parts (X p) _ h

      go : (m.marked p g ≡ true) ⊎ (m.marked p g ≡ false) → m.marked p g ≡ false
      go (inl e) = absurd (both_ways (A m 0 X (target m X g) p) (not-true _ both.1) (target_in m 0 X (target m X g) p (and_from (X p) (m.marked p g) both.0 e)))
      go (inr e) = e

  core_stays : (X : ℕ → Bool) (g p : ℕ) → p < m.size → Yes (core m X g) p → m.owner p ≡ 0 → (q : ℕ) → In q (m.moves p) → Yes X q → Yes (core m X g) q
  core_stays X g p b h o q n x =
      let both = and_parts (X p) _ h in
      and_from (X q) _ x (not_from_false (A m 0 X (target m X g) q) (kept_out m 0 X (target m X g) law p q b both.0 (not-true _ both.1) o n))

  core_can_stay : (X : ℕ → Bool) (g p : ℕ) → p < m.size → Yes (core m X g) p → m.owner p ≡ 1 → (q : ℕ) × In q (m.moves p) × Yes (core m X g) q
  core_can_stay X g p b h o =
      let both = and_parts (X p) _ h in
      let r = way_out m 0 X (target m X g) law p b both.0 (not-true _ both.1) (λ z. omega arith) in
      (r.0, r.1, and_from (X r.0) _ r.2 (not_from_false (A m 0 X (target m X g) r.0) r.3))

  -- the test of a good step, from its parts
  pub good_test : (f : Bool) (sq sp gq gp aq a : ℕ) → f ≡ false → (sq < sp) ⊎ ((sq ≡ sp) × (gq ≡ gp) × ((aq < a) ⊎ ((a ≡ 0) × (aq ≡ 0)))) → (not f && (ltb sq sp || (eqb sq sp && eqb gq gp && (ltb aq a || (eqb a 0 && eqb aq 0))))) ≡ true
  good_test f sq sp gq gp aq a n (inl e) = and_from (not f) _ (not_from_false f n) (or_left (ltb sq sp) _ (lt-ltb sq sp e))
  good_test f sq sp gq gp aq a n (inr e) =
      and_from (not f) _ (not_from_false f n)
      (or_right (ltb sq sp) _ (and_from (eqb sq sp && eqb gq gp) _ (and_from (eqb sq sp) (eqb gq gp) (eq-eqb sq sp e.0) (eq-eqb gq gp e.1)) (last e.2)))
    where
      last : (aq < a) ⊎ ((a ≡ 0) × (aq ≡ 0)) → (ltb aq a || (eqb a 0 && eqb aq 0)) ≡ true
      last (inl l) = or_left (ltb aq a) _ (lt-ltb aq a l)
      last (inr z) = or_right (ltb aq a) _ (and_from (eqb a 0) (eqb aq 0) (eq-eqb a 0 z.0) (eq-eqb aq 0 z.1))

  pub good_same : (p q : ℕ) → Taken (earlier m p) p → q < m.size → Yes (B (earlier m p)) q → (near (earlier m p) q < near (earlier m p) p) ⊎ ((near (earlier m p) p ≡ 0) × (near (earlier m p) q ≡ 0)) → good_step m p q ≡ true
  good_same p q t b y d = good_test (final m q) (stage m q) (stage m p) (given_up m q) (given_up m p) (approach m q) (approach m p) n (inr (ap suc e, ap pick e, subst (λ s. (near s q < near (earlier m p) p) ⊎ ((near (earlier m p) p ≡ 0) × (near s q ≡ 0))) (sym e) d))
    where
      u : Taken (earlier m p) q
      u = BTaken (earlier m p) q t.early y

      n : No (final m) q
      n = not_final (suc (earlier m p)) q t.early u.gone

      e : earlier m q ≡ earlier m p
      e = taken_once (earlier m q) (earlier m p) q (taken_at q b n) u

  pub good_less : (p q : ℕ) → Taken (earlier m p) p → q < m.size → No (left m (earlier m p)) q → good_step m p q ≡ true
  good_less p q t b y = good_test (final m q) (stage m q) (stage m p) (given_up m q) (given_up m p) (approach m q) (approach m p) n (inl (go (cases_lt (earlier m q) (earlier m p))))
    where
      n : No (final m) q
      n = not_final (earlier m p) q (let k = t.early in omega arith) y

      u : Taken (earlier m q) q
      u = taken_at q b n

      go : (earlier m q < earlier m p) ⊎ (earlier m p ≤ earlier m q) → suc (earlier m q) < suc (earlier m p)
      go (inl a) = omega arith
      go (inr a) = absurd (both_ways (left m (earlier m p) q) y (shrinks_to m law (earlier m p) (earlier m q) q a u.present))

  pub good_core : (p q : ℕ) → Taken (earlier m p) p → q < m.size → near (earlier m p) p ≡ 0 → Yes (C (earlier m p)) q → good_step m p q ≡ true
  good_core p q t b z c =
      good_same p q t b (target_in m 1 (left m (earlier m p)) (C (earlier m p)) q c) (inr (z, rk_target m 1 (left m (earlier m p)) (C (earlier m p)) q c))

  pub in_core : (p : ℕ) → Taken (earlier m p) p → near (earlier m p) p ≡ 0 → Yes (C (earlier m p)) p
  in_core p t z = rk_zero m 1 (left m (earlier m p)) (C (earlier m p)) p (taken_B (earlier m p) p t) z

  pub all_good : (p : ℕ) → p < m.size → No (final m) p → m.owner p ≡ 0 → (q : ℕ) → In q (m.moves p) → good_step m p q ≡ true
  all_good p b h o q n = go (cases_Bool (left m (earlier m p) q)) (cases_eq (near (earlier m p) p) 0)
    where
      t : Taken (earlier m p) p
      t = taken_at p b h

      c : q < m.size
      c = move_inside m law p q b n

      go : (left m (earlier m p) q ≡ true) ⊎ (left m (earlier m p) q ≡ false) → (near (earlier m p) p ≡ 0) ⊎ (near (earlier m p) p ≡ 0 → ⊥) → good_step m p q ≡ true
      go (inr x) z = good_less p q t c x
      go (inl x) (inl z) = good_core p q t c z (core_stays (left m (earlier m p)) (pick (earlier m p)) p b (in_core p t z) o q n x)
      go (inl x) (inr z) =
          let w : Nearer m 1 (left m (earlier m p)) (C (earlier m p)) p = come-nearer m 1 (left m (earlier m p)) (C (earlier m p)) p (taken_B (earlier m p) p t) (omega arith) in
          let r = w.other (λ y. omega arith) q n x in
          good_same p q t c r.0 (inl r.1)

  pub some_good : (p : ℕ) → p < m.size → No (final m) p → m.owner p ≡ 1 → (q : ℕ) × In q (m.moves p) × (good_step m p q ≡ true)
  some_good p b h o = go (cases_eq (near (earlier m p) p) 0)
    where
      t : Taken (earlier m p) p
      t = taken_at p b h

      go : (near (earlier m p) p ≡ 0) ⊎ (near (earlier m p) p ≡ 0 → ⊥) → (q : ℕ) × In q (m.moves p) × (good_step m p q ≡ true)
      go (inl z) =
          let r = core_can_stay (left m (earlier m p)) (pick (earlier m p)) p b (in_core p t z) o in
          (r.0, r.1, good_core p r.0 t (move_inside m law p r.0 b r.1) z r.2)
      go (inr z) =
          let w : Nearer m 1 (left m (earlier m p)) (C (earlier m p)) p = come-nearer m 1 (left m (earlier m p)) (C (earlier m p)) p (taken_B (earlier m p) p t) (omega arith) in
          let r = w.own o in
          (r.0, r.1, good_same p r.0 t (move_inside m law p r.0 b r.1) r.2 (inl r.3))

  pub given_up_small : (p : ℕ) → p < m.size → No (final m) p → given_up m p < m.goals
  given_up_small p b h = pick_small (earlier m p) (taken_at p b h).early

  pub given_up_unmarked : (p : ℕ) → p < m.size → No (final m) p → approach m p ≡ 0 → m.marked p (given_up m p) ≡ false
  given_up_unmarked p b h z = core_unmarked (left m (earlier m p)) (pick (earlier m p)) p (in_core p (taken_at p b h) z)

  pub traffic_move_other : (p : ℕ) → m.owner p ≡ 0 → traffic_move m p ≡ 65535
  traffic_move_other p o = cond-false (eqb (m.owner p) 1) _ _ (ne_eqb (m.owner p) 1 (λ e. omega arith))

  pub traffic_move_own : (p : ℕ) → p < m.size → No (final m) p → m.owner p ≡ 1 → In (traffic_move m p) (m.moves p) × (good_step m p (traffic_move m p) ≡ true)
  traffic_move_own p b h o =
      let r = some_good p b h o in
      let e : traffic_move m p ≡ first (good_step m p) 65535 (m.moves p) = cond-true (eqb (m.owner p) 1) _ _ (eq-eqb (m.owner p) 1 o) in
      subst (λ q. In q (m.moves p) × (good_step m p q ≡ true)) (sym e) (first_is (good_step m p) 65535 r.0 (m.moves p) r.1 r.2)
