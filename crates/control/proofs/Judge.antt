-- What an accepted certificate says: it has passed every clause at every position, and so is a table for either side.
-- An accepted answer is taken apart test by test, and each clause that is asked at a position becomes a fact on its fields.
use Rattle.std.proofs.Common.{◌≡◌, ℕ, zero, suc, ◌+◌, ◌-◌, ◌<◌, ◌≤◌, Bool, true, false, cond, ◌&&◌, ◌||◌, eqb, ltb, ◌⊎◌, List, [], ◌∷◌, Some, None, sym, refl, ap, ◌∙◌, subst, inl, inr, arith}
use Rattle.std.proofs.lemmas.Bool.{and_parts, and_from, or_cases, eqb-true, eq-eqb, ltb-true, both_ways, cases_eq, not-true}
use Rattle.arena.specs.Refusals.{Outcome, accepted, refused, require}
use Rattle.arena.specs.Arena.{Meaning}
use Rattle.arena.specs.Sets.{from, upto}
use Rattle.arena.specs.Certificate.{side_of, goal_of, stage_of, approach_of, move_of, rank_of, goal_move_of}
use Rattle.control.specs.Accept.{fit, judged, given, head_right, end_right, walk, first_failing, failing, clauses, same, good_step_of, nearer_of, ranked_for, steered_for, carried_for}
use Rattle.control.specs.Promise.{Accepted}
use Rattle.arena.proofs.Basics.{In, in_head, in_tail, Passed, asked, all_true, all_upto, not_refused, require_accepted, sized_accepted}
use Rattle.arena.proofs.Loops.{from_step}
use Rattle.control.proofs.Table.{Good, Holds, Near, Serves}

same_says : (x y : Bool) → same x y ≡ true → x ≡ true → y ≡ true
same_says true y h e = h
same_says false y h e = absurd (both_ways false refl e)

shape_says : (e z a s t g r : Bool) → (e && cond z a (((s && t) && g) && r)) ≡ true → (z ≡ true) ⊎ ((s ≡ true) × (g ≡ true))
shape_says e true a s t g r h = inl refl
shape_says e false a s t g r h =
    let y = and_parts (s && t) g (and_parts ((s && t) && g) r (and_parts e (((s && t) && g) && r) h).1).0 in
    inr ((and_parts s t y.0).0, y.1)

both_tests : (a b c d : ℕ) → a ≡ b → c ≡ d → (eqb a b && eqb c d) ≡ true
both_tests a b c d x y = and_from (eqb a b) (eqb c d) (eq-eqb a b x) (eq-eqb c d y)

-- what comes after clauses that all pass is what is answered, and only then is anything accepted
pub failing_none : (p i : ℕ) (tests : List Bool) (next : Outcome ℕ) → Passed tests → failing p (first_failing i tests) next ≡ next
failing_none p i [] next h = refl
failing_none p i (true ∷ tests) next h = failing_none p (suc i) tests next h.1
failing_none p i (false ∷ tests) next h = absurd (both_ways false refl h.0)

failing_passed : (p i : ℕ) (tests : List Bool) (next : Outcome ℕ) (c : ℕ) → failing p (first_failing i tests) next ≡ accepted c → Passed tests × (next ≡ accepted c)
failing_passed p i [] next c e = (tt, e)
failing_passed p i (true ∷ tests) next c e = let r = failing_passed p (suc i) tests next c e in ((refl, r.0), r.1)
failing_passed p i (false ∷ tests) next c e = absurd (not_refused 14 (i ∷ p ∷ []) c e)

module _ (m : Meaning) (bs : List ℕ) where
  pub walk_through : (ps : List ℕ) (next : Outcome ℕ) → ((p : ℕ) → In p ps → Passed (clauses m bs p)) → walk m bs ps next ≡ next
  walk_through [] next h = refl
  walk_through (p ∷ ps) next h = failing_none p 3 (clauses m bs p) (walk m bs ps next) (h p (in_head p ps)) ∙ walk_through ps next (λ q i. h q (in_tail q p ps i))

  -- what the walk over all positions answers, and the walk from p on
  abbrev pub walked : Outcome ℕ
  walked = walk m bs (upto m.size) (accepted (given m bs))

  abbrev pub walked_from : ℕ → Outcome ℕ
  walked_from p = walk m bs (from p (m.size - p)) (accepted (given m bs))

  -- a loop over the positions: it stops at a clause that fails, goes on where none does, and ends with the count
  walk_here : (p : ℕ) → p < m.size → walked_from p ≡ failing p (first_failing 3 (clauses m bs p)) (walked_from (p + 1))
  walk_here p h = ap (λ ps. walk m bs ps (accepted (given m bs))) (from_step m.size p h)

  pub walk_stops : (p i : ℕ) → p < m.size → walked_from p ≡ walked → Some i ≡ first_failing 3 (clauses m bs p) → refused 14 (i ∷ p ∷ []) ≡ walked
  walk_stops p i h left e = ap (λ o. failing p o (walked_from (p + 1))) e ∙ sym (walk_here p h) ∙ left

  pub walk_goes_on : (p : ℕ) → p < m.size → walked_from p ≡ walked → None ≡ first_failing 3 (clauses m bs p) → walked_from (p + 1) ≡ walked
  walk_goes_on p h left e = ap (λ o. failing p o (walked_from (p + 1))) e ∙ sym (walk_here p h) ∙ left

  pub walk_ends : (p c : ℕ) → m.size ≤ p → walked_from p ≡ walked → c ≡ given m bs → accepted c ≡ walked
  walk_ends p c h left e =
      let z : 0 ≡ m.size - p = omega arith in
      ap accepted e ∙ ap (λ c. walk m bs (from p c) (accepted (given m bs))) z ∙ left

  walk_passed : (i n : ℕ) (next : Outcome ℕ) (c : ℕ) → walk m bs (from i n) next ≡ accepted c → (p : ℕ) → i ≤ p → p < i + n → Passed (clauses m bs p)
  walk_passed i zero next c e p low high = absurd (omega arith)
  walk_passed i (suc n) next c e p low high =
      let r = failing_passed i 3 (clauses m bs i) (walk m bs (from (i + 1) n) next) c e in
      elim (cases_eq i p) [
        | inl here ↦ subst (λ x. Passed (clauses m bs x)) here r.0
        | inr there ↦ walk_passed (i + 1) n next c r.1 p (omega arith) (omega arith)
      ]

  good_says : (p q : ℕ) → good_step_of m bs p q ≡ true → Good (side_of m bs) (goal_of m bs) (stage_of m bs) (approach_of m bs) p q
  good_says p q h = record { stays = eqb-true (side_of m bs q) 1 parts.0; falls = fall (or_cases _ _ parts.1) }
    where
      parts : (eqb (side_of m bs q) 1 ≡ true)
          × ((ltb (stage_of m bs q) (stage_of m bs p)
          || (eqb (stage_of m bs q) (stage_of m bs p)
          && eqb (goal_of m bs q) (goal_of m bs p)
          && (ltb (approach_of m bs q) (approach_of m bs p) || (eqb (approach_of m bs p) 0 && eqb (approach_of m bs q) 0)))) ≡ true)
      parts = and_parts _ _ h

      near : (ltb (approach_of m bs q) (approach_of m bs p) ≡ true) ⊎ ((eqb (approach_of m bs p) 0 && eqb (approach_of m bs q) 0) ≡ true) →
          (approach_of m bs q < approach_of m bs p) ⊎ ((approach_of m bs p ≡ 0) × (approach_of m bs q ≡ 0))
      near (inl x) = inl (ltb-true (approach_of m bs q) (approach_of m bs p) x)
      near (inr x) = let y = and_parts _ _ x in inr (eqb-true (approach_of m bs p) 0 y.0, eqb-true (approach_of m bs q) 0 y.1)

      fall : (ltb (stage_of m bs q) (stage_of m bs p) ≡ true)
          ⊎ ((eqb (stage_of m bs q) (stage_of m bs p)
          && eqb (goal_of m bs q) (goal_of m bs p)
          && (ltb (approach_of m bs q) (approach_of m bs p) || (eqb (approach_of m bs p) 0 && eqb (approach_of m bs q) 0))) ≡ true) →
          (stage_of m bs q < stage_of m bs p)
          ⊎ ((stage_of m bs q ≡ stage_of m bs p) × (goal_of m bs q ≡ goal_of m bs p)
          × ((approach_of m bs q < approach_of m bs p) ⊎ ((approach_of m bs p ≡ 0) × (approach_of m bs q ≡ 0))))
      fall (inl x) = inl (ltb-true (stage_of m bs q) (stage_of m bs p) x)
      fall (inr x) =
          let y = and_parts _ _ x in
          let z = and_parts _ _ y.0 in
          inr (eqb-true (stage_of m bs q) (stage_of m bs p) z.0, eqb-true (goal_of m bs q) (goal_of m bs p) z.1, near (or_cases _ _ y.1))

  near_says : (g p q : ℕ) → nearer_of m bs g p q ≡ true → Near (side_of m bs) (rank_of m bs) g p q
  near_says g p q h =
      let x = and_parts _ _ h in
      record {
        stays = eqb-true (side_of m bs q) 0 x.0;
        nearer =
            elim (or_cases _ _ x.1) [
              | inl y ↦ inl (eqb-true (rank_of m bs g p) 0 y)
              | inr y ↦ inr (ltb-true (rank_of m bs g q) (rank_of m bs g p) y)
            ];
      }

  module _ (acc : Accepted m bs) where
    -- the numbers of positions and goals are in range, and every clause has passed
    passed : (0 < m.size) × (0 < m.goals) × ((p : ℕ) → p < m.size → Passed (clauses m bs p))
    passed =
        let c : ℕ = acc.0 in
        let a = sized_accepted m (require (fit m bs) 3 (judged m bs)) c acc.1 in
        let b = require_accepted (fit m bs) 3 (judged m bs) c a.2 in
        let d = failing_passed 0 1 (head_right m bs ∷ end_right m bs ∷ []) (walk m bs (upto m.size) (accepted (given m bs))) c b.1 in
        (a.0, a.1, λ p below. walk_passed 0 m.size (accepted (given m bs)) c d.1 p (omega arith) (omega arith))

    at_clauses : (p : ℕ) → p < m.size → Passed (clauses m bs p)
    at_clauses = passed.2

    pub some_position : 0 < m.size
    some_position = passed.0

    sided : (p : ℕ) → p < m.size → (side_of m bs p ≡ 0) ⊎ ((side_of m bs p ≡ 1) × (goal_of m bs p < m.goals))
    sided p below =
        elim (shape_says _ (eqb (side_of m bs p) 0) _ (eqb (side_of m bs p) 1) (ltb 0 (stage_of m bs p)) (ltb (goal_of m bs p) m.goals) _ (at_clauses p below).0) [
          | inl x ↦ inl (eqb-true (side_of m bs p) 0 x)
          | inr x ↦ inr (eqb-true (side_of m bs p) 1 x.0, ltb-true (goal_of m bs p) m.goals x.1)
        ]

    pub sides : (p : ℕ) → p < m.size → (side_of m bs p ≡ 0) ⊎ (side_of m bs p ≡ 1)
    sides p below = elim (sided p below) [ inl x ↦ inl x | inr x ↦ inr x.0 ]

    -- clauses 3, 7, 8 and 9: the traffic's table
    pub holds : Holds m (side_of m bs) (goal_of m bs) (stage_of m bs) (approach_of m bs) (move_of m bs)
    holds = record {
      aimed = λ p below s. elim (sided p below) [ inl x ↦ absurd (let z : ◌≡◌ {A = ℕ} 0 1 = sym x ∙ s in omega arith) | inr x ↦ x.1 ];
      free = λ p below s a mk.
          let t = asked _ _ (at_clauses p below).1.1.1.1.0 (both_tests (side_of m bs p) 1 (approach_of m bs p) 0 s a) in
          both_ways (m.marked p (goal_of m bs p)) (not-true (m.marked p (goal_of m bs p)) t) mk;
      own = λ p below s o.
          let u = and_parts _ _ (asked _ _ (at_clauses p below).1.1.1.1.1.0 (both_tests (side_of m bs p) 1 (m.owner p) 1 s o)) in
          (u.0, good_says p (move_of m bs p) u.1);
      other = λ p below s o q mv.
          let u = and_parts _ _ (asked _ _ (at_clauses p below).1.1.1.1.1.1.0 (both_tests (side_of m bs p) 1 (m.owner p) 0 s o)) in
          good_says p q (all_true (good_step_of m bs p) (m.moves p) u.1 q mv);
    }

    -- clause 4 at a goal
    ranked_at : (g p : ℕ) → g < m.goals → p < m.size → side_of m bs p ≡ 0 → (ltb (rank_of m bs g p) m.size ≡ true) × (same (eqb (rank_of m bs g p) 0) (m.marked p g) ≡ true)
    ranked_at g p goal below s =
        and_parts _ _ (all_upto (ranked_for m bs p) m.goals (asked _ _ (at_clauses p below).1.0 (eq-eqb (side_of m bs p) 0 s)) g goal)

    -- clauses 4, 5 and 6: the controller's table
    pub serves : Serves m (side_of m bs) (rank_of m bs) (goal_move_of m bs)
    serves = record {
      some = passed.1;
      low = λ g p goal below s. ltb-true (rank_of m bs g p) m.size (ranked_at g p goal below s).0;
      met = λ g p goal below s r. same_says (eqb (rank_of m bs g p) 0) (m.marked p g) (ranked_at g p goal below s).1 (eq-eqb (rank_of m bs g p) 0 r);
      own = λ g p goal below s o.
          let t = asked _ _ (at_clauses p below).1.1.0 (both_tests (side_of m bs p) 0 (m.owner p) 0 s o) in
          let u = all_upto (steered_for m bs p) m.goals t g goal in
          let v = and_parts _ _ u in
          (v.0, near_says g p (goal_move_of m bs g p) v.1);
      other = λ g p goal below s o q mv.
          let t = asked _ _ (at_clauses p below).1.1.1.0 (both_tests (side_of m bs p) 0 (m.owner p) 1 s o) in
          let u = all_upto (carried_for m bs p) m.goals t g goal in
          near_says g p q (all_true (nearer_of m bs g p) (m.moves p) (and_parts _ _ u).1 q mv);
    }
