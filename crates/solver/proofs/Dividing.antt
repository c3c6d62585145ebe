-- The stages in memory. What is present after s stages is what s stages have left; a stage takes what it should, and where
-- no goal has a core the stages are over.
use Rattle.std.proofs.Common.{◌≡◌, ℕ, suc, ◌+◌, ◌-◌, ◌<◌, ◌≤◌, Bool, true, false, cond, not, ◌&&◌, eqb, ltb, ◌⊎◌, List, length, get_or, Some, None, Option, sym, refl, ap, ◌∙◌, subst, inl, inr, arith}
use Rattle.std.proofs.lemmas.Bool.{both_ways, cases_lt, cases_Bool, lt-ltb, ltb-true, ne_eqb, and_right, not_from_true, not_from_false, cond-false}
use Rattle.arena.specs.Arena.{Meaning, Lawful}
use Rattle.arena.specs.Sets.{value_or}
use Rattle.arena.proofs.Basics.{Yes, No}
use Rattle.solver.specs.Attractor.{rank, attracted}
use Rattle.solver.specs.Solution.{core, missed, without, left, stages, earlier, stage, given_up, approach, final}
use Rattle.solver.specs.Columns.{Ranks, code, present}
use Rattle.solver.specs.Memory.{GoalRanks, Standing}
use Rattle.solver.proofs.Stages.{closed_left, ended, some_number, missed_some}
use Rattle.solver.proofs.Decisions.{pick, B, taken_at, taken_once, BTaken, not_final}
use Rattle.solver.proofs.Ranks.{present_outside}
use Rattle.solver.proofs.Cores.{rank_some, code_value}

-- a column has a value, by the rank, where another has a rank, and else what it had
pub record Given (n : ℕ) (value : ℕ → ℕ) (near old new : List ℕ) : Type 0 where
  pub given : (k : ℕ) → k < n → 0 < get_or near k 0 → get_or new k 0 ≡ value (get_or near k 0 - 1)
  pub kept : (k : ℕ) → k < n → get_or near k 0 ≡ 0 → get_or new k 0 ≡ get_or old k 0

some_none : (g : ℕ) → Some g ≡ None → ⊥
some_none g e = let z : ◌≡◌ {A = ℕ} 0 1 = cc in omega arith

module _ (m : Meaning) (law : Lawful m) (s : ℕ) where
  left_outside : (p : ℕ) → m.size ≤ p → left m s p ≡ false
  left_outside p h =
      elim (cases_Bool (left m s p)) [
        | inl y ↦ let b = (closed_left m law s).below p y in absurd (omega arith)
        | inr z ↦ z
      ]

  pub present_left : (taken goals approaches : List ℕ) → length taken ≡ m.size → Standing m s taken goals approaches → present taken ≡ left m s
  present_left taken goals approaches long t = λ j p. go p j
    where
      zero_is : (b : Bool) (e : ℕ) → eqb (cond b 0 (suc e)) 0 ≡ b
      zero_is true e = refl
      zero_is false e = ne_eqb (suc e) 0 (λ z. omega arith)

      go : (p : ℕ) → present taken p ≡ left m s p
      go p =
          elim (cases_lt p m.size) [
            | inl h ↦ ap (λ b. b && eqb (get_or taken p 0) 0) (lt-ltb p (length taken) (omega arith)) ∙ ap (λ x. eqb x 0) (t.stage_is p h) ∙ zero_is (left m s p) (earlier m p)
            | inr h ↦ present_outside taken p (omega arith) ∙ sym (left_outside p h)
          ]

  pub over : s ≤ stages m → missed m (left m s) ≡ None → s ≡ stages m
  over l e =
      elim (cases_lt s (stages m)) [
        | inl h ↦ let r = (ended m law).some s h in absurd (some_none r.0 (sym r.1 ∙ e))
        | inr h ↦ omega arith
      ]

  pub not_over : s ≤ stages m → (g : ℕ) → missed m (left m s) ≡ Some g → s < stages m
  not_over l g e =
      elim (cases_lt s (stages m)) [
        | inl h ↦ h
        | inr h ↦
            let same : stages m ≡ s = omega arith in
            absurd (some_none g (sym e ∙ ap (λ i. missed m (left m i)) (sym same) ∙ (ended m law).none))
      ]

  -- what stage s takes
  module _ (g : ℕ) (early : s < stages m) (picks : missed m (left m s) ≡ Some g) where
    abbrev T : ℕ → Bool
    T = attracted m 1 (left m s) (core m (left m s) g)

    pick_is : pick m law s ≡ g
    pick_is = some_number (missed m (left m s)) g picks

    pub earlier_is : (k : ℕ) → k < m.size → Yes T k → earlier m k ≡ s
    earlier_is k h y =
        let b : Yes (B m law s) k = subst (λ x. Yes (attracted m 1 (left m s) (core m (left m s) x)) k) (sym pick_is) y in
        let t = BTaken m law s k early b in
        let a = taken_at m law k h (not_final m law (suc s) k early t.gone) in
        taken_once m law (earlier m k) s k a t

    given_is : (k : ℕ) → earlier m k ≡ s → given_up m k ≡ g
    given_is k e = ap (λ i. value_or (missed m (left m i)) 0) e ∙ pick_is

    approach_of : (k : ℕ) → earlier m k ≡ s → value_or (rank m 1 (left m s) (core m (left m s) g) k) 0 ≡ approach m k
    approach_of k e = sym (λ j. value_or (rank m 1 (left m (e j)) (core m (left m (e j)) (given_is k e j)) k) 0)

    left_next : (k : ℕ) → left m (suc s) k ≡ (left m s k && not (T k))
    left_next k = ap (λ o. without m o (left m s) k) picks

    gone : (k : ℕ) → Yes T k → left m (suc s) k ≡ false
    gone k y = left_next k ∙ and_right (left m s k) _ (not_from_true (T k) y)

    stays : (k : ℕ) → No T k → left m (suc s) k ≡ left m s k
    stays k z = left_next k ∙ ap (λ b. left m s k && b) (not_from_false (T k) z) ∙ same (left m s k)
      where
        same : (b : Bool) → (b && true) ≡ b
        same true = refl
        same false = refl

    module _ (taken goals approaches near : List ℕ) (long : length taken ≡ m.size) (t : Standing m s taken goals approaches)
        (r : Ranks m 1 (present taken) (core m (present taken) g) near) where
      I : present taken ≡ left m s
      I = present_left taken goals approaches long t

      near_is : (k : ℕ) → k < m.size → get_or near k 0 ≡ code (rank m 1 (left m s) (core m (left m s) g) k)
      near_is k h = r k h ∙ (λ j. code (rank m 1 (I j) (core m (I j) g) k))

      drawn : (k : ℕ) → k < m.size → ltb 0 (get_or near k 0) ≡ T k
      drawn k h = ap (ltb 0) (near_is k h) ∙ rank_some m 1 (left m s) (core m (left m s) g) k

      some : (k : ℕ) → k < m.size → Yes T k → 0 < get_or near k 0
      some k h y = ltb-true 0 (get_or near k 0) (drawn k h ∙ y)

      none : (k : ℕ) → k < m.size → No T k → get_or near k 0 ≡ 0
      none k h z =
          elim (cases_lt 0 (get_or near k 0)) [
            | inl l ↦ absurd (both_ways (T k) z (sym (drawn k h) ∙ lt-ltb 0 (get_or near k 0) l))
            | inr l ↦ omega arith
          ]

      pub standing_more : (u v w : List ℕ) → Given m.size (λ _. s + 1) near taken u → Given m.size (λ _. g) near goals v → Given m.size (λ x. x) near approaches w → Standing m (s + 1) u v w
      standing_more u v w a b d =
          let e : suc s ≡ s + 1 = omega arith in
          subst (λ i. Standing m i u v w) e (record {
            stage_is = λ k h. by_stage k h (cases_Bool (T k));
            goal_is = λ k h z. by_goal k h z (cases_Bool (T k));
            approach_is = λ k h z. by_approach k h z (cases_Bool (T k));
          })
        where
          by_stage : (k : ℕ) → k < m.size → (T k ≡ true) ⊎ (T k ≡ false) → get_or u k 0 ≡ cond (left m (suc s) k) 0 (stage m k)
          by_stage k h (inl y) =
              let e = earlier_is k h y in
              let n : s + 1 ≡ stage m k = omega arith in
              a.given k h (some k h y) ∙ n ∙ sym (cond-false (left m (suc s) k) 0 (stage m k) (gone k y))
          by_stage k h (inr z) = a.kept k h (none k h z) ∙ t.stage_is k h ∙ ap (λ b. cond b 0 (stage m k)) (sym (stays k z))

          by_goal : (k : ℕ) → k < m.size → left m (suc s) k ≡ false → (T k ≡ true) ⊎ (T k ≡ false) → get_or v k 0 ≡ given_up m k
          by_goal k h e (inl y) = b.given k h (some k h y) ∙ sym (given_is k (earlier_is k h y))
          by_goal k h e (inr z) = b.kept k h (none k h z) ∙ t.goal_is k h (sym (stays k z) ∙ e)

          by_approach : (k : ℕ) → k < m.size → left m (suc s) k ≡ false → (T k ≡ true) ⊎ (T k ≡ false) → get_or w k 0 ≡ approach m k
          by_approach k h e (inl y) =
              d.given k h (some k h y)
              ∙ ap (λ x. x - 1) (near_is k h)
              ∙ code_value (rank m 1 (left m s) (core m (left m s) g) k)
              ∙ approach_of k (earlier_is k h y)
          by_approach k h e (inr z) = d.kept k h (none k h z) ∙ t.approach_is k h (sym (stays k z) ∙ e)

-- a search inside what s stages have left
module _ (m : Meaning) (law : Lawful m) (s : ℕ) (taken goals approaches : List ℕ) (long : length taken ≡ m.size)
    (early : s ≤ stages m) (t : Standing m s taken goals approaches) where
  here : present taken ≡ left m s
  here = present_left m law s taken goals approaches long t

  pub picks_is : (o : Option ℕ) → o ≡ missed m (present taken) → missed m (left m s) ≡ o
  picks_is o e = ap (missed m) (sym here) ∙ sym e

  pub is_over : None ≡ missed m (present taken) → s ≡ stages m
  is_over e = over m law s early (picks_is None e)

  pub goes_on : (g : ℕ) → Some g ≡ missed m (present taken) → s < stages m
  goes_on g e = not_over m law s early g (picks_is (Some g) e)

  pub goal_below : (g : ℕ) → Some g ≡ missed m (present taken) → g < m.goals
  goal_below g e = (missed_some m (left m s) g (picks_is (Some g) e)).0

  pub final_ranks : None ≡ missed m (present taken) → (ranks : List ℕ) (g : ℕ) → GoalRanks m (present taken) g ranks → GoalRanks m (final m) g ranks
  final_ranks e ranks g r = subst (λ (i : ℕ → Bool). GoalRanks m i g ranks) (here ∙ ap (left m) (is_over e)) r
