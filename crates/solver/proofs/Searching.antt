-- The search for the lowest goal with a core, goal by goal; each goal asked has its ranks in its own column.
use Rattle.std.proofs.Common.{◌≡◌, ℕ, ◌+◌, ◌*◌, ◌<◌, Bool, true, false, cond, List, get_or, Some, None, sym, ap, ◌∙◌, subst, inl, inr, add-one, arith}
use Rattle.std.proofs.lemmas.Bool.{both_ways, cases_eq, cases_lt}
use Rattle.arena.specs.Arena.{Meaning}
use Rattle.arena.specs.Sets.{any, upto, least}
use Rattle.arena.proofs.Basics.{Yes, No, least_none, least_found}
use Rattle.solver.specs.Solution.{core}
use Rattle.solver.specs.Memory.{GoalRanks}
use Rattle.solver.proofs.Parts.{rows_apart}
use Rattle.solver.proofs.Ranks.{or_else, least_more}

-- the first that passes, where all before it fail
least_first : (f : ℕ → Bool) (n j : ℕ) → j < n → Yes f j → ((k : ℕ) → k < j → No f k) → least f n ≡ Some j
least_first f n j h y before =
    let r = least_found f n j h y in
    let same : r.0 ≡ j = elim (cases_lt r.0 j) [ inl l ↦ absurd (both_ways (f r.0) (before r.0 l) r.3.here) | inr l ↦ omega (arith, r.2) ] in
    r.1 ∙ ap Some same

module _ (m : Meaning) (I : ℕ → Bool) (g : ℕ) where
  abbrev F : ℕ → Bool
  F h = any (core m I h) (upto m.size)

  pub none_more : least F g ≡ None → F g ≡ false → least F (g + 1) ≡ None
  none_more none e =
      ap (least F) (add-one g) ∙ least_more F g ∙ ap (λ o. or_else o (cond (F g) (Some g) None)) none ∙ ap (λ b. cond b (Some g) None) e

  pub found_here : g < m.goals → least F g ≡ None → F g ≡ true → Some g ≡ least F m.goals
  found_here goal none e = sym (least_first F m.goals g goal e (least_none F g none))

  -- one more goal has its ranks
  pub ranks_more : (w v : List ℕ) → ((h : ℕ) → h < g → GoalRanks m I h w) → ((k : ℕ) → k < g * m.size → get_or v k 0 ≡ get_or w k 0) → GoalRanks m I g v → (h : ℕ) → h < g + 1 → GoalRanks m I h v
  ranks_more w v below others here h l =
      elim (cases_eq h g) [
        | inl e ↦ subst (λ z. GoalRanks m I z v) (sym e) here
        | inr e ↦ λ k b. others (h * m.size + k) (omega (arith, rows_apart h g m.size (omega arith))) ∙ below h (omega arith) k b
      ]
