-- What a column of ranks tells of an attractor, and of the core that it misses.
use Rattle.std.proofs.Common.{◌≡◌, ℕ, suc, ◌-◌, ◌<◌, Bool, true, false, not, ◌&&◌, eqb, ltb, List, length, get_or, Some, None, Option, sym, refl, ap, ◌∙◌, inl, inr, arith}
use Rattle.std.proofs.lemmas.Bool.{cases_Bool, lt-ltb, ltb-true, eq-eqb, eqb-true, ne_eqb, and_parts, and_from, not_from_true, not_from_false}
use Rattle.std.specs.Option.{unwrap_or}
use Rattle.arena.specs.Arena.{Meaning, marked_answer}
use Rattle.arena.proofs.Within.{within_true}
use Rattle.arena.specs.Sets.{any, upto, value_or}
use Rattle.arena.proofs.Basics.{any_from, any_true, in_upto, upto_in}
use Rattle.solver.specs.Attractor.{round, rank, attracted}
use Rattle.solver.specs.Solution.{target, core}
use Rattle.solver.specs.Columns.{Ranks, code, present}
use Rattle.solver.proofs.Attraction.{grows_to}
use Rattle.solver.proofs.Ranks.{least_yes, least_no}

module _ (m : Meaning) (side : ℕ) (I T : ℕ → Bool) (p : ℕ) where
  -- a position has a rank where the attractor has it
  pub rank_none : eqb (code (rank m side I T p)) 0 ≡ not (attracted m side I T p)
  rank_none =
      elim (cases_Bool (attracted m side I T p)) [
        | inl y ↦
            let r = least_yes (λ i. round m side I T i p) (λ i j l h. grows_to m side I T i j p l h) m.size y in
            ap (λ o. eqb (code o) 0) r.1 ∙ ne_eqb (suc r.0) 0 (λ e. omega arith) ∙ sym (not_from_true _ y)
        | inr z ↦ ap (λ o. eqb (code o) 0) (least_no (λ i. round m side I T i p) (λ i j l h. grows_to m side I T i j p l h) m.size z) ∙ sym (not_from_false _ z)
      ]

  pub rank_some : ltb 0 (code (rank m side I T p)) ≡ attracted m side I T p
  rank_some =
      elim (cases_Bool (attracted m side I T p)) [
        | inl y ↦
            let r = least_yes (λ i. round m side I T i p) (λ i j l h. grows_to m side I T i j p l h) m.size y in
            ap (λ o. ltb 0 (code o)) r.1 ∙ lt-ltb 0 (suc r.0) (omega arith) ∙ sym y
        | inr z ↦ ap (λ o. ltb 0 (code o)) (least_no (λ i. round m side I T i p) (λ i j l h. grows_to m side I T i j p l h) m.size z) ∙ sym z
      ]

pub code_value : (o : Option ℕ) → code o - 1 ≡ value_or o 0
code_value None = refl
code_value (Some r) = omega arith

-- the columns that tell which positions are present and which of them a goal's attractor has
module _ (m : Meaning) (g : ℕ) (taken ranks : List ℕ) (long : length taken ≡ m.size) (r : Ranks m 0 (present taken) (target m (present taken) g) ranks) where
  abbrev I : ℕ → Bool
  I = present taken

  abbrev A : ℕ → Bool
  A = attracted m 0 I (target m I g)

  -- a position has no number where the attractor misses it
  pub missed_is : (p : ℕ) → p < m.size → eqb (get_or ranks p 0) 0 ≡ not (A p)
  missed_is p h = ap (λ x. eqb x 0) (r p h) ∙ rank_none m 0 I (target m I g) p

  pub missed_test : (b : Bool) (p : ℕ) → p < m.size → length ranks ≡ m.size → b ≡ present ranks p → b ≡ not (A p)
  missed_test b p h same e = e ∙ ap (λ t. t && eqb (get_or ranks p 0) 0) (lt-ltb p (length ranks) (omega arith)) ∙ missed_is p h

  pub core_some : (p : ℕ) × (p < length taken) × (get_or taken p 0 ≡ 0) × (get_or ranks p 0 ≡ 0) → any (core m I g) (upto m.size) ≡ true
  core_some w =
      let h : w.0 < m.size = omega (arith, w.1) in
      any_from (core m I g) w.0 (upto m.size) (in_upto m.size w.0 h)
      (and_from (I w.0) _ (and_from (ltb w.0 (length taken)) _ (lt-ltb w.0 (length taken) w.1) (eq-eqb (get_or taken w.0 0) 0 w.2)) (sym (missed_is w.0 h) ∙ eq-eqb (get_or ranks w.0 0) 0 w.3))

  pub core_none : ((p : ℕ) → p < length taken → get_or taken p 0 ≡ 0 → 0 < get_or ranks p 0) → any (core m I g) (upto m.size) ≡ false
  core_none f =
      elim (cases_Bool (any (core m I g) (upto m.size))) [
        | inl y ↦
            let w = any_true (core m I g) (upto m.size) y in
            let h = upto_in m.size w.0 w.1 in
            let b = and_parts (I w.0) _ w.2 in
            let t = and_parts (ltb w.0 (length taken)) _ b.0 in
            let z = eqb-true (get_or ranks w.0 0) 0 (missed_is w.0 h ∙ b.1) in
            let o = f w.0 (ltb-true w.0 (length taken) t.0) (eqb-true (get_or taken w.0 0) 0 t.1) in
            absurd (omega arith)
        | inr z ↦ z
      ]

  pub core_is : (b : Bool) → (b ≡ true → (p : ℕ) × (p < length taken) × (get_or taken p 0 ≡ 0) × (get_or ranks p 0 ≡ 0)) → (b ≡ false → (p : ℕ) → p < length taken → get_or taken p 0 ≡ 0 → 0 < get_or ranks p 0) → b ≡ any (core m I g) (upto m.size)
  core_is true some none = sym (core_some (some refl))
  core_is false some none = sym (core_none (none refl))

-- the answers of an arena to whether its positions are marked
pub marks_test : (m : Meaning) (g p : ℕ) (b : Bool) → p < m.size → g < m.goals → b ≡ unwrap_or (marked_answer m p g) false → b ≡ m.marked p g
marks_test m g p b h l e = e ∙ ap (λ o. unwrap_or o false) (within_true (ltb p m.size && ltb g m.goals) (m.marked p g) (and_from _ _ (lt-ltb p m.size h) (lt-ltb g m.goals l)))
