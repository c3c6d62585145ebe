-- The controller's side: its table is a strategy that aims at one goal after another, and wins.
-- The strategy finds the aim in the history as the runner does, so a play that obeys it is steered, and each goal is visited
-- in any k × n places in a row, from any place on.
use Rattle.std.proofs.Common.{◌≡◌, ℕ, zero, suc, ◌+◌, ◌*◌, ◌<◌, ◌≤◌, cond, eqb, List, [], ◌∷◌, get_or, sym, refl, ap, ◌∙◌, inl, inr, mul-le-mul_right, add-one, arith}
use Rattle.std.proofs.lemmas.Bool.{eqb-true, eq-eqb, cases_Bool, cond-true, cond-false}
use Rattle.arena.specs.Arena.{Meaning, Lawful}
use Rattle.arena.specs.Play.{Move, Endless, Satisfied, history, Wins}
use Rattle.control.specs.Run.{next_aim}
use Rattle.arena.proofs.Basics.{front}
use Rattle.arena.proofs.Laws.{owners}
use Rattle.control.proofs.Table.{Near, Serves}
use Rattle.control.proofs.Laps.{next_aim_below, aims, aims_below, Steered, laps}

-- the aim once the positions of a history are left
abbrev aim : Meaning → List ℕ → ℕ
aim m [] = 0
aim m (p ∷ past) = next_aim m p (aim m past)

-- the table's move for the aim where the side is the controller's, else the first
abbrev serve : Meaning → (ℕ → ℕ) → (ℕ → ℕ → ℕ) → List ℕ → ℕ
serve m side move [] = 0
serve m side move (p ∷ past) = cond (eqb (side p) 0) (move (aim m past) p) (get_or (m.moves p) 0 0)

module _ (m : Meaning) (law : Lawful m) (side : ℕ → ℕ) (rank move : ℕ → ℕ → ℕ) (table : Serves m side rank move) where
  aim_below : (past : List ℕ) → aim m past < m.goals
  aim_below [] = table.some
  aim_below (p ∷ past) = next_aim_below m p (aim m past) (aim_below past)

  serve_legal : (p : ℕ) (past : List ℕ) → p < m.size → m.owner p ≡ 0 → Move m p (serve m side move (p ∷ past))
  serve_legal p past below o =
      elim (cases_Bool (eqb (side p) 0)) [
        | inl s ↦ rw (cond-true (eqb (side p) 0) (move (aim m past) p) (get_or (m.moves p) 0 0) s)
            (table.own (aim m past) p (aim_below past) below (eqb-true (side p) 0 s) o).0
        | inr s ↦ rw (cond-false (eqb (side p) 0) (move (aim m past) p) (get_or (m.moves p) 0 0) s) (front (m.moves p) (law.some p below))
      ]

  module _ (π : ℕ → ℕ) (endless : Endless m π) (start : side (π 0) ≡ 0) (obeys : (i : ℕ) → m.owner (π i) ≡ 0 → π (i + 1) ≡ serve m side move (history π i)) where
    -- the strategy's aim is the aim along the play
    aim_is : (i : ℕ) → aim m (history π i) ≡ aims m π (suc i)
    aim_is zero = refl
    aim_is (suc i) = ap (next_aim m (π (suc i))) (aim_is i)

    served_by : (i : ℕ) → side (π i) ≡ 0 → serve m side move (history π i) ≡ move (aims m π i) (π i)
    served_by zero s = cond-true (eqb (side (π 0)) 0) _ _ (eq-eqb (side (π 0)) 0 s)
    served_by (suc i) s = cond-true (eqb (side (π (suc i))) 0) _ _ (eq-eqb (side (π (suc i))) 0 s) ∙ ap (λ a. move a (π (suc i))) (aim_is i)

    step : (i : ℕ) → side (π i) ≡ 0 → Near side rank (aims m π i) (π i) (π (suc i))
    step i s =
        let below : π i < m.size = endless.inside i in
        let goal = aims_below m table.some π i in
        elim (owners m law (π i) below) [
          | inl o ↦ rw (sym (ap π (add-one i)) ∙ obeys i o ∙ served_by i s) (table.own (aims m π i) (π i) goal below s o).1
          | inr o ↦ table.other (aims m π i) (π i) goal below s o (π (suc i)) (rw (add-one i) at (endless.moves i))
        ]

    ours : (i : ℕ) → side (π i) ≡ 0
    ours zero = start
    ours (suc i) = (step i (ours i)).stays

    satisfied : Satisfied m π
    satisfied g goal i =
        let len : ℕ = i + m.goals * m.size in
        let steered : Steered m side rank π len = record { inside = λ j _. endless.inside j; ours = λ j _. ours j; near = λ j _. step j (ours j) } in
        let some : 0 < m.size = omega (arith, endless.inside i) in
        let room : 1 * m.size ≤ m.goals * m.size = mul-le-mul_right m.size table.some in
        let r = laps m side rank move table π len steered i g goal (omega arith) (omega arith) in
        (r.0, r.1, r.3)

  pub serve_wins : (p : ℕ) → side p ≡ 0 → Wins m 0 p
  serve_wins p s = (record { choose = serve m side move; legal = serve_legal }, λ π endless from obeys. satisfied π endless (ap side from ∙ s) obeys)
