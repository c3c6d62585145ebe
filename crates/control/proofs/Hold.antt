-- The traffic's side: its table is a strategy without memory that wins. Were the objective met, the goal that is avoided
-- would be visited again and again, and the depth would fall each time.
use Rattle.std.proofs.Common.{◌≡◌, ℕ, zero, suc, ◌+◌, ◌<◌, ◌≤◌, true, cond, eqb, List, [], ◌∷◌, get_or, ap, ◌∙◌, inl, inr, arith}
use Rattle.std.proofs.lemmas.Bool.{eqb-true, eq-eqb, cases_Bool, cond-true, cond-false}
use Rattle.arena.specs.Arena.{Meaning, Lawful}
use Rattle.arena.specs.Play.{Move, Endless, Satisfied, history, Strategy, Wins}
use Rattle.arena.proofs.Basics.{front}
use Rattle.arena.proofs.Laws.{owners}
use Rattle.control.proofs.Table.{Good, Holds}
use Rattle.control.proofs.Fall.{depth}
use Rattle.control.proofs.Sink.{side_later, sinks}

-- the table's move where the side is the traffic's, else the first
abbrev pub hold : Meaning → (ℕ → ℕ) → (ℕ → ℕ) → List ℕ → ℕ
hold m side move [] = 0
hold m side move (p ∷ past) = cond (eqb (side p) 1) (move p) (get_or (m.moves p) 0 0)

pub hold_now : (m : Meaning) (side move : ℕ → ℕ) (π : ℕ → ℕ) (i : ℕ) → side (π i) ≡ 1 → hold m side move (history π i) ≡ move (π i)
hold_now m side move π zero s = cond-true (eqb (side (π zero)) 1) (move (π zero)) (get_or (m.moves (π zero)) 0 0) (eq-eqb (side (π zero)) 1 s)
hold_now m side move π (suc i) s = cond-true (eqb (side (π (suc i))) 1) (move (π (suc i))) (get_or (m.moves (π (suc i))) 0 0) (eq-eqb (side (π (suc i))) 1 s)

module _ (m : Meaning) (law : Lawful m) (side goal stage approach move : ℕ → ℕ) (table : Holds m side goal stage approach move) where
  pub hold_legal : (p : ℕ) (past : List ℕ) → p < m.size → m.owner p ≡ 1 → Move m p (hold m side move (p ∷ past))
  hold_legal p past below o =
      elim (cases_Bool (eqb (side p) 1)) [
        | inl s ↦ rw (cond-true (eqb (side p) 1) (move p) (get_or (m.moves p) 0 0) s) (table.own p below (eqb-true (side p) 1 s) o).0
        | inr s ↦ rw (cond-false (eqb (side p) 1) (move p) (get_or (m.moves p) 0 0) s) (front (m.moves p) (law.some p below))
      ]

  abbrev pub holding : Strategy m 1
  holding = record { choose = hold m side move; legal = hold_legal }

  module _ (π : ℕ → ℕ) (endless : Endless m π) (obeys : (i : ℕ) → m.owner (π i) ≡ 1 → π (i + 1) ≡ hold m side move (history π i)) (sat : Satisfied m π) where
    hold_steps : (i : ℕ) → side (π i) ≡ 1 → Good side goal stage approach (π i) (π (i + 1))
    hold_steps i s =
        let below : π i < m.size = endless.inside i in
        elim (owners m law (π i) below) [
          | inl o ↦ table.other (π i) below s o (π (i + 1)) (endless.moves i)
          | inr o ↦ rw (obeys i o ∙ hold_now m side move π i s) (table.own (π i) below s o).1
        ]

    ends : (n i : ℕ) → depth stage approach m.size (π i) < n → side (π i) ≡ 1 → ⊥
    ends zero i lt s = omega arith
    ends (suc n) i lt s =
        let v : (j : ℕ) × (i ≤ j) × (m.marked (π j) (goal (π i)) ≡ true) = sat (goal (π i)) (table.aimed (π i) (endless.inside i) s) i in
        let le : i ≤ v.0 = v.1 in
        let down : depth stage approach m.size (π (v.0 + 1)) < depth stage approach m.size (π i) =
        sinks m law side goal stage approach move table π (v.0 + 2) (λ i _. endless.inside i) (λ i _. hold_steps i) i v.0 (v.0 + 1) le (omega arith) (omega arith) s v.2 in
        let s' : side (π (v.0 + 1)) ≡ 1 =
        side_later m law side goal stage approach move table π (v.0 + 2) (λ i _. endless.inside i) (λ i _. hold_steps i) i (v.0 + 1) (omega arith) (omega arith) s in
        ends n (v.0 + 1) (omega arith) s'

  pub hold_wins : (p : ℕ) → side p ≡ 1 → Wins m 1 p
  hold_wins p s = (holding, λ π endless from obeys sat. ends π endless obeys sat (suc (depth stage approach m.size (π 0))) 0 (omega arith) (ap side from ∙ s))
