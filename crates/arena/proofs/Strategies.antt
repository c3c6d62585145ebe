-- Two strategies played out against each other make an endless play that obeys both, so at most one side wins.
-- Conversely a play that obeys one strategy is played out against the opponent's strategy that repeats the play.
use Rattle.std.proofs.Common.{◌≡◌, ℕ, zero, suc, ◌-◌, ◌<◌, Bool, true, cond, ◌&&◌, eqb, List, [], ◌∷◌, length, get_or, sym, refl, ap, ◌∙◌, subst, inl, inr, add-one, arith}
use Rattle.std.proofs.lemmas.Bool.{eq-eqb, eqb-true, ne_eqb, and_parts, and_from, cases_eq, cases_Bool, cond-true, cond-false}
use Rattle.arena.specs.Arena.{Meaning, Lawful}
use Rattle.arena.specs.Play.{Move, Endless, history, Strategy, Obeys, Wanted, Winning, drawn, versus, StrategiesAgree}
use Rattle.arena.proofs.Basics.{front}
use Rattle.arena.proofs.Laws.{move_inside}

module _ (m : Meaning) (law : Lawful m) (side : ℕ) (either : side < 2) (σ : Strategy m side) (τ : Strategy m (1 - side)) (p : ℕ) (below : p < m.size) where
  abbrev path : ℕ → ℕ
  path = versus m side σ τ p

  abbrev before : ℕ → List ℕ
  before i = (drawn m side σ τ p i).1

  past : (i : ℕ) → history path i ≡ (path i ∷ before i)
  past zero = refl
  past (suc i) = ap (λ h. path (suc i) ∷ h) (past i)

  answered : (q : ℕ) (h : List ℕ) → q < m.size → Move m q (cond (eqb (m.owner q) side) (σ.choose (q ∷ h)) (τ.choose (q ∷ h)))
  answered q h lt =
      elim (cases_eq (m.owner q) side) [
        | inl o ↦ rw (cond-true (eqb (m.owner q) side) (σ.choose (q ∷ h)) (τ.choose (q ∷ h)) (eq-eqb (m.owner q) side o)) (σ.legal q h lt o)
        | inr o ↦ rw (cond-false (eqb (m.owner q) side) (σ.choose (q ∷ h)) (τ.choose (q ∷ h)) (ne_eqb (m.owner q) side o)) (τ.legal q h lt (omega (arith, law.owned q lt)))
      ]

  inside : (i : ℕ) → path i < m.size
  inside zero = below
  inside (suc i) = move_inside m law (path i) (path (suc i)) (inside i) (answered (path i) (before i) (inside i))

  versus_endless : Endless m path
  versus_endless = record { inside = inside; moves = λ i. rw (add-one i) (answered (path i) (before i) (inside i)) }

  versus_obeys : Obeys m side σ path
  versus_obeys i o = ap path (add-one i) ∙ cond-true (eqb (m.owner (path i)) side) _ _ (eq-eqb (m.owner (path i)) side o) ∙ ap σ.choose (sym (past i))

  versus_obeyed : Obeys m (1 - side) τ path
  versus_obeyed i o = ap path (add-one i) ∙ cond-false (eqb (m.owner (path i)) side) _ _ (ne_eqb (m.owner (path i)) side (λ z. omega arith)) ∙ ap τ.choose (sym (past i))

  wins_against : Winning m side σ p → Wanted m side path
  wins_against w = w path versus_endless refl versus_obeys

pub never_both : (m : Meaning) → Lawful m → (σ : Strategy m 0) (τ : Strategy m 1) (p : ℕ) → p < m.size → Winning m 0 σ p → Winning m 1 τ p → ⊥
never_both m law σ τ p below a b =
    b (versus m 0 σ τ p) (versus_endless m law 0 (omega arith) σ τ p below) refl (versus_obeyed m law 0 (omega arith) σ τ p below)
    (wins_against m law 0 (omega arith) σ τ p below a)

-- the list is the beginning of π, the newest first
abbrev follows : (ℕ → ℕ) → List ℕ → Bool
follows π [] = true
follows π (x ∷ xs) = eqb x (π (length xs)) && follows π xs

-- the next position of π after a beginning of it; after any other list the first move
abbrev repeat : Meaning → (ℕ → ℕ) → List ℕ → ℕ
repeat m π [] = 0
repeat m π (x ∷ xs) = cond (follows π (x ∷ xs)) (π (suc (length xs))) (get_or (m.moves x) 0 0)

abbrev newest : List ℕ → ℕ
newest [] = 0
newest (x ∷ xs) = x

module _ (π : ℕ → ℕ) where
  history_newest : (i : ℕ) → newest (history π i) ≡ π i
  history_newest zero = refl
  history_newest (suc i) = refl

  history_long : (i : ℕ) → length (history π i) ≡ suc i
  history_long zero = refl
  history_long (suc i) = ap suc (history_long i)

  history_follows : (i : ℕ) → follows π (history π i) ≡ true
  history_follows zero = and_from (eqb (π 0) (π 0)) true (eq-eqb (π 0) (π 0) refl) refl
  history_follows (suc i) = and_from _ _ (eq-eqb (π (suc i)) (π (length (history π i))) (ap π (sym (history_long i)))) (history_follows i)

  repeat_history : (m : Meaning) (i : ℕ) → repeat m π (history π i) ≡ π (suc i)
  repeat_history m zero = cond-true (follows π (history π 0)) _ _ (history_follows 0)
  repeat_history m (suc i) = cond-true (follows π (history π (suc i))) _ _ (history_follows (suc i)) ∙ ap (λ n. π (suc n)) (history_long i)

module _ (m : Meaning) (law : Lawful m) (side : ℕ) (σ : Strategy m side) (p : ℕ) (π : ℕ → ℕ) (endless : Endless m π) (from : π 0 ≡ p) (obeys : Obeys m side σ π) where
  repeat_legal : (q : ℕ) (h : List ℕ) → q < m.size → m.owner q ≡ 1 - side → Move m q (repeat m π (q ∷ h))
  repeat_legal q h lt o =
      elim (cases_Bool (follows π (q ∷ h))) [
        | inl e ↦
            rw (cond-true (follows π (q ∷ h)) (π (suc (length h))) (get_or (m.moves q) 0 0) e)
            (subst (λ x. Move m x (π (suc (length h)))) (sym (eqb-true q (π (length h)) (and_parts (eqb q (π (length h))) (follows π h) e).0)) (rw (add-one (length h)) at (endless.moves (length h))))
        | inr e ↦ rw (cond-false (follows π (q ∷ h)) (π (suc (length h))) (get_or (m.moves q) 0 0) e) (front (m.moves q) (law.some q lt))
      ]

  abbrev repeating : Strategy m (1 - side)
  repeating = record { choose = repeat m π; legal = repeat_legal }

  next : (i : ℕ) → cond (eqb (m.owner (newest (history π i))) side) (σ.choose (history π i)) (repeat m π (history π i)) ≡ π (suc i)
  next i =
      elim (cases_eq (m.owner (newest (history π i))) side) [
        | inl o ↦ cond-true (eqb (m.owner (newest (history π i))) side) _ _ (eq-eqb _ side o) ∙ sym (obeys i (ap m.owner (sym (history_newest π i)) ∙ o)) ∙ ap π (add-one i)
        | inr o ↦ cond-false (eqb (m.owner (newest (history π i))) side) _ _ (ne_eqb _ side o) ∙ repeat_history π m i
      ]

  same_history : (i : ℕ) → ((drawn m side σ repeating p i).0 ∷ (drawn m side σ repeating p i).1) ≡ history π i
  same_history zero = ap (λ x. x ∷ []) (sym from)
  same_history (suc i) =
      let h = same_history i in
      let e = ap (λ l. cond (eqb (m.owner (newest l)) side) (σ.choose l) (repeat m π l)) h ∙ next i in
      λ j. e j ∷ h j

  same_play : versus m side σ repeating p ≡ π
  same_play = λ j i. (ap newest (same_history i) ∙ history_newest π i) j

pub strategies_agree_lem : StrategiesAgree
strategies_agree_lem m law side either σ p below = (
  (λ w τ. wins_against m law side either σ τ p below w),
  (λ b π endless from obeys. subst (Wanted m side) (same_play m law side σ p π endless from obeys) (b (repeating m law side σ p π endless from obeys))),
)
