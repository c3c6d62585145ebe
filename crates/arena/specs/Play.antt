-- Plays, stretches, strategies, and who wins. Read after the arena; nothing here speaks of certificates or of solving.
use Rattle.std.specs.Prelude.{◌≡◌, ℕ, zero, suc, ◌+◌, ◌-◌, ◌<◌, ◌≤◌, true, cond, ◌↔◌, List, [], ◌∷◌, ◌==◌}
use Rattle.arena.specs.Arena.{Meaning, Lawful}
use Rattle.arena.specs.Sets.{elem}

-- q is a move of p
abbrev pub Move : Meaning → ℕ → ℕ → Type 0
Move m p q = elem q (m.moves p) ≡ true

-- a play of so many positions, each a move of the one before
pub record Play (m : Meaning) (π : ℕ → ℕ) (len : ℕ) : Type 0 where
  pub inside : (i : ℕ) → i < len → π i < m.size
  pub moves : (i : ℕ) → i + 1 < len → Move m (π i) (π (i + 1))

-- a play that never stops
pub record Endless (m : Meaning) (π : ℕ → ℕ) : Type 0 where
  pub inside : (i : ℕ) → π i < m.size
  pub moves : (i : ℕ) → Move m (π i) (π (i + 1))

-- the stretch of so many positions from place i on contains goal g
abbrev pub Contains : Meaning → (ℕ → ℕ) → ℕ → ℕ → ℕ → Type 0
Contains m π i len g = (j : ℕ) × (i ≤ j) × (j < i + len) × (m.marked (π j) g ≡ true)

-- the stretch contains every goal
abbrev pub ContainsAll : Meaning → (ℕ → ℕ) → ℕ → ℕ → Type 0
ContainsAll m π i len = (g : ℕ) → g < m.goals → Contains m π i len g

-- so many stretches of a play, in their order and without overlap, each containing every goal
pub record Stretches (m : Meaning) (π : ℕ → ℕ) (len : ℕ) (number : ℕ) : Type 0 where
  pub begins : ℕ → ℕ
  pub lasts : ℕ → ℕ
  pub apart : (j : ℕ) → j + 1 < number → begins j + lasts j ≤ begins (j + 1)
  pub inside : (j : ℕ) → j < number → begins j + lasts j ≤ len
  pub full : (j : ℕ) → j < number → ContainsAll m π (begins j) (lasts j)

-- the objective: every goal is visited infinitely often
abbrev pub Satisfied : Meaning → (ℕ → ℕ) → Type 0
Satisfied m π = (g : ℕ) → g < m.goals → (i : ℕ) → (j : ℕ) × (i ≤ j) × (m.marked (π j) g ≡ true)

-- what a side wants of a play: the controller (0) that the objective is met, the traffic (1) that it is not
abbrev pub Wanted : Meaning → ℕ → (ℕ → ℕ) → Type 0
Wanted m zero π = Satisfied m π
Wanted m (suc s) π = Satisfied m π → ⊥

-- the history of a play at place i: its positions up to there, the newest first
abbrev pub history : (ℕ → ℕ) → ℕ → List ℕ
history π zero = π zero ∷ []
history π (suc i) = π (suc i) ∷ history π i

-- a strategy of a side answers a move for each history that ends in a position of that side
pub record Strategy (m : Meaning) (side : ℕ) : Type 0 where
  pub choose : List ℕ → ℕ
  pub legal : (p : ℕ) (past : List ℕ) → p < m.size → m.owner p ≡ side → Move m p (choose (p ∷ past))

-- the play obeys the strategy: every move from a position of the side is the one that the strategy answers
abbrev pub Obeys : (m : Meaning) (side : ℕ) → Strategy m side → (ℕ → ℕ) → Type 0
Obeys m side σ π = (i : ℕ) → m.owner (π i) ≡ side → π (i + 1) ≡ σ.choose (history π i)

-- the strategy wins at p: every endless play from p that obeys it is one that the side wants
abbrev pub Winning : (m : Meaning) (side : ℕ) → Strategy m side → ℕ → Type 0
Winning m side σ p = (π : ℕ → ℕ) → Endless m π → π 0 ≡ p → Obeys m side σ π → Wanted m side π

-- the side wins at p: it has a strategy that does
abbrev pub Wins : Meaning → ℕ → ℕ → Type 0
Wins m side p = (σ : Strategy m side) × Winning m side σ p

-- Two strategies played out against each other from p: the position at place i, and the positions before it.
abbrev pub drawn : (m : Meaning) (side : ℕ) → Strategy m side → Strategy m (1 - side) → ℕ → ℕ → ℕ × List ℕ
drawn m side σ τ p zero = (p, [])
drawn m side σ τ p (suc i) =
    let d : ℕ × List ℕ = drawn m side σ τ p i in
    let h : List ℕ = d.0 ∷ d.1 in
    (cond (m.owner d.0 == side) (σ.choose h) (τ.choose h), h)

-- the play that a strategy and one of the opponent's make from p
abbrev pub versus : (m : Meaning) (side : ℕ) → Strategy m side → Strategy m (1 - side) → ℕ → ℕ → ℕ
versus m side σ τ p i = (drawn m side σ τ p i).0

-- the strategy wins against every strategy of the opponent
abbrev pub BeatsAll : (m : Meaning) (side : ℕ) → Strategy m side → ℕ → Type 0
BeatsAll m side σ p = (τ : Strategy m (1 - side)) → Wanted m side (versus m side σ τ p)

-- It is the same to win every play that obeys a strategy and to win against every strategy of the opponent.
abbrev pub StrategiesAgree : Type 0
StrategiesAgree =
    (m : Meaning) → Lawful m → (side : ℕ) → side < 2 → (σ : Strategy m side) → (p : ℕ) → p < m.size →
    Winning m side σ p ↔ BeatsAll m side σ p
