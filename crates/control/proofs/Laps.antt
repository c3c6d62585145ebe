-- A sequence of positions that is steered by the controller's table contains every goal in any k × n places in a row.
-- While the aim is unmet its rank falls at each step, so it is met within n places; then the next goal is the aim, and from
-- any aim on each of the k goals has its turn within k such legs. Runs and the winning strategy both rest on this.
use Rattle.std.proofs.Common.{◌≡◌, ℕ, zero, suc, ◌+◌, ◌-◌, ◌*◌, ◌<◌, ◌≤◌, true, false, cond, eqb, ◌⊎◌, sym, refl, ap, ◌∙◌, subst, inl, inr, mul-le-mul_right, suc-mul, arith}
use Rattle.std.proofs.lemmas.Bool.{cases_lt, both_ways, eqb-true, eqb-false, cases_Bool, cond-true, cond-false, cond_both}
use Rattle.arena.specs.Arena.{Meaning}
use Rattle.arena.specs.Play.{Contains}
use Rattle.control.specs.Run.{next_aim}
use Rattle.control.proofs.Table.{Near, Serves}

-- the goal after a, and after the last the first
abbrev turned : Meaning → ℕ → ℕ
turned m a = cond (eqb (suc a) m.goals) 0 (suc a)

pub next_aim_below : (m : Meaning) (p a : ℕ) → a < m.goals → next_aim m p a < m.goals
next_aim_below m p a h =
    cond_both (m.marked p a) (turned m a) a (λ x. x < m.goals)
    (λ _. cond_both (eqb (suc a) m.goals) 0 (suc a) (λ x. x < m.goals) (λ _. omega arith) (λ e. let ne = eqb-false (suc a) m.goals e in omega arith))
    (λ _. h)

-- the aims along a sequence
abbrev pub aims : Meaning → (ℕ → ℕ) → ℕ → ℕ
aims m π zero = 0
aims m π (suc i) = next_aim m (π i) (aims m π i)

pub aims_below : (m : Meaning) → 0 < m.goals → (π : ℕ → ℕ) (i : ℕ) → aims m π i < m.goals
aims_below m h π zero = h
aims_below m h π (suc i) = next_aim_below m (π i) (aims m π i) (aims_below m h π i)

-- each position is the controller's, and each step comes nearer to the aim
pub record Steered (m : Meaning) (side : ℕ → ℕ) (rank : ℕ → ℕ → ℕ) (π : ℕ → ℕ) (len : ℕ) : Type 0 where
  pub inside : (i : ℕ) → i < len → π i < m.size
  pub ours : (i : ℕ) → i < len → side (π i) ≡ 0
  pub near : (i : ℕ) → suc i < len → Near side rank (aims m π i) (π i) (π (suc i))

module _ (m : Meaning) (side : ℕ → ℕ) (rank move : ℕ → ℕ → ℕ) (table : Serves m side rank move) (π : ℕ → ℕ) (len : ℕ) (t : Steered m side rank π len) where
  abbrev α : ℕ → ℕ
  α = aims m π

  low : (j : ℕ) → α j < m.goals
  low = aims_below m table.some π

  met : (j : ℕ) → j < len → rank (α j) (π j) ≡ 0 → m.marked (π j) (α j) ≡ true
  met j l e = table.met (α j) (π j) (low j) (t.inside j l) (t.ours j l) e

  -- from a place that does not meet the aim, the aim stays and its rank falls
  falls : (j : ℕ) → suc j < len → m.marked (π j) (α j) ≡ false → (α (suc j) ≡ α j) × (rank (α j) (π (suc j)) < rank (α j) (π j))
  falls j l off = (
    cond-false (m.marked (π j) (α j)) (turned m (α j)) (α j) off,
    elim (t.near j l).nearer [ inl z ↦ absurd (both_ways (m.marked (π j) (α j)) off (met j (omega arith) z)) | inr z ↦ z ],
  )

  -- one leg: within r more places the aim is met, and until then it stays
  leg : (r j : ℕ) → j + r < len → rank (α j) (π j) ≤ r → (i : ℕ) × (j ≤ i) × (i ≤ j + r) × (m.marked (π i) (α j) ≡ true) × (α i ≡ α j)
  leg zero j room few = (j, omega arith, omega arith, met j (omega arith) (omega arith), refl)
  leg (suc r) j room few =
      elim (cases_Bool (m.marked (π j) (α j))) [
        | inl here ↦ (j, omega arith, omega arith, here, refl)
        | inr off ↦
            let s = falls j (omega arith) off in
            let fewer : rank (α (suc j)) (π (suc j)) ≤ r = subst (λ a. rank a (π (suc j)) ≤ r) (sym s.0) (omega (arith, s.1)) in
            let w = leg r (suc j) (omega arith) fewer in
            (w.0, omega (arith, w.1), omega (arith, w.2), subst (λ a. m.marked (π w.0) a ≡ true) s.0 w.3, w.4 ∙ s.0)
      ]

  turns : (i a : ℕ) → α i ≡ a → m.marked (π i) a ≡ true → α (suc i) ≡ turned m a
  turns i a e mk = ap (next_aim m (π i)) e ∙ cond-true (m.marked (π i) a) (turned m a) a mk

  -- so within n places the aim is met, and then the next goal is the aim
  first_leg : (j : ℕ) → j + m.size ≤ len → j < len → (i : ℕ) × (j ≤ i) × (i < j + m.size) × (m.marked (π i) (α j) ≡ true) × (α (suc i) ≡ turned m (α j))
  first_leg j room l =
      let small = table.low (α j) (π j) (low j) (t.inside j l) (t.ours j l) in
      let w = leg (m.size - 1) j (omega arith) (omega arith) in
      (w.0, w.1, omega (arith, w.2), w.3, turns w.0 (α j) w.4 w.3)

  -- goal g is d turns after aim a
  Way : ℕ → ℕ → ℕ → Type 0
  Way a d g = (a + d ≡ g) ⊎ (a + d ≡ g + m.goals)

  way_on : (a b d g : ℕ) → g < m.goals → b ≡ turned m a → Way a (suc d) g → Way b d g
  unfolding Way
  way_on a b d g gl e w = go (cases_Bool (eqb (suc a) m.goals)) w
    where
      go : (eqb (suc a) m.goals ≡ true) ⊎ (eqb (suc a) m.goals ≡ false) → (a + suc d ≡ g) ⊎ (a + suc d ≡ g + m.goals) → (b + d ≡ g) ⊎ (b + d ≡ g + m.goals)
      go (inl z) (inl q) = let last = eqb-true (suc a) m.goals z in absurd (omega arith)
      go (inl z) (inr q) = let last = eqb-true (suc a) m.goals z in let b-is : b ≡ 0 = e ∙ cond-true (eqb (suc a) m.goals) 0 (suc a) z in inl (omega arith)
      go (inr z) (inl q) = let b-is : b ≡ suc a = e ∙ cond-false (eqb (suc a) m.goals) 0 (suc a) z in inl (omega arith)
      go (inr z) (inr q) = let b-is : b ≡ suc a = e ∙ cond-false (eqb (suc a) m.goals) 0 (suc a) z in inr (omega arith)

  -- d more legs meet the goal that is d turns away
  legs : (d j g : ℕ) → g < m.goals → j < len → Way (α j) d g → j + suc d * m.size ≤ len → (i : ℕ) × (j ≤ i) × (i < j + suc d * m.size) × (m.marked (π i) g ≡ true)
  unfolding Way
  legs zero j g gl l way room =
      let w = first_leg j (omega arith) l in
      let below = low j in
      let same : α j ≡ g = omega arith in
      (w.0, w.1, omega (arith, w.2), subst (λ a. m.marked (π w.0) a ≡ true) same w.3)
  legs (suc d) j g gl l way room =
      let some : 0 < m.size = omega (arith, t.inside j l) in
      let more : suc (suc d) * m.size ≡ suc d * m.size + m.size = suc-mul (suc d) m.size in
      let one : suc d * m.size ≡ d * m.size + m.size = suc-mul d m.size in
      let w = first_leg j (omega arith) l in
      let here : w.0 < j + m.size = w.2 in
      let r = legs d (suc w.0) g gl (omega arith) (way_on (α j) (α (suc w.0)) d g gl w.4 way) (omega arith) in
      (r.0, omega (arith, w.1, r.1), omega (arith, r.2), r.3)

  -- any k × n places in a row contain every goal
  pub laps : (i g : ℕ) → g < m.goals → i < len → i + m.goals * m.size ≤ len → Contains m π i (m.goals * m.size) g
  unfolding Way
  laps i g gl l room =
      elim (cases_lt g (α i)) [
        | inl z ↦ by (g + m.goals - α i) (inr (let b = low i in omega arith)) (omega arith)
        | inr z ↦ by (g - α i) (inl (omega arith)) (let b = low i in omega arith)
      ]
    where
      by : (d : ℕ) → (α i + d ≡ g) ⊎ (α i + d ≡ g + m.goals) → suc d ≤ m.goals → Contains m π i (m.goals * m.size) g
      by d way few =
          let fits : suc d * m.size ≤ m.goals * m.size = mul-le-mul_right m.size few in
          let r = legs d i g gl l way (omega arith) in
          (r.0, r.1, omega (arith, r.2), r.3)
