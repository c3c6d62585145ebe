-- On the traffic's side a depth never rises, and falls after each visit of the goal that is avoided: the depth counts the
-- positions with a smaller stage, or the same and a smaller approach, and no position of approach 0 is marked for its goal.
use Rattle.std.proofs.Common.{◌≡◌, ℕ, zero, suc, ◌+◌, ◌-◌, ◌<◌, ◌≤◌, true, ◌⊎◌, get_or, refl, ap, ◌∙◌, inl, inr, arith}
use Rattle.arena.specs.Arena.{Meaning, Lawful}
use Rattle.arena.proofs.Basics.{front}
use Rattle.arena.proofs.Laws.{move_inside, owners}
use Rattle.control.proofs.Table.{Good, Holds}
use Rattle.control.proofs.Fall.{depth, depth_le, depth_lt}

-- what a good step does to the depth
pub step_sinks : (n : ℕ) (side goal stage approach : ℕ → ℕ) (p q : ℕ) → q < n → Good side goal stage approach p q →
    (depth stage approach n q < depth stage approach n p)
    ⊎ ((depth stage approach n q ≤ depth stage approach n p) × (goal q ≡ goal p) × (approach p ≡ 0))
step_sinks n side goal stage approach p q below good = go good.falls
  where
    go : (stage q < stage p) ⊎ ((stage q ≡ stage p) × (goal q ≡ goal p) × ((approach q < approach p) ⊎ ((approach p ≡ 0) × (approach q ≡ 0)))) →
        (depth stage approach n q < depth stage approach n p)
        ⊎ ((depth stage approach n q ≤ depth stage approach n p) × (goal q ≡ goal p) × (approach p ≡ 0))
    go (inl x) = inl (depth_lt stage approach n p q below (inl x))
    go (inr y) =
        elim y.2 [
          | inl x ↦ inl (depth_lt stage approach n p q below (inr (y.0, x)))
          | inr x ↦ inr (depth_le stage approach n p q (inr (y.0, omega arith)), y.1, x.0)
        ]

module _ (m : Meaning) (law : Lawful m) (side goal stage approach move : ℕ → ℕ) (table : Holds m side goal stage approach move) where
  -- a position of the side has a good step
  pub onward : (p : ℕ) → p < m.size → side p ≡ 1 → (q : ℕ) × (q < m.size) × Good side goal stage approach p q
  onward p below s =
      elim (owners m law p below) [
        | inl o ↦ (
          get_or (m.moves p) 0 0,
          move_inside m law p (get_or (m.moves p) 0 0) below (front (m.moves p) (law.some p below)),
          table.other p below s o (get_or (m.moves p) 0 0) (front (m.moves p) (law.some p below)),
        )
        | inr o ↦ (move p, move_inside m law p (move p) below (table.own p below s o).0, (table.own p below s o).1)
      ]

  -- a sequence with good steps
  module _ (π : ℕ → ℕ) (len : ℕ) (inside : (i : ℕ) → i < len → π i < m.size)
      (steps : (i : ℕ) → i + 1 < len → side (π i) ≡ 1 → Good side goal stage approach (π i) (π (i + 1))) where
    later : (i d j : ℕ) → j ≡ i + d → j < len → side (π i) ≡ 1 →
        (side (π j) ≡ 1)
        × ((depth stage approach m.size (π j) < depth stage approach m.size (π i))
        ⊎ ((depth stage approach m.size (π j) ≤ depth stage approach m.size (π i)) × (goal (π j) ≡ goal (π i))))
    later i zero j e below s =
        let h : j ≡ i = omega arith in
        rw h (s, inr (omega arith, refl))
    later i (suc d) j e below s =
        let h : j ≡ (i + d) + 1 = omega arith in
        rw h (one (later i d (i + d) refl (omega arith) s))
      where
        one : (side (π (i + d)) ≡ 1)
            × ((depth stage approach m.size (π (i + d)) < depth stage approach m.size (π i))
            ⊎ ((depth stage approach m.size (π (i + d)) ≤ depth stage approach m.size (π i)) × (goal (π (i + d)) ≡ goal (π i)))) →
            (side (π ((i + d) + 1)) ≡ 1)
            × ((depth stage approach m.size (π ((i + d) + 1)) < depth stage approach m.size (π i))
            ⊎ ((depth stage approach m.size (π ((i + d) + 1)) ≤ depth stage approach m.size (π i)) × (goal (π ((i + d) + 1)) ≡ goal (π i))))
        one r =
            let lim : (i + d) + 1 < len = omega arith in
            let good : Good side goal stage approach (π (i + d)) (π ((i + d) + 1)) = steps (i + d) lim r.0 in (
              good.stays,
              elim (step_sinks m.size side goal stage approach (π (i + d)) (π ((i + d) + 1)) (inside ((i + d) + 1) lim) good) [
                | inl x ↦ inl (let y = r.1 in omega arith)
                | inr x ↦ elim r.1 [
                  | inl y ↦ inl (omega arith)
                  | inr y ↦ inr (omega arith, x.1 ∙ y.1)
                ]
              ],
            )

    pub side_later : (i j : ℕ) → i ≤ j → j < len → side (π i) ≡ 1 → side (π j) ≡ 1
    side_later i j le below s = (later i (j - i) j (omega arith) below s).0

    pub depth_later : (i j : ℕ) → i ≤ j → j < len → side (π i) ≡ 1 → depth stage approach m.size (π j) ≤ depth stage approach m.size (π i)
    depth_later i j le below s = let h = (later i (j - i) j (omega arith) below s).1 in omega arith

    -- at a visit of the goal the depth has fallen, or a step is left to do
    visit : (i j : ℕ) → i ≤ j → j < len → side (π i) ≡ 1 → m.marked (π j) (goal (π i)) ≡ true →
        (depth stage approach m.size (π j) < depth stage approach m.size (π i))
        ⊎ ((depth stage approach m.size (π j) ≤ depth stage approach m.size (π i)) × (approach (π j) ≡ 0 → ⊥))
    visit i j le below s mk =
        elim (later i (j - i) j (omega arith) below s).1 [
          | inl x ↦ inl x
          | inr x ↦ inr (x.0, λ z. table.free (π j) (inside j below) (side_later i j le below s) z (ap (m.marked (π j)) x.1 ∙ mk))
        ]

    -- so the position has a depth, and a position after the visit has less
    pub has_depth : (i j : ℕ) → i ≤ j → j < len → side (π i) ≡ 1 → m.marked (π j) (goal (π i)) ≡ true → 0 < depth stage approach m.size (π i)
    has_depth i j le below s mk =
        elim (visit i j le below s mk) [
          | inl x ↦ omega arith
          | inr x ↦ (let next = onward (π j) (inside j below) (side_later i j le below s) in
              elim (step_sinks m.size side goal stage approach (π j) next.0 next.1 next.2) [
                | inl y ↦ omega arith
                | inr y ↦ absurd (x.1 y.2)
              ])
        ]

    pub sinks : (i j e : ℕ) → i ≤ j → j < e → e < len → side (π i) ≡ 1 → m.marked (π j) (goal (π i)) ≡ true →
        depth stage approach m.size (π e) < depth stage approach m.size (π i)
    sinks i j e le lt below s mk =
        let sj : side (π j) ≡ 1 = side_later i j le (omega arith) s in
        let good : Good side goal stage approach (π j) (π (j + 1)) = steps j (omega arith) sj in
        let to : depth stage approach m.size (π e) ≤ depth stage approach m.size (π (j + 1)) = depth_later (j + 1) e (omega arith) below good.stays in
        elim (step_sinks m.size side goal stage approach (π j) (π (j + 1)) (inside (j + 1) (omega arith)) good) [
          | inl y ↦ (let x = visit i j le (omega arith) s mk in omega arith)
          | inr y ↦ elim (visit i j le (omega arith) s mk) [
            | inl x ↦ omega arith
            | inr x ↦ absurd (x.1 y.2)
          ]
        ]
