-- What an accepted certificate is to the theory of games: two tables over the positions, as facts on numbers.
-- All that is proved of plays and runs is proved of any such tables.
use Rattle.std.proofs.Common.{◌≡◌, ℕ, ◌<◌, true, ◌⊎◌}
use Rattle.arena.specs.Arena.{Meaning}
use Rattle.arena.specs.Play.{Move}

-- a step that keeps the traffic's side: the stage falls, or it stays with its goal and the approach falls or is done
pub record Good (side goal stage approach : ℕ → ℕ) (p q : ℕ) : Type 0 where
  pub stays : side q ≡ 1
  pub falls : (stage q < stage p) ⊎ ((stage q ≡ stage p) × (goal q ≡ goal p) × ((approach q < approach p) ⊎ ((approach p ≡ 0) × (approach q ≡ 0))))

-- the traffic's table
pub record Holds (m : Meaning) (side goal stage approach move : ℕ → ℕ) : Type 0 where
  pub aimed : (p : ℕ) → p < m.size → side p ≡ 1 → goal p < m.goals
  pub free : (p : ℕ) → p < m.size → side p ≡ 1 → approach p ≡ 0 → m.marked p (goal p) ≡ true → ⊥
  pub own : (p : ℕ) → p < m.size → side p ≡ 1 → m.owner p ≡ 1 → Move m p (move p) × Good side goal stage approach p (move p)
  pub other : (p : ℕ) → p < m.size → side p ≡ 1 → m.owner p ≡ 0 → (q : ℕ) → Move m p q → Good side goal stage approach p q

-- a step that keeps the controller's side and comes nearer to a goal that is not met
pub record Near (side : ℕ → ℕ) (rank : ℕ → ℕ → ℕ) (g p q : ℕ) : Type 0 where
  pub stays : side q ≡ 0
  pub nearer : (rank g p ≡ 0) ⊎ (rank g q < rank g p)

-- the controller's table
pub record Serves (m : Meaning) (side : ℕ → ℕ) (rank move : ℕ → ℕ → ℕ) : Type 0 where
  pub some : 0 < m.goals
  pub low : (g p : ℕ) → g < m.goals → p < m.size → side p ≡ 0 → rank g p < m.size
  pub met : (g p : ℕ) → g < m.goals → p < m.size → side p ≡ 0 → rank g p ≡ 0 → m.marked p g ≡ true
  pub own : (g p : ℕ) → g < m.goals → p < m.size → side p ≡ 0 → m.owner p ≡ 0 → Move m p (move g p) × Near side rank g p (move g p)
  pub other : (g p : ℕ) → g < m.goals → p < m.size → side p ≡ 0 → m.owner p ≡ 1 → (q : ℕ) → Move m p q → Near side rank g p q
