-- An arena by its meaning, the laws of one, and what its six questions answer. Read after the sets; the plays on an arena
-- come next.
use Rattle.std.specs.Prelude.{ℕ, ◌<◌, Bool, true, false, cond, ◌&&◌, List, [], length, Some, None, Option, nat_lt, slice_index}
use Rattle.arena.specs.Refusals.{Outcome, require}
use Rattle.arena.specs.Sets.{between}

-- The positions and the goals count from 0. An owner is 0 for the controller and 1 for the traffic.
-- A position may be marked for any of the goals; a move is named by the position that it leads to.
pub record Meaning : Type 0 where
  pub size : ℕ
  pub goals : ℕ
  pub owner : ℕ → ℕ
  pub marked : ℕ → ℕ → Bool
  pub moves : ℕ → List ℕ

-- Every position has one of the two owners, and its list of moves is non-empty, below size and strictly rising.
pub record Lawful (m : Meaning) : Type 0 where
  pub owned : (p : ℕ) → p < m.size → m.owner p < 2
  pub some : (p : ℕ) → p < m.size → 0 < length (m.moves p)
  pub below : (p j : ℕ) → p < m.size → j < length (m.moves p) → slice_index (m.moves p) j < m.size
  pub rising : (p i j : ℕ) → p < m.size → i < j → j < length (m.moves p) → slice_index (m.moves p) i < slice_index (m.moves p) j

-- what a question answers: a value where the question is inside the ranges, and otherwise nothing
abbrev pub within : {A : Type 0} → Bool → A → Option A
within true x = Some x
within false x = None

module _ (m : Meaning) where
  -- the owner of p
  abbrev pub owner_answer : ℕ → Option ℕ
  owner_answer p = within (nat_lt p m.size) (m.owner p)

  -- whether p is marked for goal g
  abbrev pub marked_answer : ℕ → ℕ → Option Bool
  marked_answer p g = within (nat_lt p m.size && nat_lt g m.goals) (m.marked p g)

  -- how many moves p has
  abbrev pub count_answer : ℕ → Option ℕ
  count_answer p = within (nat_lt p m.size) (length (m.moves p))

  -- the j-th move of p
  abbrev pub move_answer : ℕ → ℕ → Option ℕ
  move_answer p j = within (nat_lt p m.size && nat_lt j (length (m.moves p))) (slice_index (m.moves p) j)

-- the moves of p; none where there is no such position
abbrev pub moves_answer : Meaning → ℕ → List ℕ
moves_answer m p = cond (nat_lt p m.size) (m.moves p) []

-- what solve, check and start ask of an arena before all else: 1 to 4,096 positions, 1 to 8 goals
abbrev pub sized : {A : Type 0} → Meaning → Outcome A → Outcome A
sized m next = require (between 1 4096 m.size) 1 (require (between 1 8 m.goals) 2 next)
