-- What the work memory holds as the stages go on. Read after the solution and the columns.
-- Only the contracts of private functions cite it.
--
--   column 0   taken: the stage that took the position, or 0
--   column 1   goals: the goal that this stage picked
--   column 2   approaches: the approach
--   column 3   near: one more than the rank in the traffic's attractor of the core
--   column 4   steps: the traffic's move
--   column 5   choices: the controller's move for the goal that is being written
--   column 6 and on, one for each goal: one more than the rank in the controller's attractor of the goal
use Rattle.std.specs.Prelude.{◌≡◌, ℕ, ◌+◌, ◌*◌, ◌<◌, ◌≤◌, Bool, false, cond, List, length, Some, None, Option, slice_index}
use Rattle.arena.specs.Arena.{Meaning}
use Rattle.solver.specs.Attractor.{rank}
use Rattle.solver.specs.Solution.{target, final, left, stages, stage, given_up, approach}
use Rattle.solver.specs.Columns.{code}

-- among the ranks of all goals, one column after another, goal g has those in the controller's attractor of it inside a set
abbrev pub GoalRanks : Meaning → (ℕ → Bool) → ℕ → List ℕ → Type 0
GoalRanks m inside g ranks = (k : ℕ) → k < m.size → slice_index ranks (g * m.size + k) ≡ code (rank m 0 inside (target m inside g) k)

-- a search has asked goal g: it found nothing, or nothing before g
abbrev pub Asked : Option ℕ → ℕ → Type 0
Asked None g = Unit {0}
Asked (Some h) g = g ≤ h

-- after s stages: what the positions that went to the traffic have got
pub record Standing (m : Meaning) (s : ℕ) (taken goals approaches : List ℕ) : Type 0 where
  pub stage_is : (k : ℕ) → k < m.size → slice_index taken k ≡ cond (left m s k) 0 (stage m k)
  pub goal_is : (k : ℕ) → k < m.size → left m s k ≡ false → slice_index goals k ≡ given_up m k
  pub approach_is : (k : ℕ) → k < m.size → left m s k ≡ false → slice_index approaches k ≡ approach m k

-- after all stages, in columns of one number for each position, where the arena is small enough: all that decisions are
-- read off
pub record Settled (m : Meaning) (taken goals approaches ranks : List ℕ) : Type 0 where
  pub small : m.size ≤ 4096
  pub few : m.goals ≤ 8
  pub taken_long : length taken ≡ m.size
  pub goals_long : length goals ≡ m.size
  pub approaches_long : length approaches ≡ m.size
  pub ranks_long : length ranks ≡ m.goals * m.size
  pub standing : Standing m (stages m) taken goals approaches
  pub ranked : (g : ℕ) → g < m.goals → GoalRanks m (final m) g ranks
