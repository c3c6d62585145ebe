-- Which side gets each position, by stages, and the decision at each position.
-- Read after the attractor; the certificate says the same in bytes.
use Rattle.std.specs.Prelude.{ℕ, zero, suc, Bool, cond, not, ◌&&◌, ◌||◌, Some, None, Option, ◌==◌, nat_lt}
use Rattle.arena.specs.Arena.{Meaning}
use Rattle.arena.specs.Sets.{any, least, first, upto, count, value_or, holds}
use Rattle.arena.specs.Certificate.{no_move}
use Rattle.solver.specs.Attractor.{attracted, rank}

module _ (m : Meaning) where
  -- the positions inside that are marked for goal g
  abbrev pub target : (ℕ → Bool) → ℕ → ℕ → Bool
  target inside g p = inside p && m.marked p g

  -- the core: what the controller's attractor of goal g misses
  abbrev pub core : (ℕ → Bool) → ℕ → ℕ → Bool
  core inside g p = inside p && not (attracted m 0 inside (target inside g) p)

  -- the lowest goal with a core
  abbrev pub missed : (ℕ → Bool) → Option ℕ
  missed inside = least (λ g. any (core inside g) (upto m.size)) m.goals

  -- what is left once the traffic's attractor of the core has gone to the traffic
  abbrev pub without : Option ℕ → (ℕ → Bool) → ℕ → Bool
  without None inside p = inside p
  without (Some g) inside p = inside p && not (attracted m 1 inside (core inside g) p)

  -- what is left after so many stages; before the first it is every position
  abbrev pub left : ℕ → ℕ → Bool
  left zero p = nat_lt p m.size
  left (suc s) p = without (missed (left s)) (left s) p

  -- the number of stages: after them no goal has a core
  abbrev pub stages : ℕ
  stages = value_or (least (λ s. not (holds (missed (left s)))) (suc m.size)) 0

  -- the controller's part is what the last stage has left
  abbrev pub final : ℕ → Bool
  final = left stages

  -- c, the number of the controller's positions
  abbrev pub controlled : ℕ
  controlled = count final (upto m.size)

  -- how many stages go before the one that gives p to the traffic
  abbrev pub earlier : ℕ → ℕ
  earlier p = value_or (least (λ s. not (left (suc s) p)) stages) 0

  -- the stage, counted from 1, that gives p to the traffic
  abbrev pub stage : ℕ → ℕ
  stage p = suc (earlier p)

  -- what was left as that stage began
  abbrev pub before : ℕ → ℕ → Bool
  before p = left (earlier p)

  -- the goal that the stage picked
  abbrev pub given_up : ℕ → ℕ
  given_up p = value_or (missed (before p)) 0

  -- the approach: the rank in the traffic's attractor of the core
  abbrev pub approach : ℕ → ℕ
  approach p = value_or (rank m 1 (before p) (core (before p) (given_up p)) p) 0

  -- a controller's position has a rank for each goal, in the controller's attractor of it inside the controller's part
  abbrev pub goal_rank : ℕ → ℕ → ℕ
  goal_rank g p = value_or (rank m 0 final (target final g) p) 0

  -- a step that keeps to the controller's part and, unless the goal is here, comes nearer to it
  abbrev pub nearer : ℕ → ℕ → ℕ → Bool
  nearer g p q = final q && (goal_rank g p == 0 || nat_lt (goal_rank g q) (goal_rank g p))

  -- a step that keeps to the traffic's part: to a smaller stage, or nearer to the core of this one, or about in it
  abbrev pub good_step : ℕ → ℕ → Bool
  good_step p q =
      not (final q)
      && (nat_lt (stage q) (stage p)
      || (stage q == stage p
      && given_up q == given_up p
      && (nat_lt (approach q) (approach p) || (approach p == 0 && approach q == 0))))

  -- the controller's decision for each goal: the lowest move that comes nearer
  abbrev pub goal_move : ℕ → ℕ → ℕ
  goal_move g p = cond (m.owner p == 0) (first (nearer g p) no_move (m.moves p)) no_move

  -- the traffic's decision: the lowest move that is a good step
  abbrev pub traffic_move : ℕ → ℕ
  traffic_move p = cond (m.owner p == 1) (first (good_step p) no_move (m.moves p)) no_move
