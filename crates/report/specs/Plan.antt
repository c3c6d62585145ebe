-- The text of a plan: what a certificate says of each position. Read after the refusals as text.
use Rattle.std.specs.Prelude.{ℕ, cond, List, [], ◌∷◌, ◌++◌, codes, decimal, ◌==◌}
use Rattle.arena.specs.Arena.{Meaning}
use Rattle.arena.specs.Certificate.{no_move, side_of, goal_of, stage_of, approach_of, move_of, rank_of, goal_move_of}
use Rattle.arena.specs.Sets.{upto, concat}
use Rattle.arena.specs.Told.{fields}

-- a move; `-` for none
abbrev pub move_text : ℕ → List ℕ
move_text q = cond (q == no_move) (codes "-") (decimal q)

module _ (m : Meaning) (bs : List ℕ) where
  -- the controller's decision for goal g at position p, after a space: rank, colon, move
  abbrev pub goal_text : ℕ → ℕ → List ℕ
  goal_text p g = codes " " ++ (decimal (rank_of m bs g p) ++ (codes ":" ++ move_text (goal_move_of m bs g p)))

  -- the controller's decisions at position p
  abbrev pub controller_text : ℕ → List ℕ
  controller_text p = codes " C" ++ concat (goal_text p) (upto m.goals)

  -- the traffic's decision at position p: goal, stage, approach, move
  abbrev pub traffic_text : ℕ → List ℕ
  traffic_text p =
      codes " T " ++ (decimal (goal_of m bs p)
      ++ (codes " " ++ (decimal (stage_of m bs p)
      ++ (codes " " ++ (decimal (approach_of m bs p)
      ++ (codes " " ++ move_text (move_of m bs p)))))))

  -- the decisions of the side that position p is given to
  abbrev pub side_text : ℕ → List ℕ
  side_text p = cond (side_of m bs p == 0) (controller_text p) (traffic_text p)

  -- the line of position p: its number, and the decisions there
  abbrev pub decision_text : ℕ → List ℕ
  decision_text p = decimal p ++ (side_text p ++ codes "\n")

  -- a plan: the numbers of positions and goals, c and s, then a line for each position
  abbrev pub plan_text : ℕ → ℕ → List ℕ
  plan_text c s = codes "plan" ++ fields (m.size ∷ m.goals ∷ c ∷ s ∷ []) ++ codes "\n" ++ concat decision_text (upto m.size)
