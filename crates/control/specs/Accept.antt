-- What check answers: the clauses, the order in which they are asked, and the first that fails.
-- Read after the certificate's layout; the runner comes next.
use Rattle.std.specs.Prelude.{ℕ, suc, ◌+◌, Bool, true, false, cond, not, ◌&&◌, ◌||◌, List, [], ◌∷◌, length, Some, None, Option, ◌==◌, nat_lt}
use Rattle.arena.specs.Refusals.{Outcome, accepted, refused, require}
use Rattle.arena.specs.Arena.{Meaning, sized}
use Rattle.arena.specs.Sets.{all, elem, upto, count}
use Rattle.arena.specs.Bytes.{byte, number}
use Rattle.arena.specs.Certificate.{record_start, side_of, goal_of, stage_of, approach_of, move_of, rank_of, goal_move_of, certificate_bytes, no_move}

-- two tests answer the same
abbrev pub same : Bool → Bool → Bool
same true b = b
same false b = not b

-- the mark at a place: 43 and a second byte
abbrev pub mark : List ℕ → ℕ → ℕ → Bool
mark bs i second = byte bs i == 0x43 && byte bs (i + 1) == second

-- the bytes have the length of a certificate of the arena
abbrev pub fit : Meaning → List ℕ → Bool
fit m bs = length bs == certificate_bytes m

-- the number of the first clause that fails, where the first of them has number i
abbrev pub first_failing : ℕ → List Bool → Option ℕ
first_failing i [] = None
first_failing i (b ∷ bs) = cond b (first_failing (suc i) bs) (Some i)

-- refused by the clause that fails at position p, if one does; else what comes next
abbrev pub failing : ℕ → Option ℕ → Outcome ℕ → Outcome ℕ
failing p None next = next
failing p (Some i) next = refused 14 (i ∷ p ∷ [])

module _ (m : Meaning) (bs : List ℕ) where
  -- clause 1: the head is right for the arena
  abbrev pub head_right : Bool
  head_right = mark bs 0 0x48 && number bs 2 == m.size && number bs 4 == m.goals

  -- clause 2: the end is right
  abbrev pub end_right : Bool
  end_right = mark bs (record_start m m.size) 0x45 && number bs (record_start m m.size + 2) == m.size

  -- a step to side 0 and, if the rank for goal g is above 0, to a smaller rank
  abbrev pub nearer_of : ℕ → ℕ → ℕ → Bool
  nearer_of g p q = side_of m bs q == 0 && (rank_of m bs g p == 0 || nat_lt (rank_of m bs g q) (rank_of m bs g p))

  -- a good step: to side 1, and either to a smaller stage, or to the same stage and goal with a smaller approach,
  -- or from approach 0 to approach 0 there
  abbrev pub good_step_of : ℕ → ℕ → Bool
  good_step_of p q =
      (side_of m bs q == 1)
      && (nat_lt (stage_of m bs q) (stage_of m bs p)
      || (stage_of m bs q == stage_of m bs p
      && goal_of m bs q == goal_of m bs p
      && (nat_lt (approach_of m bs q) (approach_of m bs p) || (approach_of m bs p == 0 && approach_of m bs q == 0))))

  -- every goal passes
  abbrev pub every_goal : (ℕ → Bool) → Bool
  every_goal f = all f (upto m.goals)

  -- the fields of a record of side 0 that are due to be zero: goal, stage, approach and the traffic's move
  abbrev pub unheld : ℕ → Bool
  unheld p = goal_of m bs p == 0 && stage_of m bs p == 0 && approach_of m bs p == 0 && move_of m bs p == 0

  -- the fields of a record of side 1 that are due to be zero: the rank and the move of each goal
  abbrev pub unserved_for : ℕ → ℕ → Bool
  unserved_for p g = rank_of m bs g p == 0 && goal_move_of m bs g p == 0

  abbrev pub unserved : ℕ → Bool
  unserved p = every_goal (unserved_for p)

  -- clause 3: the mark, a side, the fields due to be zero, and on side 1 a stage from 1 on and a goal of the arena
  abbrev pub shaped : ℕ → Bool
  shaped p =
      mark bs (record_start m p) 0x50
      && cond (side_of m bs p == 0) (unheld p)
      (side_of m bs p == 1 && nat_lt 0 (stage_of m bs p) && nat_lt (goal_of m bs p) m.goals && unserved p)

  -- clause 4: each rank is below size, and is 0 exactly when the position is marked for the goal
  abbrev pub ranked_for : ℕ → ℕ → Bool
  ranked_for p g = nat_lt (rank_of m bs g p) m.size && same (rank_of m bs g p == 0) (m.marked p g)

  abbrev pub ranked : ℕ → Bool
  ranked p = every_goal (ranked_for p)

  -- clause 5: for each goal the field is a move that comes nearer
  abbrev pub steered_for : ℕ → ℕ → Bool
  steered_for p g = elem (goal_move_of m bs g p) (m.moves p) && nearer_of g p (goal_move_of m bs g p)

  abbrev pub steered : ℕ → Bool
  steered p = every_goal (steered_for p)

  -- clause 6: the fields name no move, and every move comes nearer to every goal
  abbrev pub carried_for : ℕ → ℕ → Bool
  carried_for p g = goal_move_of m bs g p == no_move && all (nearer_of g p) (m.moves p)

  abbrev pub carried : ℕ → Bool
  carried p = every_goal (carried_for p)

  -- clause 7: the position is unmarked for its goal
  abbrev pub avoided : ℕ → Bool
  avoided p = not (m.marked p (goal_of m bs p))

  -- clause 8: the field is a move and a good step
  abbrev pub held : ℕ → Bool
  held p = elem (move_of m bs p) (m.moves p) && good_step_of p (move_of m bs p)

  -- clause 9: the field names no move, and every move is a good step
  abbrev pub kept : ℕ → Bool
  kept p = move_of m bs p == no_move && all (good_step_of p) (m.moves p)

  -- clauses 4 to 9, each asked where its side, owner and approach are met
  abbrev pub clause_4 : ℕ → Bool
  clause_4 p = not (side_of m bs p == 0) || ranked p

  abbrev pub clause_5 : ℕ → Bool
  clause_5 p = not (side_of m bs p == 0 && m.owner p == 0) || steered p

  abbrev pub clause_6 : ℕ → Bool
  clause_6 p = not (side_of m bs p == 0 && m.owner p == 1) || carried p

  abbrev pub clause_7 : ℕ → Bool
  clause_7 p = not (side_of m bs p == 1 && approach_of m bs p == 0) || avoided p

  abbrev pub clause_8 : ℕ → Bool
  clause_8 p = not (side_of m bs p == 1 && m.owner p == 1) || held p

  abbrev pub clause_9 : ℕ → Bool
  clause_9 p = not (side_of m bs p == 1 && m.owner p == 0) || kept p

  -- the clauses from the third on at a position
  abbrev pub clauses : ℕ → List Bool
  clauses p = shaped p ∷ clause_4 p ∷ clause_5 p ∷ clause_6 p ∷ clause_7 p ∷ clause_8 p ∷ clause_9 p ∷ []

  -- the positions one after another
  abbrev pub walk : List ℕ → Outcome ℕ → Outcome ℕ
  walk [] next = next
  walk (p ∷ ps) next = failing p (first_failing 3 (clauses p)) (walk ps next)

  -- the record gives its position to the controller
  abbrev pub ours : ℕ → Bool
  ours p = side_of m bs p == 0

  -- the number of records with side 0
  abbrev pub given : ℕ
  given = count ours (upto m.size)

  -- clauses 1 and 2 at position 0, then the positions in rising order and at each the others in rising order
  abbrev pub judged : Outcome ℕ
  judged = failing 0 (first_failing 1 (head_right ∷ end_right ∷ [])) (walk (upto m.size) (accepted given))

  -- what check answers
  abbrev pub checked : Outcome ℕ
  checked = sized m (require (fit m bs) 3 judged)
