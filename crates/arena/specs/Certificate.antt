-- A certificate's layout: a head, a record for each position, an end, and the fields of any bytes read as one.
-- Read after the arena and the bytes.
--
--   head     43 48, the number of positions, the number of goals
--   record   43 50, side, goal (one byte each), stage, approach, move (two bytes each),
--            then for each goal a rank and a move (two bytes each)
--   end      43 45, the number of positions
--
-- Marks stand in hexadecimal. All other numbers have two bytes, the high byte first; 65,535 stands for no move.
use Rattle.std.specs.Prelude.{ℕ, ◌+◌, ◌*◌, List}
use Rattle.arena.specs.Arena.{Meaning}
use Rattle.arena.specs.Bytes.{byte, number}

-- what stands in a field for no move
abbrev pub no_move : ℕ
no_move = 65535

-- the length of a record
abbrev pub record_bytes : Meaning → ℕ
record_bytes m = 10 + 4 * m.goals

-- the length of the certificate
abbrev pub certificate_bytes : Meaning → ℕ
certificate_bytes m = m.size * record_bytes m + 10

-- where the record of position p begins; after the last one, where the end does
abbrev pub record_start : Meaning → ℕ → ℕ
record_start m p = 6 + p * record_bytes m

-- the fields of the record of position p, in any bytes
module _ (m : Meaning) (bs : List ℕ) where
  -- where the record begins
  abbrev pub at : ℕ → ℕ
  at p = record_start m p

  -- the side that the position is given to
  abbrev pub side_of : ℕ → ℕ
  side_of p = byte bs (at p + 2)

  -- the goal that the traffic keeps from being visited for ever
  abbrev pub goal_of : ℕ → ℕ
  goal_of p = byte bs (at p + 3)

  -- the stage that gave the position to the traffic
  abbrev pub stage_of : ℕ → ℕ
  stage_of p = number bs (at p + 4)

  -- the approach: how near the core is
  abbrev pub approach_of : ℕ → ℕ
  approach_of p = number bs (at p + 6)

  -- the traffic's move
  abbrev pub move_of : ℕ → ℕ
  move_of p = number bs (at p + 8)

  -- the rank for goal g: how near the goal is
  abbrev pub rank_of : ℕ → ℕ → ℕ
  rank_of g p = number bs (at p + (10 + 4 * g))

  -- the controller's move for goal g
  abbrev pub goal_move_of : ℕ → ℕ → ℕ
  goal_move_of g p = number bs (at p + (12 + 4 * g))
