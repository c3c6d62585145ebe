-- Worked plants A to H: small arenas and calls with what comes out, each by its own equations, and all in one statement.
-- Read last; every equation is proved by computing both sides.
use Rattle.std.specs.Prelude.{◌≡◌, ℕ, List, [], ◌∷◌, ◌++◌, map, replicate, slice_index_or, slice_set}
use Rattle.arena.specs.Refusals.{accepted, refused}
use Rattle.arena.specs.Arena.{Meaning}
use Rattle.arena.specs.Sets.{elem}
use Rattle.control.specs.Accept.{checked}
use Rattle.control.specs.Run.{start, go, answers, idle}
use Rattle.row.specs.Rows.{Row, empty}
use Rattle.sheet.specs.Sheets.{new}
use Rattle.sheet.specs.Succession.{take, put, let_go, asked, nothing, copied, events}
use Rattle.solver.specs.Certificate.{certificate, entry}
use Rattle.solver.specs.Solution.{stages, controlled, stage, approach}
use Rattle.planner.specs.Promise.{Memories, solve_reply}

-- an arena from a list of its positions: owner, goals marked, moves
abbrev pub drawn : ℕ → ℕ → List (ℕ × List ℕ × List ℕ) → Meaning
drawn n k ps =
    record {
      size = n;
      goals = k;
      owner = λ p. (slice_index_or ps p (0, [], [])).0;
      marked = λ p g. elem g (slice_index_or ps p (0, [], [])).1;
      moves = λ p. (slice_index_or ps p (0, [], [])).2;
    }

-- A: one position, the controller's, marked, with a move to itself
abbrev pub plant_a : Meaning
plant_a = drawn 1 1 ((0, (0 ∷ []), (0 ∷ [])) ∷ [])

-- its record is all zero after the mark; c is 1 and s is 0
abbrev pub AStands : Type 0
AStands = (entry plant_a 0 ≡ 0x43 ∷ 0x50 ∷ replicate 12 0) × (controlled plant_a ≡ 1) × (stages plant_a ≡ 0)

-- B: the same unmarked goes to the traffic: side 1, goal 0, stage 1, approach 0, no move
abbrev pub plant_b : Meaning
plant_b = drawn 1 1 ((0, [], (0 ∷ [])) ∷ [])

-- its record; c is 0 and s is 1
abbrev pub BStands : Type 0
BStands =
    (entry plant_b 0 ≡ 0x43 ∷ 0x50 ∷ 1 ∷ 0 ∷ 0 ∷ 1 ∷ 0 ∷ 0 ∷ 255 ∷ 255 ∷ 0 ∷ 0 ∷ 0 ∷ 0 ∷ [])
    × (controlled plant_b ≡ 0)
    × (stages plant_b ≡ 1)

-- C: a line of three controller's positions with a goal at either end; each record has rank and move for both goals
abbrev pub plant_c : Meaning
plant_c = drawn 3 2 ((0, (0 ∷ []), (1 ∷ [])) ∷ (0, [], (0 ∷ 2 ∷ [])) ∷ (0, (1 ∷ []), (1 ∷ [])) ∷ [])

-- its certificate, whole: ranks and moves 0:1 2:1, then 1:0 1:2, then 2:1 0:1
abbrev pub certificate_c : List ℕ
certificate_c =
    (0x43 ∷ 0x48 ∷ 0 ∷ 3 ∷ 0 ∷ 2 ∷ [])
    ++ (0x43 ∷ 0x50 ∷ 0 ∷ 0 ∷ 0 ∷ 0 ∷ 0 ∷ 0 ∷ 0 ∷ 0 ∷ 0 ∷ 0 ∷ 0 ∷ 1 ∷ 0 ∷ 2 ∷ 0 ∷ 1 ∷ [])
    ++ (0x43 ∷ 0x50 ∷ 0 ∷ 0 ∷ 0 ∷ 0 ∷ 0 ∷ 0 ∷ 0 ∷ 0 ∷ 0 ∷ 1 ∷ 0 ∷ 0 ∷ 0 ∷ 1 ∷ 0 ∷ 2 ∷ [])
    ++ (0x43 ∷ 0x50 ∷ 0 ∷ 0 ∷ 0 ∷ 0 ∷ 0 ∷ 0 ∷ 0 ∷ 0 ∷ 0 ∷ 2 ∷ 0 ∷ 1 ∷ 0 ∷ 0 ∷ 0 ∷ 1 ∷ [])
    ++ (0x43 ∷ 0x45 ∷ 0 ∷ 3 ∷ [])

-- that is what solve writes; c is 3 and s is 0; check accepts it
abbrev pub CStands : Type 0
CStands =
    (certificate plant_c ≡ certificate_c)
    × (controlled plant_c ≡ 3)
    × (stages plant_c ≡ 0)
    × (checked plant_c certificate_c ≡ accepted 3)

-- D: C with the middle position the traffic's, which then keeps out of goal 0; each record has goal, stage, approach and move
abbrev pub plant_d : Meaning
plant_d = drawn 3 2 ((0, (0 ∷ []), (1 ∷ [])) ∷ (1, [], (0 ∷ 2 ∷ [])) ∷ (0, (1 ∷ []), (1 ∷ [])) ∷ [])

-- its certificate, whole: approaches 1, 0, 0 in stage 1 for goal 0, and the move to 2 at the middle
abbrev pub certificate_d : List ℕ
certificate_d =
    (0x43 ∷ 0x48 ∷ 0 ∷ 3 ∷ 0 ∷ 2 ∷ [])
    ++ (0x43 ∷ 0x50 ∷ 1 ∷ 0 ∷ 0 ∷ 1 ∷ 0 ∷ 1 ∷ 255 ∷ 255 ∷ 0 ∷ 0 ∷ 0 ∷ 0 ∷ 0 ∷ 0 ∷ 0 ∷ 0 ∷ [])
    ++ (0x43 ∷ 0x50 ∷ 1 ∷ 0 ∷ 0 ∷ 1 ∷ 0 ∷ 0 ∷ 0 ∷ 2 ∷ 0 ∷ 0 ∷ 0 ∷ 0 ∷ 0 ∷ 0 ∷ 0 ∷ 0 ∷ [])
    ++ (0x43 ∷ 0x50 ∷ 1 ∷ 0 ∷ 0 ∷ 1 ∷ 0 ∷ 0 ∷ 255 ∷ 255 ∷ 0 ∷ 0 ∷ 0 ∷ 0 ∷ 0 ∷ 0 ∷ 0 ∷ 0 ∷ [])
    ++ (0x43 ∷ 0x45 ∷ 0 ∷ 3 ∷ [])

-- that is what solve writes; c is 0 and s is 1; check accepts it
abbrev pub DStands : Type 0
DStands =
    (certificate plant_d ≡ certificate_d)
    × (controlled plant_d ≡ 0)
    × (stages plant_d ≡ 1)
    × (checked plant_d certificate_d ≡ accepted 0)

-- E: two stages
abbrev pub plant_e : Meaning
plant_e = drawn 3 1 ((1, [], (0 ∷ [])) ∷ (1, (0 ∷ []), (0 ∷ 2 ∷ [])) ∷ (0, [], (1 ∷ 2 ∷ [])) ∷ [])

-- stages 1, 1, 2 and approaches 0, 1, 0
abbrev pub EStands : Type 0
EStands =
    (map (stage plant_e) (0 ∷ 1 ∷ 2 ∷ []) ≡ 1 ∷ 1 ∷ 2 ∷ [])
    × (map (approach plant_e) (0 ∷ 1 ∷ 2 ∷ []) ≡ 0 ∷ 1 ∷ 0 ∷ [])

-- F: C's certificate with rank 2 for goal 0 at position 1, whose low byte is the 36th, is refused by clause 5 at position 2
abbrev pub FStands : Type 0
FStands = checked plant_c (slice_set certificate_c 35 2) ≡ refused 14 (5 ∷ 2 ∷ [])

-- G: C run from position 0 by four goes
abbrev pub GStands : Type 0
GStands =
    answers plant_c idle (start certificate_c 0 ∷ go certificate_c ∷ go certificate_c ∷ go certificate_c ∷ go certificate_c ∷ [])
    ≡ accepted (0, 0) ∷ accepted (1, 1) ∷ accepted (2, 1) ∷ accepted (1, 0) ∷ accepted (0, 0) ∷ []

-- H: a new sheet of two positions and one goal, edited by two seats; solve names the lowest row out, then the row without moves
abbrev pub only : ℕ → Row
only q = record { owner = 0; marks = 0; moves = q ∷ [] }

-- memories for solve: 38 bytes and 14 numbers
abbrev pub lent : Memories
lent = record { bytes = replicate 38 7; work = replicate 14 7 }

-- the calls and their answers
abbrev pub HStands : Type 0
HStands =
    map (λ e. e.1)
    (events solve_reply (new 2 1)
    (take 1 0 ∷ take 2 0 ∷ take 2 1 ∷ asked lent ∷ put 1 0 (only 2) ∷ put 1 0 (only 1) ∷ let_go 2 1
    ∷ asked lent ∷ []))
    ≡ accepted (copied empty) ∷ refused 6 [] ∷ accepted (copied empty) ∷ refused 10 (0 ∷ []) ∷ refused 8 [] ∷ accepted nothing ∷ accepted nothing
    ∷ refused 11 (1 ∷ []) ∷ []

-- All of them.
abbrev pub PlantsStand : Type 0
PlantsStand = AStands × BStands × CStands × DStands × EStands × FStands × GStands × HStands
