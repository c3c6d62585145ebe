-- The certificate that solve writes: the solution as bytes. Read after the solution; solving with memories comes next.
use Rattle.std.specs.Prelude.{ℕ, cond, List, ◌∷◌, ◌++◌}
use Rattle.arena.specs.Arena.{Meaning}
use Rattle.arena.specs.Sets.{concat, upto}
use Rattle.arena.specs.Bytes.{two}
use Rattle.solver.specs.Solution.{final, given_up, stage, approach, traffic_move, goal_rank, goal_move}

-- the bytes of a goal in a record of the controller: a rank and a move
abbrev pub goal_entry : Meaning → ℕ → ℕ → List ℕ
goal_entry m p g = two (goal_rank m g p) ++ two (goal_move m g p)

-- a record of the traffic: side 1, goal, stage, approach, move, and zero for each goal's rank and move
abbrev pub traffic_record : Meaning → ℕ → List ℕ
traffic_record m p =
    0x43 ∷ 0x50 ∷ 1 ∷ given_up m p
    ∷ (two (stage m p) ++ (two (approach m p) ++ (two (traffic_move m p) ++ concat (λ g. two 0 ++ two 0) (upto m.goals))))

-- a record of the controller: side 0, zero for goal, stage, approach and move, and each goal's rank and move
abbrev pub controller_record : Meaning → ℕ → List ℕ
controller_record m p =
    0x43 ∷ 0x50 ∷ 0 ∷ 0 ∷ (two 0 ++ (two 0 ++ (two 0 ++ concat (goal_entry m p) (upto m.goals))))

-- the record of a position
abbrev pub entry : Meaning → ℕ → List ℕ
entry m p = cond (final m p) (controller_record m p) (traffic_record m p)

-- a head with the numbers of positions and goals
abbrev pub head : Meaning → List ℕ
head m = 0x43 ∷ 0x48 ∷ (two m.size ++ two m.goals)

-- an end with the number of positions
abbrev pub end : Meaning → List ℕ
end m = 0x43 ∷ 0x45 ∷ two m.size

-- the head, the records and the end
abbrev pub certificate : Meaning → List ℕ
certificate m = head m ++ (concat (entry m) (upto m.size) ++ end m)
