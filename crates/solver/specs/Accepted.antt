-- What solve writes is accepted by check, for every arena that solve takes. Read after solve.
use Rattle.std.specs.Prelude.{◌≡◌, ℕ, ◌<◌, ◌≤◌, true, List, take}
use Rattle.arena.specs.Refusals.{accepted}
use Rattle.arena.specs.Arena.{Meaning}
use Rattle.arena.specs.Certificate.{certificate_bytes}
use Rattle.control.specs.Accept.{checked}
use Rattle.solver.specs.Solution.{controlled, stages}
use Rattle.solver.specs.Solve.{enough, solve, bytes_after}

-- An arena of 1 to 4,096 positions and 1 to 8 goals is solved in any two memories that are long enough, and check accepts
-- what the certificate memory then begins with, and counts the same positions.
abbrev pub SolvedIsAccepted : Meaning → Type 0
SolvedIsAccepted m =
    0 < m.size → m.size ≤ 4096 → 0 < m.goals → m.goals ≤ 8 →
    (bytes work : List ℕ) → enough m bytes work ≡ true →
    (solve m bytes work ≡ accepted (controlled m, stages m))
    × (checked m (take (certificate_bytes m) (bytes_after m bytes work)) ≡ accepted (controlled m))
