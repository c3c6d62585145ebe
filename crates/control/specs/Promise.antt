-- What an accepted certificate promises, for the arena that it was checked on. Read after the runner.
use Rattle.std.specs.Prelude.{◌≡◌, ℕ, ◌+◌, ◌*◌, ◌<◌, ◌≤◌, ◌↔◌, List, length}
use Rattle.arena.specs.Refusals.{accepted}
use Rattle.arena.specs.Arena.{Meaning}
use Rattle.arena.specs.Play.{Play, ContainsAll, Stretches, Wins}
use Rattle.arena.specs.Certificate.{side_of, move_of}
use Rattle.control.specs.Accept.{checked}
use Rattle.control.specs.Run.{Call, Shown, run_of, position}

module _ (m : Meaning) (bs : List ℕ) where
  -- check accepts the certificate
  abbrev pub Accepted : Type 0
  Accepted = (c : ℕ) × (checked m bs ≡ accepted c)

  -- In any run, whatever calls make it, any k × n positions in a row contain every goal.
  abbrev pub RunsVisitAll : Type 0
  RunsVisitAll =
      (calls : List Call) → Shown bs (run_of m calls) →
      (i : ℕ) → i + m.goals * m.size ≤ length (run_of m calls) →
      ContainsAll m (position (run_of m calls)) i (m.goals * m.size)

  -- the traffic's table is obeyed: each move from a traffic's position of side 1 is the one in its record
  abbrev pub Obeyed : (ℕ → ℕ) → ℕ → Type 0
  Obeyed π len = (i : ℕ) → i + 1 < len → side_of m bs (π i) ≡ 1 → m.owner (π i) ≡ 1 → π (i + 1) ≡ move_of m bs (π i)

  -- In no play from a position of side 1 that obeys the traffic's table are there n stretches without overlap that each
  -- contain every goal.
  abbrev pub TrafficHolds : Type 0
  TrafficHolds =
      (π : ℕ → ℕ) (len : ℕ) → Play m π len → 0 < len → side_of m bs (π 0) ≡ 1 → Obeyed π len →
      Stretches m π len m.size → ⊥

  -- The side of a position is the side that has a winning strategy there, and no other.
  abbrev pub SidesWin : Type 0
  SidesWin = (p : ℕ) → p < m.size → (side : ℕ) → side < 2 → (side_of m bs p ≡ side) ↔ Wins m side p

-- the promise of an accepted certificate: its tables do what they are for, and its sides are those that win
pub record Promise (m : Meaning) (bs : List ℕ) : Type 0 where
  pub runs : RunsVisitAll m bs
  pub traffic : TrafficHolds m bs
  pub sides : SidesWin m bs
