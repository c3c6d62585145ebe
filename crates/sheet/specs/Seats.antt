-- The seat that a row is out to, if it is out.
use Rattle.std.specs.Prelude.{ℕ, Some, None, Option}

-- the seat, and 0 where there is none
abbrev pub seat_or_none : Option ℕ → ℕ
seat_or_none None = 0
seat_or_none (Some seat) = seat
