-- Rows, and the arena that rows draw. Read after the arena; strips come next.
use Rattle.std.specs.Prelude.{ℕ, ◌/◌, ◌%◌, ◌^◌, Bool, List, [], ◌==◌}
use Rattle.arena.specs.Arena.{Meaning}

-- a row: its owner, its marks in one number in which goal g is worth 2 to the g, and its moves
pub record Row : Type 0 where
  pub owner : ℕ
  pub marks : ℕ
  pub moves : List ℕ

-- the empty row: the controller's, unmarked, without moves
abbrev pub empty : Row
empty = record { owner = 0; marks = 0; moves = [] }

-- marks in one number: whether goal g is among them
abbrev pub mark_in : ℕ → ℕ → Bool
mark_in marks g = (marks / 2 ^ g) % 2 == 1

-- the row is marked for goal g
abbrev pub has_mark : Row → ℕ → Bool
has_mark r g = mark_in r.marks g

-- the arena that the rows of n positions draw for k goals
abbrev pub meaning_of : ℕ → ℕ → (ℕ → Row) → Meaning
meaning_of n k row =
    record {
      size = n;
      goals = k;
      owner = λ p. (row p).owner;
      marked = λ p g. has_mark (row p) g;
      moves = λ p. (row p).moves;
    }
