-- Bytes, and numbers of two bytes with the high byte first. Strips and certificates are laid out in them.
use Rattle.std.specs.Prelude.{ℕ, ◌+◌, ◌*◌, ◌/◌, ◌%◌, Bool, ◌&&◌, List, [], ◌∷◌, ◌==◌, slice_index}

-- a number in two bytes
abbrev pub two : ℕ → List ℕ
two x = (x / 256) ∷ (x % 256) ∷ []

-- the byte at a place; past the end it is 0
abbrev pub byte : List ℕ → ℕ → ℕ
byte bs i = slice_index bs i

-- the two-byte number at a place
abbrev pub number : List ℕ → ℕ → ℕ
number bs i = 256 * byte bs i + byte bs (i + 1)

-- the two bytes of a mark stand at a place
abbrev pub marked_by : List ℕ → ℕ → List ℕ → Bool
marked_by bs i mark = byte bs i == slice_index mark 0 && byte bs (i + 1) == slice_index mark 1
