-- The line of a refusal, as a list of bytes: as it is printed, and a line feed.
use Rattle.std.specs.Prelude.{ℕ, List, ◌∷◌, ◌++◌, codes}
use Rattle.arena.specs.Told.{fields}

-- a refusal: its number, then the values that it names
abbrev pub refusal_text : ℕ → List ℕ → List ℕ
refusal_text number values = codes "refused" ++ (fields (number ∷ values) ++ codes "\n")
