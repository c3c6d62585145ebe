-- Refusals of the code as refusals of the definitions, and as text. Read after the refusals.
-- Numbers are in decimal, as the library's `decimal` writes them.
use Rattle.std.specs.Prelude.{◌≡◌, ℕ, List, [], ◌∷◌, ◌++◌, codes, decimal}
use Rattle.arena.specs.declared.refusal.Named.{Named}
use Rattle.arena.specs.declared.refusal.Named.TheVariants.{Nothing, Place, Clause}
use Rattle.arena.specs.declared.refusal.Refusal.{Refusal}
use Rattle.arena.specs.Refusals.{Outcome, Done, refused}

-- the values that a refusal names
abbrev pub named_by : Named → List ℕ
named_by Nothing = []
named_by (Place place) = place ∷ []
named_by (Clause clause position) = clause ∷ position ∷ []

-- a refusal of the code tells an outcome: it has its number, and names its values
abbrev pub Same : Refusal → Outcome Done → Type 0
Same r o = refused r.number (named_by r.named) ≡ o

-- each number after a space
abbrev pub fields : List ℕ → List ℕ
fields [] = []
fields (x ∷ xs) = codes " " ++ (decimal x ++ fields xs)

-- what is printed of a refusal: its number, then the values that it names
abbrev pub refusal_line : Refusal → List ℕ
refusal_line r = codes "refused" ++ fields (r.number ∷ named_by r.named)
