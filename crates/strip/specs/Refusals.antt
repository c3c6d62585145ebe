-- The refusals of the strip's calls: for each case its number and the values that it names.
use Rattle.std.specs.Prelude.{ℕ, [], ◌∷◌, Some, None, Ok, Err, Option, Result}
use Rattle.arena.specs.Refusals.{Outcome, accepted, refused, Done, done}
use Rattle.strip.specs.declared.faults.StripFault.{StripFault}
use Rattle.strip.specs.declared.faults.OpenFault.{OpenFault}
use Rattle.strip.specs.declared.faults.OpenFault.TheVariants.{Strip, NoMoves}

-- the place that a strip's fault names, if there is one
abbrev pub place_of : Result (Unit {0}) StripFault → Option ℕ
place_of (Ok _) = None
place_of (Err f) = Some f.place

-- a strip's fault is number 13 and names its place
abbrev pub strip_refusal : {A : Type 0} → StripFault → Outcome A
strip_refusal f = refused 13 (f.place ∷ [])

-- a strip that does not open is refused by its fault; a row without moves is number 11 and names its position
abbrev pub open_refusal : {A : Type 0} → OpenFault → Outcome A
open_refusal (Strip f) = strip_refusal f
open_refusal (NoMoves position) = refused 11 (position ∷ [])

-- what open answers, as an outcome
abbrev pub open_outcome : Result (Unit {0}) OpenFault → Outcome Done
open_outcome (Ok _) = accepted done
open_outcome (Err f) = open_refusal f
