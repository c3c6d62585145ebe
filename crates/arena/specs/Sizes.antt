-- The refusals of an arena's size by their numbers. Read after the arena.
use Rattle.std.specs.Prelude.{[], Ok, Err, Result}
use Rattle.arena.specs.declared.sizes.SizeFault.{SizeFault}
use Rattle.arena.specs.declared.sizes.SizeFault.TheVariants.{Positions, Goals}
use Rattle.arena.specs.Refusals.{Outcome, Done, accepted, done, refused}

abbrev pub size_refusal : {A : Type 0} → SizeFault → Outcome A
size_refusal Positions = refused 1 []
size_refusal Goals = refused 2 []

abbrev pub size_outcome : Result (Unit {0}) SizeFault → Outcome Done
size_outcome (Ok value) = accepted done
size_outcome (Err fault) = size_refusal fault
