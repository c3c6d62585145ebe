-- The refusals of the drafts' edits: for each case its number.
use Rattle.std.specs.Prelude.{Bool, [], Ok, Err, Result}
use Rattle.arena.specs.Refusals.{Outcome, accepted, refused}
use Rattle.row.specs.declared.faults.LinkFault.{LinkFault}
use Rattle.row.specs.declared.faults.LinkFault.TheVariants.{TooMany}
use Rattle.row.specs.declared.faults.MarkFault.{MarkFault}
use Rattle.row.specs.declared.faults.MarkFault.TheVariants.{NoSuchGoal}

-- a seventeenth move is number 12
abbrev pub link_refusal : {A : Type 0} → LinkFault → Outcome A
link_refusal TooMany = refused 12 []

abbrev pub link_outcome : Result Bool LinkFault → Outcome Bool
link_outcome (Ok changed) = accepted changed
link_outcome (Err f) = link_refusal f

-- a goal above 7 is number 2
abbrev pub mark_refusal : {A : Type 0} → MarkFault → Outcome A
mark_refusal NoSuchGoal = refused 2 []

abbrev pub mark_outcome : Result Bool MarkFault → Outcome Bool
mark_outcome (Ok changed) = accepted changed
mark_outcome (Err f) = mark_refusal f
