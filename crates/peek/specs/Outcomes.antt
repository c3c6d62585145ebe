-- What a look at a row answers, as an outcome.
use Rattle.std.specs.Prelude.{Ok, Err, Result}
use Rattle.arena.specs.Refusals.{Outcome, accepted, Done, done}
use Rattle.sheet_faults.specs.declared.faults.TakeFault.{TakeFault}
use Rattle.sheet_faults.specs.Refusals.{take_refusal}

abbrev pub peek_outcome : Result (Unit {0}) TakeFault → Outcome Done
peek_outcome (Ok _) = accepted done
peek_outcome (Err f) = take_refusal f
