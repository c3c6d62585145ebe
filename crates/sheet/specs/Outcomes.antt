-- What the sheet's calls answer, as outcomes: each refusal by its number and the values that it names.
use Rattle.std.specs.Prelude.{ℕ, false, Ok, Err, Result}
use Rattle.arena.specs.Refusals.{Outcome, accepted, Done, done}
use Rattle.sheet_faults.specs.declared.faults.ShapeFault.{ShapeFault}
use Rattle.sheet_faults.specs.declared.faults.TakeFault.{TakeFault}
use Rattle.sheet_faults.specs.declared.faults.PutFault.{PutFault}
use Rattle.sheet_faults.specs.declared.faults.LetGoFault.{LetGoFault}
use Rattle.sheet_faults.specs.declared.faults.CloseFault.{CloseFault}
use Rattle.sheet_faults.specs.declared.faults.LoadFault.{LoadFault}
use Rattle.sheet_faults.specs.declared.faults.WriteFault.{WriteFault}
use Rattle.sheet_faults.specs.Refusals.{shape_refusal, take_refusal, put_refusal, let_go_refusal, close_refusal, load_refusal, write_refusal}
use Rattle.sheet.specs.declared.slip.Slip.{Slip}

-- a slip that is to be spent
abbrev pub unspent : ℕ → ℕ → Slip
unspent seat p = record { seat = seat; position = p; spent = false }

-- what a call answers that has nothing to tell
abbrev pub outcome : {E : Type 0} → (E → Outcome Done) → Result (Unit {0}) E → Outcome Done
outcome refusal (Ok _) = accepted done
outcome refusal (Err f) = refusal f

abbrev pub shape_outcome : Result (Unit {0}) ShapeFault → Outcome Done
shape_outcome = outcome shape_refusal

-- an accepted take tells a slip
abbrev pub take_outcome : Result Slip TakeFault → Outcome Slip
take_outcome (Ok slip) = accepted slip
take_outcome (Err f) = take_refusal f

-- a refused put hands the slip back too
abbrev pub put_outcome : Result (Unit {0}) (PutFault × Slip) → Outcome Done
put_outcome = outcome (λ f. put_refusal f.0)

abbrev pub let_go_outcome : Result (Unit {0}) LetGoFault → Outcome Done
let_go_outcome = outcome let_go_refusal

abbrev pub close_outcome : Result (Unit {0}) CloseFault → Outcome Done
close_outcome = outcome close_refusal

abbrev pub load_outcome : Result (Unit {0}) LoadFault → Outcome Done
load_outcome = outcome load_refusal

abbrev pub write_outcome : Result (Unit {0}) WriteFault → Outcome Done
write_outcome = outcome write_refusal
