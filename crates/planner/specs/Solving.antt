-- Solve of what is to be opened or closed first: a strip, a sheet. Read after solve and the sheet's calls.
use Rattle.std.specs.Prelude.{ℕ, List, Ok, Err, Result}
use Rattle.arena.specs.Refusals.{Outcome, accepted, refused}
use Rattle.arena.specs.Arena.{Meaning}
use Rattle.arena.specs.Told.{Same}
use Rattle.arena.specs.declared.refusal.Refusal.{Refusal}
use Rattle.solver.specs.Refused.{solve_refusal}
use Rattle.solver.specs.Solve.{solve, bytes_after, work_after}
use Rattle.sheet.specs.Sheets.{Sheet, close_answer}
use Rattle.planner.specs.declared.solving.SolvingFault.{SolvingFault}
use Rattle.planner.specs.declared.solving.SolvingFault.TheVariants.{Arena, Solve}

-- solve the arena that a call has answered; where it was refused, so is solve
abbrev pub solve_answered : Outcome Meaning → List ℕ → List ℕ → Outcome (ℕ × ℕ)
solve_answered (accepted m) bytes work = solve m bytes work
solve_answered (refused number names) bytes work = refused number names

-- the certificate memory after: as solving the arena leaves it; where there is no arena, as it was
abbrev pub answered_bytes : Outcome Meaning → List ℕ → List ℕ → List ℕ
answered_bytes (accepted m) bytes work = bytes_after m bytes work
answered_bytes (refused number names) bytes work = bytes

-- and the work memory likewise
abbrev pub answered_work : Outcome Meaning → List ℕ → List ℕ → List ℕ
answered_work (accepted m) bytes work = work_after m bytes work
answered_work (refused number names) bytes work = work

-- what solving answers, as an outcome: the refusals of the call that comes first, by its own table, and then those of solve
module _ {E : Type 0} (refusal_of : E → Outcome (ℕ × ℕ)) where
  abbrev pub solving_refusal : SolvingFault E → Outcome (ℕ × ℕ)
  solving_refusal (Arena fault) = refusal_of fault
  solving_refusal (Solve fault) = solve_refusal fault

  abbrev pub solving_outcome : Result (ℕ × ℕ) (SolvingFault E) → Outcome (ℕ × ℕ)
  solving_outcome (Ok answer) = accepted answer
  solving_outcome (Err fault) = solving_refusal fault

-- what a fault of solving turns into, by what the fault of the call that comes first does
abbrev pub TurnsInto : {E : Type 0} → (E → Refusal → Type 0) → SolvingFault E → Refusal → Type 0
TurnsInto converts (Arena fault) r = converts fault r
TurnsInto converts (Solve fault) r = Same r (solve_refusal fault)

module _ (s : Sheet) (bytes work : List ℕ) where
  -- solve on a sheet: close it, solve the arena with the two memories lent, and open it again
  abbrev pub sheet_solve : Outcome (ℕ × ℕ)
  sheet_solve = solve_answered (close_answer s) bytes work

  -- the certificate memory after, and the work memory
  abbrev pub sheet_solve_bytes : List ℕ
  sheet_solve_bytes = answered_bytes (close_answer s) bytes work

  abbrev pub sheet_solve_work : List ℕ
  sheet_solve_work = answered_work (close_answer s) bytes work
