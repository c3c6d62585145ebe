-- What check answers, told by the table of refusals: each case has its number, and names its values.
use Rattle.std.specs.Prelude.{ℕ, [], ◌∷◌, Ok, Err, Result}
use Rattle.arena.specs.Refusals.{Outcome, accepted, refused}
use Rattle.arena.specs.Sizes.{size_refusal}
use Rattle.control.specs.Clauses.{clause_number}
use Rattle.control.specs.declared.verdict.CheckFault.{CheckFault}
use Rattle.control.specs.declared.verdict.CheckFault.TheVariants.{Size, Length, Clause}

-- why check refuses
abbrev pub check_refusal : {A : Type 0} → CheckFault → Outcome A
check_refusal (Size e) = size_refusal e
check_refusal Length = refused 3 []
check_refusal (Clause clause position) = refused 14 (clause_number clause ∷ position ∷ [])

-- what check answers
abbrev pub verdict : Result ℕ CheckFault → Outcome ℕ
verdict (Ok c) = accepted c
verdict (Err fault) = check_refusal fault
