-- What the answer of solve tells: the numbers of the controller's positions and of the stages, or a refusal by number.
-- Read after solve.
use Rattle.std.specs.Prelude.{ℕ, [], Ok, Err, Result}
use Rattle.arena.specs.Refusals.{Outcome, accepted, refused}
use Rattle.arena.specs.Sizes.{size_refusal}
use Rattle.solver.specs.declared.SolveFault.{SolveFault}
use Rattle.solver.specs.declared.SolveFault.TheVariants.{Size, Memory}

-- why solve refuses
abbrev pub solve_refusal : {A : Type 0} → SolveFault → Outcome A
solve_refusal (Size e) = size_refusal e
solve_refusal Memory = refused 3 []

-- the answer, told as every call's is
abbrev pub outcome : Result (ℕ × ℕ) SolveFault → Outcome (ℕ × ℕ)
outcome (Ok answer) = accepted answer
outcome (Err fault) = solve_refusal fault
