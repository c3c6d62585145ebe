-- What the program answers to the bytes that it reads: the plan of the plant that they store, or the refusal. Read after
-- solve and the texts.
use Rattle.std.specs.Prelude.{◌≡◌, ℕ, ◌≤◌, List, ◌++◌, length}
use Rattle.arena.specs.Refusals.{Outcome, accepted, refused}
use Rattle.arena.specs.Arena.{Meaning}
use Rattle.report.specs.Text.{refusal_text}
use Rattle.report.specs.Plan.{plan_text}
use Rattle.solver.specs.Solution.{controlled, stages}
use Rattle.solver.specs.Certificate.{certificate}
use Rattle.strip.specs.Refusals.{open_refusal}
use Rattle.strip.specs.Strip.{open_answer}
use Rattle.planner.specs.declared.faults.PlanFault.{PlanFault}
use Rattle.planner.specs.declared.faults.PlanFault.TheVariants.{Open, Memory}

-- the plan of an arena: what its certificate decides at each position
abbrev pub planned_text : Meaning → List ℕ
planned_text m = plan_text m (certificate m) (controlled m) (stages m)

-- the text of what opening a strip answers
abbrev pub answer_text : Outcome Meaning → List ℕ
answer_text (accepted m) = planned_text m
answer_text (refused number values) = refusal_text number values

-- what the program prints for these bytes
abbrev pub program_text : List ℕ → List ℕ
program_text bs = answer_text (open_answer bs)

-- a fault of the program in the face of what opening answers: the fault of open is the refusal, whole; want of memory
-- tells nothing of the strip
abbrev pub Told : PlanFault → Outcome Meaning → Type 0
Told (Open fault) answer = answer ≡ open_refusal fault
Told Memory answer = Unit {0}

-- how many bytes decide: as many as the longest strip has, and one more
abbrev pub deciding : ℕ
deciding = 19467

-- bytes after so many change nothing
abbrev pub RestUnread : List ℕ → Type 0
RestUnread bs = deciding ≤ length bs → (more : List ℕ) → program_text (bs ++ more) ≡ program_text bs
