-- The runner as a value: its place, what an event asks of it, its answers told by the table of refusals, and what is left.
-- Read after the runner's calls.
use Rattle.std.specs.Prelude.{◌≡◌, ℕ, true, false, cond, List, [], Ok, Err, Result, Some, None, Option}
use Rattle.arena.specs.Refusals.{Outcome, accepted, refused}
use Rattle.arena.specs.Arena.{Meaning}
use Rattle.arena.specs.Sizes.{size_refusal}
use Rattle.control.specs.Run.{Place, idle, on, Call, start, go, moved, turn, answer, settled}
use Rattle.control.specs.declared.runner.Event.{Event}
use Rattle.control.specs.declared.runner.Event.TheVariants.{Start, Go, Moved}
use Rattle.arena.specs.declared.owner.Owner.{Owner}
use Rattle.arena.specs.declared.owner.Owner.TheVariants.{Controller, Traffic}
use Rattle.control.specs.declared.runner.RunFault.{RunFault}
use Rattle.control.specs.declared.runner.RunFault.TheVariants.{Size, Length, Position, Side, Move, NotNow, Field}
use Rattle.control.specs.declared.runner.Runner.{Runner}

-- where a runner is
abbrev pub place_of : {A : Type 0} → Runner A → Place
place_of r = cond r.running (on r.position r.aim) idle

-- a new runner
abbrev pub new_runner : {A : Type 0} → A → Runner A
new_runner arena = record { arena = arena; position = 0; aim = 0; running = false }

-- whose turn it is at a place
abbrev pub whose : Meaning → Place → Option Owner
whose m s = cond (turn m 0 s) (Some Controller) (cond (turn m 1 s) (Some Traffic) None)

-- the call that an event is, with the certificate shown
abbrev pub call_of : List ℕ → Event → Call
call_of bs (Start p) = start bs p
call_of bs Go = go bs
call_of bs (Moved q) = moved bs q

-- why a runner refuses
abbrev pub run_refusal : {A : Type 0} → RunFault → Outcome A
run_refusal (Size e) = size_refusal e
run_refusal Length = refused 3 []
run_refusal Position = refused 4 []
run_refusal Side = refused 15 []
run_refusal Move = refused 16 []
run_refusal NotNow = refused 17 []
run_refusal Field = refused 18 []

-- what a runner answers: the new position and aim
abbrev pub reply : Result (ℕ × ℕ) RunFault → Outcome (ℕ × ℕ)
reply (Ok to) = accepted to
reply (Err fault) = run_refusal fault

-- the runner that an answer leaves: at the new position with the new aim, or as it was
abbrev pub left : {A : Type 0} → Runner A → Outcome (ℕ × ℕ) → Runner A
left r (accepted to) = record { arena = r.arena; position = to.0; aim = to.1; running = true }
left r (refused n names) = r

-- A call on a runner: what it answers, the runner that it leaves, and that this runner stands where the calls in a row put it.
pub record Called {A : Type 0} (m : Meaning) (before : Runner A) (call : Call) (r : Result (ℕ × ℕ) RunFault) (after : Runner A) : Type 0 where
  pub says : reply r ≡ answer m (place_of before) call
  pub leaves : after ≡ left before (answer m (place_of before) call)
  pub stands : place_of after ≡ settled m (place_of before) (answer m (place_of before) call)
