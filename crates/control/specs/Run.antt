-- The runner by its calls, and the run that calls make. Read after what check accepts.
-- A runner serves one goal after another: the one that it serves is its aim.
use Rattle.std.specs.Prelude.{◌≡◌, ℕ, suc, ◌<◌, Bool, false, cond, ◌&&◌, List, [], ◌∷◌, ◌++◌, length, ◌==◌, nat_lt, slice_index_or}
use Rattle.arena.specs.Refusals.{Outcome, accepted, refused, require}
use Rattle.arena.specs.Arena.{Meaning, sized}
use Rattle.arena.specs.Sets.{elem}
use Rattle.arena.specs.Certificate.{side_of, goal_move_of}
use Rattle.control.specs.Accept.{fit}

-- the place of a runner: idle, or on a position with an aim
pub data Place : Type 0 where
  idle : Place
  on : ℕ → ℕ → Place

-- Each call shows the bytes of a certificate. Start names a position; moved tells where the traffic has gone.
pub data Call : Type 0 where
  start : List ℕ → ℕ → Call
  go : List ℕ → Call
  moved : List ℕ → ℕ → Call

-- A run is its positions in the order in which they came, each with the bytes shown at the call that led there.
abbrev pub Run : Type 0
Run = List (ℕ × List ℕ)

-- the position at place i of a run
abbrev pub position : Run → ℕ → ℕ
position run i = (slice_index_or run i (0, [])).0

-- the same certificate was shown at each accepted call of the run
abbrev pub Shown : List ℕ → Run → Type 0
Shown bs run = (i : ℕ) → i < length run → (slice_index_or run i (0, [])).1 ≡ bs

module _ (m : Meaning) where
  -- the aim once p is left: if p is marked for it, the goal after it, and after the last the first
  abbrev pub next_aim : ℕ → ℕ → ℕ
  next_aim p aim = cond (m.marked p aim) (cond (suc aim == m.goals) 0 (suc aim)) aim

  -- it is the side's turn: the place is a position of the side with a goal for its aim. A place outside the arena is
  -- nobody's turn, as idle is.
  abbrev pub turn : ℕ → Place → Bool
  turn side idle = false
  turn side (on p aim) = nat_lt p m.size && nat_lt aim m.goals && m.owner p == side

  -- what a call answers: the new position and aim
  abbrev pub answer : Place → Call → Outcome (ℕ × ℕ)
  answer s (start bs p) =
      sized m
      (require (fit m bs) 3
      (require (nat_lt p m.size) 4
      (require (side_of m bs p == 0) 15 (accepted (p, 0)))))
  answer idle (go bs) = refused 17 []
  answer (on p aim) (go bs) =
      let q : ℕ = goal_move_of m bs aim p in
      require (turn 0 (on p aim)) 17
      (require (fit m bs) 3
      (require (elem q (m.moves p)) 18 (accepted (q, next_aim p aim))))
  answer idle (moved bs q) = refused 17 []
  answer (on p aim) (moved bs q) =
      require (turn 1 (on p aim)) 17
      (require (fit m bs) 3
      (require (elem q (m.moves p)) 16 (accepted (q, next_aim p aim))))

  -- the place after a call: the one answered, or the old one if the call was refused
  abbrev pub settled : Place → Outcome (ℕ × ℕ) → Place
  settled s (accepted r) = on r.0 r.1
  settled s (refused n names) = s

  -- the run after a call: an accepted start begins one, an accepted go or moved adds a position
  abbrev pub grown : Run → Call → Outcome (ℕ × ℕ) → Run
  grown run c (refused n names) = run
  grown run (start bs p) (accepted r) = (r.0, bs) ∷ []
  grown run (go bs) (accepted r) = run ++ ((r.0, bs) ∷ [])
  grown run (moved bs q) (accepted r) = run ++ ((r.0, bs) ∷ [])

  -- the run that stands after calls in their order, from a place and the run so far
  abbrev pub continued : Place → Run → List Call → Run
  continued s run [] = run
  continued s run (c ∷ cs) = continued (settled s (answer s c)) (grown run c (answer s c)) cs

  -- the run that calls make on a new runner
  abbrev pub run_of : List Call → Run
  run_of calls = continued idle [] calls

  -- what the calls answer
  abbrev pub answers : Place → List Call → List (Outcome (ℕ × ℕ))
  answers s [] = []
  answers s (c ∷ cs) = answer s c ∷ answers (settled s (answer s c)) cs
