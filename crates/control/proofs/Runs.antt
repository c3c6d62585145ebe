-- In any run under an accepted certificate, any k × n positions in a row contain every goal.
-- An accepted start, go or moved keeps this: the run is steered by the certificate's table, its last position is the
-- runner's, and the aim along it is the runner's. The rest is the law of steered sequences.
use Rattle.std.proofs.Common.{◌≡◌, ℕ, zero, suc, ◌*◌, ◌<◌, ◌≤◌, true, ◌&&◌, eqb, ltb, List, [], ◌∷◌, ◌++◌, length, get_or, sym, refl, ap, ◌∙◌, subst, ap₂, inl, inr, mul-le-mul_right, arith, length-append}
use Rattle.std.proofs.lemmas.List.{get_or_append_left, get_or_push}
use Rattle.std.proofs.lemmas.Bool.{cases_lt, cases_eq, and_parts, eqb-true, ltb-true}
use Rattle.arena.specs.Refusals.{Outcome, accepted, refused, require}
use Rattle.arena.specs.Arena.{Meaning, Lawful}
use Rattle.arena.specs.Sets.{elem}
use Rattle.arena.specs.Certificate.{side_of, rank_of, goal_move_of}
use Rattle.control.specs.Accept.{fit}
use Rattle.control.specs.Run.{Place, idle, on, Call, start, go, moved, Run, position, Shown, next_aim, turn, answer, settled, grown, continued, run_of}
use Rattle.control.specs.Promise.{Accepted, RunsVisitAll}
use Rattle.arena.proofs.Basics.{accepted_injective, require_accepted, not_refused, sized_accepted}
use Rattle.arena.proofs.Laws.{move_inside}
use Rattle.control.proofs.Table.{Near, Serves}
use Rattle.control.proofs.Judge.{some_position, serves}
use Rattle.control.proofs.Laps.{aims, Steered, laps}

-- the aims up to a place hang on the positions before it
aims_same : (m : Meaning) (π ρ : ℕ → ℕ) (l : ℕ) → ((i : ℕ) → i < l → π i ≡ ρ i) → aims m π l ≡ aims m ρ l
aims_same m π ρ zero h = refl
aims_same m π ρ (suc l) h = ap₂ (next_aim m) (h l (omega arith)) (aims_same m π ρ l (λ i b. h i (omega arith)))

-- the run ends at the runner's place, with its aim
abbrev Ends : Meaning → Place → Run → Type 0
Ends m idle run = Unit {0}
Ends m (on p aim) run = (l : ℕ) × (length run ≡ suc l) × (position run l ≡ p) × (aims m (position run) l ≡ aim)

record Stands (m : Meaning) (bs : List ℕ) (s : Place) (run : Run) : Type 0 where
  ends : Ends m s run
  steered : Shown bs run → Steered m (side_of m bs) (rank_of m bs) (position run) (length run)

module _ (m : Meaning) (law : Lawful m) (bs : List ℕ) (acc : Accepted m bs) where
  abbrev table : Serves m (side_of m bs) (rank_of m bs) (goal_move_of m bs)
  table = serves m bs acc

  stands_start : (s : Place) (bs' : List ℕ) (p : ℕ) (r : ℕ × ℕ) → answer m s (start bs' p) ≡ accepted r → Stands m bs (on r.0 r.1) ((r.0, bs') ∷ [])
  stands_start s bs' p r e =
      let a = sized_accepted m (require (fit m bs') 3 (require (ltb p m.size) 4 (require (eqb (side_of m bs' p) 0) 15 (accepted (p, 0))))) r e in
      let b = require_accepted (fit m bs') 3 (require (ltb p m.size) 4 (require (eqb (side_of m bs' p) 0) 15 (accepted (p, 0)))) r a.2 in
      let c = require_accepted (ltb p m.size) 4 (require (eqb (side_of m bs' p) 0) 15 (accepted (p, 0))) r b.1 in
      let d = require_accepted (eqb (side_of m bs' p) 0) 15 (accepted (p, 0)) r c.1 in
      subst (λ r. Stands m bs (on r.0 r.1) ((r.0, bs') ∷ [])) (accepted_injective _ _ d.1)
      (begun (ltb-true p m.size c.0) (eqb-true (side_of m bs' p) 0 d.0))
    where
      begun : p < m.size → side_of m bs' p ≡ 0 → Stands m bs (on p 0) ((p, bs') ∷ [])
      begun inside ours = record {
        ends = (0, refl, refl, refl);
        steered = λ shown. record {
          inside = λ i l. subst (λ j. position ((p, bs') ∷ []) j < m.size) (let e : 0 ≡ i = omega arith in e) inside;
          ours = λ i l.
              subst (λ j. side_of m bs (position ((p, bs') ∷ []) j) ≡ 0) (let e : 0 ≡ i = omega arith in e)
              (subst (λ x. side_of m x p ≡ 0) (shown 0 (omega arith)) ours);
          near = λ i l. absurd (omega arith);
        };
      }

  -- a step to q from the runner's place
  module _ (p aim q : ℕ) (bs' : List ℕ) (run : Run) (h : Stands m bs (on p aim) run)
      (right : bs' ≡ bs → side_of m bs p ≡ 0 → (q < m.size) × Near (side_of m bs) (rank_of m bs) aim p q) where
    abbrev longer : Run
    longer = run ++ ((q, bs') ∷ [])

    abbrev last : ℕ
    last = h.ends.0

    long : length longer ≡ suc (suc last)
    long = omega (arith, length-append run ((q, bs') ∷ []), h.ends.1)

    old : (i : ℕ) → i < suc last → get_or longer i (0, []) ≡ get_or run i (0, [])
    old i l = get_or_append_left run ((q, bs') ∷ []) (0, []) i (omega (arith, h.ends.1))

    old_at : (i : ℕ) → i < suc last → position longer i ≡ position run i
    old_at i l = ap (λ x. x.0) (old i l)

    new_at : get_or longer (suc last) (0, []) ≡ (q, bs')
    new_at = get_or_push run (q, bs') (0, []) (suc last) h.ends.1

    same_aim : (i : ℕ) → i ≤ suc last → aims m (position longer) i ≡ aims m (position run) i
    same_aim i l = aims_same m (position longer) (position run) i (λ j b. old_at j (omega arith))

    end_aim : aims m (position longer) last ≡ aim
    end_aim = same_aim last (omega arith) ∙ h.ends.3

    end_at : position longer last ≡ p
    end_at = old_at last (omega arith) ∙ h.ends.2

    grows : Shown bs longer → Steered m (side_of m bs) (rank_of m bs) (position longer) (length longer)
    grows shown = record { inside = inside; ours = ours; near = near }
      where
        before : Steered m (side_of m bs) (rank_of m bs) (position run) (length run)
        before = h.steered (λ i l. ap (λ x. x.1) (sym (old i (omega (arith, h.ends.1)))) ∙ shown i (omega (arith, long, h.ends.1)))

        step : (q < m.size) × Near (side_of m bs) (rank_of m bs) aim p q
        step =
            right (ap (λ x. x.1) (sym new_at) ∙ shown (suc last) (omega (arith, long)))
            (subst (λ x. side_of m bs x ≡ 0) h.ends.2 (before.ours last (omega (arith, h.ends.1))))

        at_q : q ≡ position longer (suc last)
        at_q = sym (ap (λ x. x.0) new_at)

        each : (P : ℕ → Type 0) → ((i : ℕ) → i < length run → P (position run i)) → P q → (i : ℕ) → i < length longer → P (position longer i)
        each P f z i l =
            elim (cases_lt i (suc last)) [
              | inl a ↦ subst P (sym (old_at i a)) (f i (omega (arith, h.ends.1)))
              | inr a ↦ subst (λ j. P (position longer j)) (let e : suc last ≡ i = omega (arith, long) in e) (subst P at_q z)
            ]

        inside : (i : ℕ) → i < length longer → position longer i < m.size
        inside = each (λ x. x < m.size) before.inside step.0

        ours : (i : ℕ) → i < length longer → side_of m bs (position longer i) ≡ 0
        ours = each (λ x. side_of m bs x ≡ 0) before.ours step.1.stays

        near : (i : ℕ) → suc i < length longer → Near (side_of m bs) (rank_of m bs) (aims m (position longer) i) (position longer i) (position longer (suc i))
        near i l =
            elim (cases_eq i last) [
              | inl e ↦
                  subst (λ j. Near (side_of m bs) (rank_of m bs) (aims m (position longer) j) (position longer j) (position longer (suc j))) (sym e)
                  (rw (end_aim, end_at, ← at_q) step.1)
              | inr e ↦
                  let b : suc i < suc last = omega (arith, long) in
                  rw (same_aim i (omega arith), old_at i (omega arith), old_at (suc i) b) (before.near i (omega (arith, h.ends.1)))
            ]

    stands_step : Stands m bs (on q (next_aim m p aim)) longer
    stands_step = record { ends = (suc last, long, ap (λ x. x.0) new_at, ap₂ (next_aim m) end_at end_aim); steered = grows }

  -- it is the side's turn: the place is a position of the side with a goal for its aim
  turn_says : (side p aim : ℕ) → turn m side (on p aim) ≡ true → (p < m.size) × (aim < m.goals) × (m.owner p ≡ side)
  turn_says side p aim e =
      let a = and_parts (ltb p m.size && ltb aim m.goals) (eqb (m.owner p) side) e in
      let b = and_parts (ltb p m.size) (ltb aim m.goals) a.0 in
      (ltb-true p m.size b.0, ltb-true aim m.goals b.1, eqb-true (m.owner p) side a.1)

  stands_go : (p aim : ℕ) (run : Run) (bs' : List ℕ) (r : ℕ × ℕ) → answer m (on p aim) (go bs') ≡ accepted r → Stands m bs (on p aim) run
      → Stands m bs (on r.0 r.1) (run ++ ((r.0, bs') ∷ []))
  stands_go p aim run bs' r e h =
      let q : ℕ = goal_move_of m bs' aim p in
      let a = require_accepted (turn m 0 (on p aim)) 17 (require (fit m bs') 3 (require (elem q (m.moves p)) 18 (accepted (q, next_aim m p aim)))) r e in
      let b = require_accepted (fit m bs') 3 (require (elem q (m.moves p)) 18 (accepted (q, next_aim m p aim))) r a.1 in
      let c = require_accepted (elem q (m.moves p)) 18 (accepted (q, next_aim m p aim)) r b.1 in
      let t = turn_says 0 p aim a.0 in
      subst (λ r. Stands m bs (on r.0 r.1) (run ++ ((r.0, bs') ∷ []))) (accepted_injective _ _ c.1)
      (stands_step p aim q bs' run h
      (λ same ours. (
        move_inside m law p q t.0 c.0,
        subst (λ x. Near (side_of m bs) (rank_of m bs) aim p (goal_move_of m x aim p)) (sym same) (table.own aim p t.1 t.0 ours t.2).1,
      )))

  stands_moved : (p aim : ℕ) (run : Run) (bs' : List ℕ) (q : ℕ) (r : ℕ × ℕ) → answer m (on p aim) (moved bs' q) ≡ accepted r → Stands m bs (on p aim) run
      → Stands m bs (on r.0 r.1) (run ++ ((r.0, bs') ∷ []))
  stands_moved p aim run bs' q r e h =
      let a = require_accepted (turn m 1 (on p aim)) 17 (require (fit m bs') 3 (require (elem q (m.moves p)) 16 (accepted (q, next_aim m p aim)))) r e in
      let b = require_accepted (fit m bs') 3 (require (elem q (m.moves p)) 16 (accepted (q, next_aim m p aim))) r a.1 in
      let c = require_accepted (elem q (m.moves p)) 16 (accepted (q, next_aim m p aim)) r b.1 in
      let t = turn_says 1 p aim a.0 in
      subst (λ r. Stands m bs (on r.0 r.1) (run ++ ((r.0, bs') ∷ []))) (accepted_injective _ _ c.1)
      (stands_step p aim q bs' run h (λ same ours. (move_inside m law p q t.0 c.0, table.other aim p t.1 t.0 ours t.2 q c.0)))

  stands_call : (s : Place) (run : Run) (call : Call) (o : Outcome (ℕ × ℕ)) → answer m s call ≡ o → Stands m bs s run → Stands m bs (settled m s o) (grown m run call o)
  stands_call s run call (refused n names) e h = h
  stands_call s run (start bs' p) (accepted r) e h = stands_start s bs' p r e
  stands_call idle run (go bs') (accepted r) e h = absurd (not_refused 17 [] r e)
  stands_call (on p aim) run (go bs') (accepted r) e h = stands_go p aim run bs' r e h
  stands_call idle run (moved bs' q) (accepted r) e h = absurd (not_refused 17 [] r e)
  stands_call (on p aim) run (moved bs' q) (accepted r) e h = stands_moved p aim run bs' q r e h

  run_steered : (s : Place) (run : Run) (calls : List Call) → Stands m bs s run → Shown bs (continued m s run calls)
      → Steered m (side_of m bs) (rank_of m bs) (position (continued m s run calls)) (length (continued m s run calls))
  run_steered s run [] h shown = h.steered shown
  run_steered s run (call ∷ calls) h shown =
      run_steered (settled m s (answer m s call)) (grown m run call (answer m s call)) calls (stands_call s run call (answer m s call) refl h) shown

pub runs_visit_all : (m : Meaning) → Lawful m → (bs : List ℕ) → Accepted m bs → RunsVisitAll m bs
runs_visit_all m law bs acc calls shown i room g goal =
    let none : Stands m bs idle [] = record { ends = tt; steered = λ _. record { inside = λ i l. absurd (omega arith); ours = λ i l. absurd (omega arith); near = λ i l. absurd (omega arith) } } in
    let some : 0 < m.size = some_position m bs acc in
    let room' : 1 * m.size ≤ m.goals * m.size = mul-le-mul_right m.size (serves m bs acc).some in
    laps m (side_of m bs) (rank_of m bs) (goal_move_of m bs) (serves m bs acc) (position (run_of m calls)) (length (run_of m calls))
    (run_steered m law bs acc idle [] calls none shown) i g goal (omega arith) room
