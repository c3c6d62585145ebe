use Rattle.std.proofs.Common.{◌≡◌, ◌<◌, ◌∙◌, true, false, drop, sym, subst, arith}
use Rattle.arena.specs.Arena.{moves_answer}
use Rattle.arena.specs.Certificate.{no_move}
use Rattle.arena.specs.Sets.{first}
use Rattle.arena.specs.Owners.{owner_number}
use Rattle.arena.proofs.Basics.{In, in_head, in_tail}
use Rattle.solver.proofs.Choosing.{left_all, left_first, fewer_first, found_first, none_first, decided_more}
use Rattle.solver.proofs.decide.decide.Goals as goal

pub loop-q-init : goal.loop-q-init
loop-q-init g c =
    let m = g.A.Arena.meaning c.args.a.now in
    let law = g.A.Arena.lawful c.args.a.now in
    let below : c.positions.p < (g.A.Arena.meaning c.args.a.now).size = omega arith in
    (tt, tt, left_all m law c.positions.p below _ c.moves_of-moves.ensures, λ test t. left_first m law c.positions.p below _ c.moves_of-moves.ensures (test c.positions.p))

pub is_qualified-requires : goal.is_qualified-requires
is_qualified-requires g c =
    let e = c.in-Some.ensures.steps in
    let after = drop c.next.new.self.next (moves_answer (g.A.Arena.meaning c.next.new.self.arena.now) c.next.new.self.position) in
    c.requires.callable c.positions.p c.in-Some.q (omega arith) (c.loop-q.invariant.2 c.in-Some.q (subst (In c.in-Some.q) (sym e) (in_head c.in-Some.q after)))

pub loop-q-preserved : goal.loop-q-preserved
loop-q-preserved g c =
    let m = g.A.Arena.meaning c.args.a.now in
    let law = g.A.Arena.lawful c.args.a.now in
    let p = c.positions.p in
    let q = c.in-Some.q in
    let e = c.in-Some.ensures.steps in
    let after = drop c.next.new.self.next (moves_answer (g.A.Arena.meaning c.next.new.self.arena.now) c.next.new.self.position) in
    let below : c.positions.p < (g.A.Arena.meaning c.args.a.now).size = omega arith in
    let inside = c.loop-q.invariant.2 c.in-Some.q (subst (In c.in-Some.q) (sym e) (in_head c.in-Some.q after)) in (
      tt,
      tt,
      λ x i. c.loop-q.invariant.2 x (subst (In x) (sym e) (in_tail x q after i)),
      λ test t. fewer_first m law p below _ q after (test p) e (sym (t p q false below inside c.if-is_qualified.ensures)) (c.loop-q.invariant.3 test t),
    )

pub positions-preserved : goal.positions-preserved
positions-preserved g c test t =
    let m = g.A.Arena.meaning c.args.a.now in
    let law = g.A.Arena.lawful c.args.a.now in
    let p = c.positions.p in
    let below : c.positions.p < (g.A.Arena.meaning c.args.a.now).size = omega arith in
    let lowest : c.match-next.step ≡ first (test c.positions.p) no_move ((g.A.Arena.meaning c.args.a.now).moves c.positions.p) =
    elim c.match-next.branch [
      | goal.in_default w ↦ w.step-is ∙ none_first m law p below _ (test p) w.in_default.ensures.steps.0 (c.loop-q.invariant.3 test t)
      | goal.in-Some+then-is_qualified w ↦
          let e = w.in-Some.ensures.steps in
          let after = drop c.next.new.self.next (moves_answer (g.A.Arena.meaning c.next.new.self.arena.now) c.next.new.self.position) in
          let inside = c.loop-q.invariant.2 w.in-Some.q (subst (In w.in-Some.q) (sym e) (in_head w.in-Some.q after)) in
          w.step-is ∙ found_first m law p below _ w.in-Some.q after (test p) e (sym (t p w.in-Some.q true below inside w.if-is_qualified.ensures)) (c.loop-q.invariant.3 test t)
    ]
    in
    decided_more m (owner_number c.args.side) test p c.positions.steps c.match-next.step (omega arith) (c.positions.invariant test t) (sym c.if-not-is_owner.ensures) lowest
