use Rattle.std.proofs.Common.{◌≡◌, ◌+◌, ◌-◌, ◌*◌, subst, ap, ◌∙◌, take, drop, length, get_or, rules, arith}
use borrow.Author.Tests.{tests}
use Rattle.solver.specs.Columns.{Ranks, present}
use Rattle.solver.specs.Memory.{Standing}
use Rattle.solver.specs.Solution.{target, stages}
use Rattle.solver.proofs.Dividing.{standing_more, picks_is, is_over, goes_on, goal_below, final_ranks}
use Rattle.solver.proofs.Parts.{part_is, rows_apart}
use Rattle.solver.proofs.Stages.{ended}
use Rattle.solver.proofs.stage.run_stages.Goals as goal

pub returns-in_default-clause-count : goal.returns-in_default-clause-count
returns-in_default-clause-count g c =
    is_over (g.A.Arena.meaning c.args.a.now) (g.A.Arena.lawful c.args.a.now) c.stages.s c.stages.taken c.stages.goals c.stages.approaches (omega arith) c.stages.invariant.0 c.stages.invariant.1 c.in_default.ensures.answer

pub returns-in_default-clause-standing : goal.returns-in_default-clause-standing
returns-in_default-clause-standing g c =
    let m = g.A.Arena.meaning c.args.a.now in
    let e : c.stages.s ≡ stages (g.A.Arena.meaning c.args.a.now) =
    is_over m (g.A.Arena.lawful c.args.a.now) c.stages.s c.stages.taken c.stages.goals c.stages.approaches (omega arith) c.stages.invariant.0 c.stages.invariant.1 c.in_default.ensures.answer
    in
    subst (λ s. Standing m s c.stages.taken c.stages.goals c.stages.approaches) e c.stages.invariant.1

pub returns-in_default-clause-ranks : goal.returns-in_default-clause-ranks
returns-in_default-clause-ranks g c h b =
    final_ranks (g.A.Arena.meaning c.args.a.now) (g.A.Arena.lawful c.args.a.now) c.stages.s c.stages.taken c.stages.goals c.stages.approaches (omega arith) c.stages.invariant.0 c.stages.invariant.1 c.in_default.ensures.answer
    c.missed_goal.new.ranks h (c.in_default.ensures.ranks h b tt)

pub overflow_add-s : goal.overflow_add-s
overflow_add-s g c =
    let m = g.A.Arena.meaning c.args.a.now in
    let law = g.A.Arena.lawful c.args.a.now in
    let l = goes_on m law c.stages.s c.stages.taken c.stages.goals c.stages.approaches (omega arith) c.stages.invariant.0 c.stages.invariant.1 c.in-Some.g c.in-Some.ensures.answer in
    omega (arith, (ended m law).small)

pub slice_bounds-draw-end : goal.slice_bounds-draw-end
slice_bounds-draw-end g c =
    let m = g.A.Arena.meaning c.args.a.now in
    let b = goal_below m (g.A.Arena.lawful c.args.a.now) c.stages.s c.stages.taken c.stages.goals c.stages.approaches (omega arith) c.stages.invariant.0 c.stages.invariant.1 c.in-Some.g c.in-Some.ensures.answer in
    let e : c.in-Some.g * (g.A.Arena.meaning c.args.a.now).size ≡ c.from.result * (length c.args.taken.now) = cc in
    omega (arith, rows_apart c.in-Some.g m.goals m.size b)

pub stages-smaller : goal.stages-smaller
stages-smaller g c =
    let l = goes_on (g.A.Arena.meaning c.args.a.now) (g.A.Arena.lawful c.args.a.now) c.stages.s c.stages.taken c.stages.goals c.stages.approaches (omega arith) c.stages.invariant.0 c.stages.invariant.1 c.in-Some.g c.in-Some.ensures.answer in
    omega arith

pub stages-preserved : goal.stages-preserved
stages-preserved g c =
    let m = g.A.Arena.meaning c.args.a.now in
    let law = g.A.Arena.lawful c.args.a.now in
    let long : length c.stages.taken ≡ (g.A.Arena.meaning c.args.a.now).size = omega arith in
    let l = goes_on m law c.stages.s c.stages.taken c.stages.goals c.stages.approaches long c.stages.invariant.0 c.stages.invariant.1 c.in-Some.g c.in-Some.ensures.answer in
    let picks = picks_is m law c.stages.s c.stages.taken c.stages.goals c.stages.approaches long c.stages.invariant.0 c.stages.invariant.1 _ c.in-Some.ensures.answer in
    let b = goal_below m law c.stages.s c.stages.taken c.stages.goals c.stages.approaches long c.stages.invariant.0 c.stages.invariant.1 c.in-Some.g c.in-Some.ensures.answer in
    let at = c.from.result * (length c.args.taken.now) in
    let end = at + length c.args.taken.now in
    let same : c.in-Some.g * (g.A.Arena.meaning c.args.a.now).size ≡ c.from.result * (length c.args.taken.now) = cc in
    let reached : Ranks (g.A.Arena.meaning c.args.a.now) 0 (present c.stages.taken) (target (g.A.Arena.meaning c.args.a.now) (present c.stages.taken) c.in-Some.g)
    (take (c.from.result * (length c.args.taken.now) + length c.args.taken.now - c.from.result * (length c.args.taken.now)) (drop (c.from.result * (length c.args.taken.now)) c.missed_goal.new.ranks)) =
    λ k h.
    let e : c.from.result * (length c.args.taken.now) + k ≡ c.in-Some.g * (g.A.Arena.meaning c.args.a.now).size + k = omega arith in
    part_is at end c.missed_goal.new.ranks k (omega arith)
    ∙ ap (λ i. get_or c.missed_goal.new.ranks i 0) e
    ∙ c.in-Some.ensures.ranks c.in-Some.g b (omega arith) k h
    in
    let near = c.draw.ensures c.in-Some.g reached in (
      omega arith,
      standing_more m law c.stages.s c.in-Some.g l picks c.stages.taken c.stages.goals c.stages.approaches c.draw.new.near long c.stages.invariant.1 near
          c.give-in-stages-2.new.column c.give-in-stages.new.column c.give.new.column
          (record { given = λ k h z. let e = c.give-in-stages-2.ensures.given k (omega arith) z in search (rules, tests); kept = λ k h z. c.give-in-stages-2.ensures.kept k (omega arith) z })
          (record { given = λ k h z. let e = c.give-in-stages.ensures.given k (omega arith) z in search (rules, tests); kept = λ k h z. c.give-in-stages.ensures.kept k (omega arith) z })
          (record { given = λ k h z. let e = c.give.ensures.given k (omega arith) z in search (rules, tests); kept = λ k h z. c.give.ensures.kept k (omega arith) z }),
      omega (arith, c.missed_goal.auto.ranks, c.stages.invariant.2),
    )
