use Rattle.std.proofs.Common.{sym, ap, ◌∙◌, arith}
use Rattle.strip.specs.Strip.{size, goals, drawn}
use Rattle.planner.specs.Answer.{answer_text, planned_text}
use Rattle.planner.proofs.Opened.{opened, opened_sound}
use Rattle.planner.proofs.program.describe.Goals as goal

pub planned-requires : goal.planned-requires
planned-requires c =
    let s = opened_sound c.args.bytes.now c.in_ok-open.ensures.answer in
    let n = ap size c.in_ok-open.ensures.fills in
    let k = ap goals c.in_ok-open.ensures.fills in
    record {
      some = omega (arith, s.size_low);
      few = omega (arith, s.size_high);
      aimed = omega (arith, s.goals_low);
      aims = omega (arith, s.goals_high);
    }

pub returns : goal.returns
returns c =
    let bs = c.args.bytes.now in
    let held = ap (λ xs. planned_text (drawn xs)) c.in_ok-open.ensures.fills in
    c.in_ok-planned.ensures ∙ held ∙ sym (ap answer_text (opened bs c.in_ok-open.ensures.answer))
