use Rattle.std.proofs.Common.{Err, ap, ◌∙◌}
use Rattle.std.proofs.lemmas.Result.{err_from_is_err_and}
use Rattle.strip.specs.Refusals.{open_refusal}
use Rattle.strip.specs.Strip.{drawn, open_answer}
use Rattle.planner.specs.Solving.{solving_outcome}
use Rattle.planner.proofs.Opened.{opened}
use Rattle.planner.proofs.Answered.{solved, open_stays}
use Rattle.planner.proofs.strips.solve_opened.Goals as goal

pub returns-in_err-open : goal.returns-in_err-open
returns-in_err-open c =
    let r = open_stays (open_answer c.args.strip.now) c.args.certificate.now c.args.work.now c.in_err-open.field-0.0 c.in_err-open.ensures.answer in
    let p = err_from_is_err_and c.from_residual.result c.from_residual.ensures.1 in
    record {
      answer = ap (solving_outcome open_refusal) p.1 ∙ ap (λ x. solving_outcome open_refusal (Err x)) p.2 ∙ r.answer;
      bytes = r.bytes_are;
      numbers = r.work_is;
    }

pub returns-in_err-solve : goal.returns-in_err-solve
returns-in_err-solve c =
    let bs = c.args.strip.now in
    let r = solved (open_answer bs) (drawn bs) (drawn c.open.new.into.bytes.now) c.args.certificate.now c.args.work.now (opened bs c.in_ok-open.ensures.answer) (ap drawn c.in_ok-open.ensures.fills) in
    let p = err_from_is_err_and c.from_residual-in_err-solve.result c.from_residual-in_err-solve.ensures.1 in
    record {
      answer = ap (solving_outcome open_refusal) p.1 ∙ ap (λ x. solving_outcome open_refusal (Err x)) p.2 ∙ c.in_err-solve.ensures.answer ∙ r.answer;
      bytes = c.solve.ensures.bytes ∙ r.bytes_are;
      numbers = c.solve.ensures.numbers ∙ r.work_is;
    }

pub returns : goal.returns
returns c =
    let bs = c.args.strip.now in
    let r = solved (open_answer bs) (drawn bs) (drawn c.open.new.into.bytes.now) c.args.certificate.now c.args.work.now (opened bs c.in_ok-open.ensures.answer) (ap drawn c.in_ok-open.ensures.fills) in
    record {
      answer = c.in_ok-solve.ensures.answer ∙ r.answer;
      bytes = c.solve.ensures.bytes ∙ r.bytes_are;
      numbers = c.solve.ensures.numbers ∙ r.work_is;
    }
