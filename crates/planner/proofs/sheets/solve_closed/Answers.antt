use Rattle.std.proofs.Common.{Err, ap, ◌∙◌}
use Rattle.std.proofs.lemmas.Result.{err_from_is_err_and}
use Rattle.sheet.specs.Sheets.{arena_of, close_answer}
use Rattle.sheet.specs.Slots.{arena_drawn}
use Rattle.sheet_faults.specs.Refusals.{close_refusal}
use Rattle.planner.specs.Solving.{solving_outcome}
use Rattle.planner.proofs.Closed.{closed}
use Rattle.planner.proofs.Answered.{solved, close_stays}
use Rattle.planner.proofs.sheets.solve_closed.Goals as goal

pub returns-in_err-close : goal.returns-in_err-close
returns-in_err-close c =
    let r = close_stays (close_answer c.args.sheet.now) c.args.certificate.now c.args.work.now c.in_err-close.field-0.0 c.in_err-close.ensures.answer in
    let p = err_from_is_err_and c.from_residual.result c.from_residual.ensures.1 in
    record {
      answer = ap (solving_outcome close_refusal) p.1 ∙ ap (λ x. solving_outcome close_refusal (Err x)) p.2 ∙ r.answer;
      bytes = r.bytes_are;
      numbers = r.work_is;
      fits = c.in_err-close.ensures.fits;
    }

pub returns-in_err-solve : goal.returns-in_err-solve
returns-in_err-solve c =
    let s = c.args.sheet.now in
    let r = solved (close_answer s) (arena_of s) (arena_drawn c.close.new.into.goals c.close.new.into.slots.now) c.args.certificate.now c.args.work.now (closed s c.in_ok-close.ensures.answer) c.in_ok-close.ensures.fills in
    let p = err_from_is_err_and c.from_residual-in_err-solve.result c.from_residual-in_err-solve.ensures.1 in
    record {
      answer = ap (solving_outcome close_refusal) p.1 ∙ ap (λ x. solving_outcome close_refusal (Err x)) p.2 ∙ c.in_err-solve.ensures.answer ∙ r.answer;
      bytes = c.solve.ensures.bytes ∙ r.bytes_are;
      numbers = c.solve.ensures.numbers ∙ r.work_is;
      fits = c.in_ok-close.ensures.fits;
    }

pub returns : goal.returns
returns c =
    let s = c.args.sheet.now in
    let r = solved (close_answer s) (arena_of s) (arena_drawn c.close.new.into.goals c.close.new.into.slots.now) c.args.certificate.now c.args.work.now (closed s c.in_ok-close.ensures.answer) c.in_ok-close.ensures.fills in
    record {
      answer = c.in_ok-solve.ensures.answer ∙ r.answer;
      bytes = c.solve.ensures.bytes ∙ r.bytes_are;
      numbers = c.solve.ensures.numbers ∙ r.work_is;
      fits = c.in_ok-close.ensures.fits;
    }
