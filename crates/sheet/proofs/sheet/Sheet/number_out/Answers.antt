use Rattle.std.proofs.Common.{length, sym, ap, ◌∙◌, subst}
use Rattle.std.specs.List.{count_by}
use Rattle.arena.specs.Sets.{count, upto}
use Rattle.sheet.specs.Fits.{Fits}
use Rattle.sheet.specs.SheetModel.{sheet_of}
use Rattle.sheet.specs.Sheets.{is_out, count_answer}
use Rattle.sheet.specs.Slots.{is_lent}
use Rattle.sheet.proofs.Fitting.{fits}
use Rattle.sheet.proofs.Seeking.{number_lent}
use Rattle.sheet.proofs.Successions.{sheets_keep}
use Rattle.sheet.proofs.sheet.Sheet.number_out.Goals as goal

pub returns-clause-answer : goal.returns-clause-answer
returns-clause-answer c =
    let s = c.self.inside in
    c.count_out.ensures
    ∙ ap (count_by is_lent) c.as_slice.ensures.value
    ∙ number_lent s.slots.items
    ∙ ap (λ n. count (is_out (sheet_of s)) (upto n)) (sym (ap length c.as_slice.ensures.value) ∙ c.as_slice.ensures.len)
    ∙ ap count_answer c.self.view_is

pub returns-clause-law : goal.returns-clause-law
returns-clause-law c = sheets_keep

pub returns-clause-fits : goal.returns-clause-fits
returns-clause-fits c = subst Fits c.self.view_is (fits c.self.inside c.self.invariant)
