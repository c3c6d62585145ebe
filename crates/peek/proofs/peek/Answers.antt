use Rattle.std.proofs.Common.{sym, ap, ◌∙◌}
use Rattle.arena.specs.Refusals.{done, told}
use Rattle.sheet.specs.Outcomes.{unspent}
use Rattle.sheet.specs.Sheets.{let_go_after, take_after, take_answer}
use Rattle.peek.proofs.Again.{taken_and_let_go, told_accepted}
use Rattle.peek.proofs.peek.Goals as goal

pub returns : goal.returns
returns c =
    let s = c.args.sheet.now in
    let seat = c.args.seat in
    let p = c.args.position in
    let slip = c.in_ok-slip.slip in
    let took = c.in_ok-slip.ensures in
    let taken = told_accepted (λ _. unspent seat p) (take_answer s seat p) slip took.answer in
    record {
      answer = sym (ap (told (λ _. done)) taken.1);
      sheet =
          c.let_go.ensures.sheet
          ∙ ap (λ t. let_go_after t slip.seat slip.position) took.sheet
          ∙ ap (λ w. let_go_after (take_after s seat p) w.seat w.position) taken.2
          ∙ taken_and_let_go s seat p taken.0 taken.1;
      fits = (took.fits.0, c.let_go.ensures.fits.1);
      draft = took.draft;
    }
