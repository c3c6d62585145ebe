use Rattle.std.proofs.Common.{◌≡◌, ℕ, List, Option, length, sym, ap, ◌∙◌, subst}
use Rattle.std.specs.List.{position}
use Rattle.arena.specs.Sets.{least}
use Rattle.sheet.specs.declared.sheet.Sheet.TheInside.{Inside}
use Rattle.sheet.specs.declared.slot.Slot.{Slot}
use Rattle.sheet.specs.Fits.{Fits}
use Rattle.sheet.specs.SheetModel.{sheet_of}
use Rattle.sheet.specs.Sheets.{Sheet, is_out, lowest_out}
use Rattle.sheet.specs.Slots.{is_lent, rows_of, seats_of}
use Rattle.sheet.proofs.Fitting.{fits}
use Rattle.sheet.proofs.Seeking.{lowest_lent}
use Rattle.sheet.proofs.sheet.Sheet.lowest_out.Goals as goal

-- the first of the slots is the lowest row of the sheet
told : (s : Inside) (v : Sheet) (slots : List Slot) (o : Option ℕ) → o ≡ position is_lent slots → slots ≡ s.slots.items → length slots ≡ s.slots.len → sheet_of s ≡ v → o ≡ lowest_out v
told s v slots o place items len view =
    place
    ∙ lowest_lent slots
    ∙ ap (λ xs. least (λ p. is_out (record { size = s.slots.len; goals = s.goals; rows = rows_of xs; out = seats_of xs }) p) (length slots)) items
    ∙ ap (least (is_out (sheet_of s))) len
    ∙ ap lowest_out view

pub returns-in_err-p-clause-lowest : goal.returns-in_err-p-clause-lowest
returns-in_err-p-clause-lowest c =
    c.from_residual.ensures
    ∙ sym c.in_err-p.was
    ∙ told c.self.inside c.args.self.now c.as_slice.result.now c.first_out.result c.first_out.ensures.place c.as_slice.ensures.value c.as_slice.ensures.len c.self.view_is

pub returns-in_err-p-clause-fits : goal.returns-in_err-p-clause-fits
returns-in_err-p-clause-fits c = subst Fits c.self.view_is (fits c.self.inside c.self.invariant)

pub returns-clause-lowest : goal.returns-clause-lowest
returns-clause-lowest c =
    sym c.in_ok-p.was
    ∙ told c.self.inside c.args.self.now c.as_slice.result.now c.first_out.result c.first_out.ensures.place c.as_slice.ensures.value c.as_slice.ensures.len c.self.view_is

pub returns-clause-fits : goal.returns-clause-fits
returns-clause-fits c = subst Fits c.self.view_is (fits c.self.inside c.self.invariant)
