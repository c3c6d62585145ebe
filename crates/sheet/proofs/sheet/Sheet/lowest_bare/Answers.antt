use Rattle.std.proofs.Common.{◌≡◌, ℕ, List, Option, length, sym, ap, ◌∙◌}
use Rattle.std.specs.List.{position}
use Rattle.arena.specs.Sets.{least}
use Rattle.sheet.specs.declared.sheet.Sheet.TheInside.{Inside}
use Rattle.sheet.specs.declared.slot.Slot.{Slot}
use Rattle.sheet.specs.SheetModel.{sheet_of}
use Rattle.sheet.specs.Sheets.{Sheet, is_bare, lowest_bare}
use Rattle.sheet.specs.Slots.{is_empty, rows_of, seats_of}
use Rattle.sheet.proofs.Seeking.{lowest_empty}
use Rattle.sheet.proofs.sheet.Sheet.lowest_bare.Goals as goal

-- the first of the slots is the lowest row of the sheet
told : (s : Inside) (v : Sheet) (slots : List Slot) (o : Option ℕ) → o ≡ position is_empty slots → slots ≡ s.slots.items → length slots ≡ s.slots.len → sheet_of s ≡ v → o ≡ lowest_bare v
told s v slots o place items len view =
    place
    ∙ lowest_empty slots
    ∙ ap (λ xs. least (λ p. is_bare (record { size = s.slots.len; goals = s.goals; rows = rows_of xs; out = seats_of xs }) p) (length slots)) items
    ∙ ap (least (is_bare (sheet_of s))) len
    ∙ ap lowest_bare view

pub returns-in_err-p : goal.returns-in_err-p
returns-in_err-p c =
    c.from_residual.ensures
    ∙ sym c.in_err-p.was
    ∙ told c.self.inside c.args.self.now c.as_slice.result.now c.first_bare.result c.first_bare.ensures.place c.as_slice.ensures.value c.as_slice.ensures.len c.self.view_is

pub returns : goal.returns
returns c =
    sym c.in_ok-p.was
    ∙ told c.self.inside c.args.self.now c.as_slice.result.now c.first_bare.result c.first_bare.ensures.place c.as_slice.ensures.value c.as_slice.ensures.len c.self.view_is
