use Rattle.std.proofs.Common.{◌≡◌, ℕ, length, None, vec_items, vec_len, sym, ap, ◌∙◌, subst, inl, inr, arith}
use Rattle.std.proofs.lemmas.Bool.{cases_lt, eqb-false}
use Rattle.arena.specs.Sets.{least}
use Rattle.arena.proofs.Basics.{least_none}
use Rattle.sheet.specs.Sheets.{is_bare, lowest_bare}
use Rattle.sheet.specs.SheetModel.{sheet_of}
use Rattle.sheet.specs.Slots.{Below, Moved, row_at, rows_of}
use Rattle.sheet.proofs.sheet.Sheet.lend_to.Goals as goal

pub invariant_of-into : goal.invariant_of-into
invariant_of-into c =
    let s = c.self.inside in
    let held = c.self.invariant in
    let drawn = rows_of (vec_items s.slots) in
    let n : ℕ = vec_len s.slots in
    let value = sym c.as_slice-into.ensures.value in
    let len = sym c.as_slice-into.ensures.len in
    let none : least (is_bare (sheet_of s)) n ≡ None = ap lowest_bare c.self.view_is ∙ c.requires in
    let moved : Moved n drawn = λ p l.
    let some : length (row_at drawn p).moves ≡ 0 → ⊥ = eqb-false (length (row_at drawn p).moves) 0 (least_none (is_bare (sheet_of s)) n none p l) in
    elim (cases_lt 0 (length (row_at drawn p).moves)) [ inl h ↦ h | inr h ↦ absurd (some (omega arith)) ] in
    record {
      few = omega (arith, len, held.few);
      moved = subst (λ m. Moved m (rows_of c.as_slice-into.result.now)) len (subst (λ xs. Moved n (rows_of xs)) value moved);
      below = subst (λ m. Below m (rows_of c.as_slice-into.result.now)) len (subst (λ xs. Below n (rows_of xs)) value held.below);
    }
