use Rattle.std.proofs.Common.{◌≡◌, ℕ, ◌^◌, ◌<◌, true, ltb, List, length, vec_len, sym, ap, ◌∙◌, subst, arith}
use lib.ListN.{length-map}
use Rattle.std.proofs.lemmas.List.{map-set}
use Rattle.arena.specs.Sets.{all}
use Rattle.row.specs.Rows.{Row}
use Rattle.row.specs.RowModel.{row_of}
use Rattle.sheet.specs.declared.slot.Slot.{Slot}
use Rattle.sheet.specs.Seats.{seat_or_none}
use Rattle.sheet.specs.Sheets.{Sheet, stored}
use Rattle.sheet.specs.Slots.{Below, Marked, rows_of}
use Rattle.sheet.proofs.Keeping.{stored_below, stored_marked}
use Rattle.sheet.proofs.Fitting.{fits}
use Rattle.sheet.proofs.sheet.Sheet.store.Goals as goal

pub invariant_of-self : goal.invariant_of-self
invariant_of-self c =
    let s = c.self.inside in
    let held = c.self.invariant in
    let n : ℕ = vec_len s.slots in
    let p : ℕ = c.args.p in
    let r : Row = row_of c.args.row in
    let drawn : List Row = rows_of s.slots.items in
    let size = sym (ap (λ (v : Sheet). v.size) c.self.view_is) in
    let goals = sym (ap (λ (v : Sheet). v.goals) c.self.view_is) in
    let inside : p < length drawn = omega (arith, c.requires.inside, size, s.slots.ok.0, length-map s.slots.items (λ (h : Slot). row_of h.row)) in
    let moves : all (λ q. ltb q n) r.moves ≡ true = ap (λ (m : ℕ). all (λ q. ltb q m) r.moves) (sym size) ∙ c.requires.moves in
    let marks : r.marks < 2 ^ s.goals = subst (λ (k : ℕ). r.marks < 2 ^ k) goals c.requires.marks in
    let rows = sym (map-set (λ (h : Slot). row_of h.row) s.slots.items p _) in
    record {
      goaled = held.goaled;
      bounded = held.bounded;
      drawn = held.drawn;
      few = held.few;
      room = held.room;
      below = subst (Below n) rows (stored_below n drawn p r inside moves held.below);
      marked = subst (Marked n s.goals) rows (stored_marked n s.goals drawn p r inside marks held.marked);
    }

pub returns-clause-sheet : goal.returns-clause-sheet
returns-clause-sheet c =
    let s = c.self.inside in
    let p = c.args.p in
    let rows = map-set (λ (h : Slot). row_of h.row) s.slots.items p _ in
    let out = map-set (λ (h : Slot). seat_or_none h.holder) s.slots.items p _ in
    (λ i. record { size = vec_len s.slots; goals = s.goals; rows = rows i; out = out i }) ∙ ap (λ v. stored v p (row_of c.args.row)) c.self.view_is

pub returns-clause-fits : goal.returns-clause-fits
returns-clause-fits c = fits _ (invariant_of-self c)
