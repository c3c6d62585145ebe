use Rattle.std.proofs.Common.{◌≡◌, ℕ, ◌<◌, List, map, length, get_or, set, vec_len, sym, refl, ap, ◌∙◌, subst, arith}
use Rattle.std.proofs.lemmas.List.{map-set, get_or-map, set-get_or}
use Rattle.row.specs.RowModel.{row_of}
use Rattle.sheet.specs.declared.slot.Slot.{Slot}
use Rattle.sheet.specs.Seats.{seat_or_none}
use Rattle.sheet.specs.Sheets.{Sheet, lent}
use Rattle.sheet.specs.Slots.{Below, Marked}
use Rattle.sheet.proofs.Fitting.{fits}
use Rattle.sheet.proofs.sheet.Sheet.lend.Goals as goal

-- an element written over by one that agrees with it under f
same_under : {Y : Type 0} (f : Slot → Y) (xs : List Slot) (i : ℕ) (a x : Slot) → i < length xs → x ≡ get_or xs i x → f a ≡ f x → map f (set xs i a) ≡ map f xs
same_under f xs i a x l e same =
    map-set f xs i a ∙ ap (λ y. set (map f xs) i y) (same ∙ ap f e ∙ sym (get_or-map f xs i x (f x) l)) ∙ set-get_or (map f xs) i (f x)

pub invariant_of-self : goal.invariant_of-self
invariant_of-self c =
    let s = c.self.inside in
    let held = c.self.invariant in
    let size = sym (ap (λ (v : Sheet). v.size) c.self.view_is) in
    let inside : c.args.p < length s.slots.items = omega (arith, c.requires.inside, size, s.slots.ok.0) in
    let rows = same_under (λ (h : Slot). row_of h.row) s.slots.items c.args.p _ c.index_mut.result.now inside c.index_mut.ensures.value refl in
    record {
      goaled = held.goaled;
      bounded = held.bounded;
      drawn = held.drawn;
      few = held.few;
      room = held.room;
      below = subst (Below (vec_len s.slots)) (sym rows) held.below;
      marked = subst (Marked (vec_len s.slots) s.goals) (sym rows) held.marked;
    }

pub returns-clause-sheet : goal.returns-clause-sheet
returns-clause-sheet c =
    let s = c.self.inside in
    let p = c.args.p in
    let size = sym (ap (λ (v : Sheet). v.size) c.self.view_is) in
    let inside : p < length s.slots.items = omega (arith, c.requires.inside, size, s.slots.ok.0) in
    let rows = same_under (λ (h : Slot). row_of h.row) s.slots.items p _ c.index_mut.result.now inside c.index_mut.ensures.value refl in
    let out = map-set (λ (h : Slot). seat_or_none h.holder) s.slots.items p _ in
    (λ i. record { size = vec_len s.slots; goals = s.goals; rows = rows i; out = out i }) ∙ ap (λ v. lent v p (seat_or_none c.args.holder)) c.self.view_is

pub returns-clause-fits : goal.returns-clause-fits
returns-clause-fits c = fits _ (invariant_of-self c)
