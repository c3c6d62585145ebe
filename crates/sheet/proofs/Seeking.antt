-- The rows of a sheet gone through one by one, and tests of their places: the first that passes, and how many do.
use Rattle.std.proofs.Common.{◌≡◌, ℕ, suc, ◌+◌, ◌<◌, Bool, true, false, cond, not, eqb, List, [], ◌∷◌, length, get_or, Some, None, Option, is_some, sym, refl, ap, ◌∙◌, arith}
use Rattle.std.specs.List.{position, position_from, find, count_by}
use Rattle.std.proofs.lemmas.Bool.{ne_eqb}
use Rattle.std.proofs.lemmas.Iterator.Adapters.{position_from-zero}
use Rattle.std.proofs.lemmas.List.{get_or-map}
use Rattle.std.proofs.lemmas.List.Sums.{sum_by-cons}
use Rattle.arena.specs.Sets.{count, from, upto, least}
use Rattle.row.specs.Rows.{Row, empty}
use Rattle.row.specs.RowModel.{row_of}
use Rattle.sheet.specs.declared.slot.Slot.{Slot}
use Rattle.sheet.specs.Seats.{seat_or_none}
use Rattle.sheet.specs.Slots.{is_empty, is_lent, row_at, rows_of, seats_of}

module _ (test : Slot → Bool) (f : ℕ → Bool) where
  -- the test of a row is the test of its place, from place i on
  abbrev pub Agrees : ℕ → List Slot → Type 0
  Agrees i slots = (j : ℕ) (d : Slot) → j < length slots → test (get_or slots j d) ≡ f (i + j)

  here : (i : ℕ) (h : Slot) (slots : List Slot) → Agrees i (h ∷ slots) → test h ≡ f i
  here i h slots same = let e : i + 0 ≡ i = omega arith in same 0 h (omega arith) ∙ ap f e

  later : (i : ℕ) (h : Slot) (slots : List Slot) → Agrees i (h ∷ slots) → Agrees (i + 1) slots
  later i h slots same j d l = let e : i + suc j ≡ i + 1 + j = omega arith in same (suc j) d (omega arith) ∙ ap f e

  one_more : (b : Bool) (n m : ℕ) → n ≡ m → cond b 1 0 + n ≡ cond b (suc m) m
  one_more true n m e = omega arith
  one_more false n m e = omega arith

  pub counted : (i : ℕ) (slots : List Slot) → Agrees i slots → count_by test slots ≡ count f (from i (length slots))
  counted i [] same = refl
  counted i (h ∷ slots) same =
      let rest : ℕ = count f (from (i + 1) (length slots)) in
      sum_by-cons (λ x. cond (test x) 1 0) h slots
      ∙ one_more (test h) (count_by test slots) rest (counted (i + 1) slots (later i h slots same))
      ∙ ap (λ b. cond b (suc rest) rest) (here i h slots same)

  pub found : (i : ℕ) (slots : List Slot) → Agrees i slots → position_from test i slots ≡ find f (from i (length slots))
  found i [] same = refl
  found i (h ∷ slots) same =
      let rest : Option ℕ = find f (from (i + 1) (length slots)) in
      ap (λ (o : Option ℕ). cond (test h) (Some i) o) (found (i + 1) slots (later i h slots same))
      ∙ ap (λ b. cond b (Some i) rest) (here i h slots same)

-- a row that is out has a seat above 0
lent_is : (o : Option ℕ) → (o ≡ Some 0 → ⊥) → is_some o ≡ not (eqb (seat_or_none o) 0)
lent_is None s = refl
lent_is (Some seat) s = ap not (sym (ne_eqb seat 0 (λ e. s (ap Some e))))

module _ (slots : List Slot) where
  abbrev is_out : ℕ → Bool
  is_out p = not (eqb (get_or (seats_of slots) p 0) 0)

  abbrev is_bare : ℕ → Bool
  is_bare p = eqb (length (row_at (rows_of slots) p).moves) 0

  out_agrees : Agrees is_lent is_out 0 slots
  out_agrees j d l =
      let e : j ≡ 0 + j = omega arith in
      lent_is (get_or slots j d).holder (get_or slots j d).seated
      ∙ ap (λ (x : ℕ). not (eqb x 0)) (sym (get_or-map (λ (h : Slot). seat_or_none h.holder) slots j d 0 l))
      ∙ ap is_out e

  bare_agrees : Agrees is_empty is_bare 0 slots
  bare_agrees j d l =
      let e : j ≡ 0 + j = omega arith in
      ap (λ (r : Row). eqb (length r.moves) 0) (sym (get_or-map (λ (h : Slot). row_of h.row) slots j d empty l)) ∙ ap is_bare e

  pub lowest_lent : position is_lent slots ≡ least is_out (length slots)
  lowest_lent = position_from-zero is_lent slots ∙ found is_lent is_out 0 slots out_agrees

  pub lowest_empty : position is_empty slots ≡ least is_bare (length slots)
  lowest_empty = position_from-zero is_empty slots ∙ found is_empty is_bare 0 slots bare_agrees

  pub number_lent : count_by is_lent slots ≡ count is_out (upto (length slots))
  number_lent = counted is_lent is_out 0 slots out_agrees
