-- The search for a strip's fault in the parts in which the code goes through it: each part by a name that stays shut, so
-- that a proof does not carry its fields along, and the fault as the first of what the parts find.
use Rattle.std.specs.Prelude.{◌≡◌, ℕ, ◌+◌, ◌-◌, ◌<◌, Bool, true, false, cond, List, [], ◌∷◌, ◌++◌, map, Some, None, Option}
use Rattle.std.proofs.Math.Path.{refl, ap}
use Rattle.std.proofs.Common.{sym, ◌∙◌}
use native.Mathlib.Omega.{arith}
use Rattle.arena.specs.Sets.{from, upto, concat}
use Rattle.arena.proofs.Loops.{from_step, from_end}
use Rattle.strip.specs.Strip.{Field, or_else, stands, first_wrong, size, goals, row_at, move_field, front_fields, record_fields, row_fields, head_fields, end_fields, trailing, fault}

pub nothing_first : (x y : Option ℕ) → None ≡ x → or_else x y ≡ y
nothing_first x y e = ap (λ o. or_else o y) (sym e)

pub something_first : (x y : Option ℕ) (place : ℕ) → Some place ≡ x → or_else x y ≡ Some place
something_first x y place e = ap (λ o. or_else o y) (sym e)

or_else_assoc : (x y z : Option ℕ) → or_else (or_else x y) z ≡ or_else x (or_else y z)
or_else_assoc None y z = refl
or_else_assoc (Some place) y z = refl

module _ (bs : List ℕ) where
  append_wrong : (xs ys : List Field) → first_wrong bs (xs ++ ys) ≡ or_else (first_wrong bs xs) (first_wrong bs ys)
  append_wrong [] ys = refl
  append_wrong (f ∷ xs) ys = go (stands bs f) (append_wrong xs ys)
    where
      go : (b : Bool) → first_wrong bs (xs ++ ys) ≡ or_else (first_wrong bs xs) (first_wrong bs ys)
          → cond b (first_wrong bs (xs ++ ys)) (Some f.offset) ≡ or_else (cond b (first_wrong bs xs) (Some f.offset)) (first_wrong bs ys)
      go true ih = ih
      go false ih = refl

  -- the first wrong one of the moves from the j-th on, in the record at offset o
  unfoldable pub moves_wrong : ℕ → ℕ → ℕ → Option ℕ
  moves_wrong n o j = first_wrong bs (map (move_field bs n o) (from j (16 - j)))

  pub moves_step : (n o j : ℕ) → j < 16 → moves_wrong n o j ≡ or_else (first_wrong bs (move_field bs n o j ∷ [])) (moves_wrong n o (j + 1))
  unfolding moves_wrong
  moves_step n o j l =
      ap (λ xs. first_wrong bs (map (move_field bs n o) xs)) (from_step 16 j l)
      ∙ append_wrong (move_field bs n o j ∷ []) (map (move_field bs n o) (from (j + 1) (16 - (j + 1))))

  pub moves_end : (n o : ℕ) → moves_wrong n o 16 ≡ None
  unfolding moves_wrong
  moves_end n o = refl

  -- the first wrong field of the record at offset o
  unfoldable pub record_wrong : ℕ → ℕ → ℕ → Option ℕ
  record_wrong n k o = first_wrong bs (record_fields bs n k o)

  pub record_is : (n k o : ℕ) → record_wrong n k o ≡ first_wrong bs (record_fields bs n k o)
  unfolding record_wrong
  record_is n k o = refl

  pub record_parts : (n k o : ℕ) → record_wrong n k o ≡ or_else (first_wrong bs (front_fields bs k o)) (moves_wrong n o 0)
  unfolding moves_wrong record_wrong
  record_parts n k o = append_wrong (front_fields bs k o) (map (move_field bs n o) (upto 16))

  -- the first wrong field of the records from position p on
  unfoldable pub rows_wrong : ℕ → Option ℕ
  rows_wrong p = first_wrong bs (concat (row_fields bs) (from p (size bs - p)))

  pub rows_step : (p : ℕ) → p < size bs → rows_wrong p ≡ or_else (record_wrong (size bs) (goals bs) (row_at p)) (rows_wrong (p + 1))
  unfolding record_wrong rows_wrong
  rows_step p l =
      ap (λ xs. first_wrong bs (concat (row_fields bs) xs)) (from_step (size bs) p l)
      ∙ append_wrong (row_fields bs p) (concat (row_fields bs) (from (p + 1) (size bs - (p + 1))))

  pub rows_end : rows_wrong (size bs) ≡ None
  unfolding rows_wrong
  rows_end = ap (λ xs. first_wrong bs (concat (row_fields bs) xs)) (from_end (size bs))

  all_rows : rows_wrong 0 ≡ first_wrong bs (concat (row_fields bs) (upto (size bs)))
  unfolding rows_wrong
  all_rows = let e : size bs - 0 ≡ size bs = omega arith in ap (λ c. first_wrong bs (concat (row_fields bs) (from 0 c))) e

  -- the fault is what the head tells, else the records, else the end, else a byte after it
  pub fault_parts : fault bs
      ≡ or_else (first_wrong bs (head_fields bs)) (or_else (rows_wrong 0) (or_else (first_wrong bs (end_fields bs)) (trailing bs)))
  fault_parts =
      let rows : List Field = concat (row_fields bs) (upto (size bs)) in
      let head : Option ℕ = first_wrong bs (head_fields bs) in
      let end : Option ℕ = first_wrong bs (end_fields bs) in
      ap (λ x. or_else x (trailing bs)) (append_wrong (head_fields bs) (rows ++ end_fields bs) ∙ ap (or_else head) (append_wrong rows (end_fields bs)))
      ∙ or_else_assoc head (or_else (first_wrong bs rows) end) (trailing bs)
      ∙ ap (or_else head) (or_else_assoc (first_wrong bs rows) end (trailing bs))
      ∙ ap (λ x. or_else head (or_else x (or_else end (trailing bs)))) (sym all_rows)
