-- The rows of a sheet that closes draw an arena: the proof that a closed sheet carries.
use Rattle.std.specs.Prelude.{ℕ, zero, suc, ◌≤◌, List, [], ◌∷◌, length}
use Rattle.std.proofs.Common.{arith}
use Rattle.arena.specs.Arena.{Lawful}
use Rattle.row.specs.Rows as rows
use Rattle.row.specs.Rows.{empty}
use Rattle.arena.specs.Owners.{owner_number}
use Rattle.arena.specs.declared.owner.Owner.{Owner}
use Rattle.arena.specs.declared.owner.Owner.TheVariants.{Controller, Traffic}
use Rattle.row.specs.RowModel.{row_of}
use Rattle.row.proofs.Moves.{Rises, moves_count, moves_rise}
use Rattle.sheet.specs.declared.slot.Slot.{Slot}
use Rattle.sheet.specs.Slots.{rows_of, row_at, Below, Moved, arena_drawn}

-- what holds of the empty row and of every row in memory holds at every place
each_row : (P : rows.Row → Type 0) → P empty → ((h : Slot) → P (row_of h.row)) → (slots : List Slot) (p : ℕ) → P (row_at (rows_of slots) p)
each_row P none each [] p = none
each_row P none each (h ∷ slots) zero = each h
each_row P none each (h ∷ slots) (suc p) = each_row P none each slots p

one_of_two : (o : Owner) → owner_number o ≤ 1
one_of_two Controller = omega arith
one_of_two Traffic = omega arith

module _ (slots : List Slot) (p : ℕ) where
  pub row_owned : (row_at (rows_of slots) p).owner ≤ 1
  row_owned = each_row (λ r. r.owner ≤ 1) (omega arith) (λ h. one_of_two h.row.owner) slots p

  pub row_few : length (row_at (rows_of slots) p).moves ≤ 16
  row_few = each_row (λ r. length r.moves ≤ 16) (omega arith) (λ h. omega (arith, moves_count h.row, h.row.few)) slots p

  pub row_rises : Rises (row_at (rows_of slots) p).moves
  row_rises = each_row (λ r. Rises r.moves) (λ i j l m. absurd (omega arith)) (λ h. moves_rise h.row) slots p

pub lawful_slots : (k : ℕ) (slots : List Slot) → Moved (length slots) (rows_of slots) → Below (length slots) (rows_of slots) → Lawful (arena_drawn k slots)
lawful_slots k slots moved below =
    record {
      owned = λ p l. omega (arith, row_owned slots p);
      some = moved;
      below = λ p j l m. below p j l m;
      rising = λ p i j l m n. row_rises slots p i j m n;
    }
