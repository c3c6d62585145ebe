-- Setting and clearing one of eight marks: each of the cases is computed.
use Rattle.std.proofs.Common.{◌≡◌, ℕ, ◌+◌, ◌-◌, ◌*◌, ◌%◌, ◌^◌, ◌<◌, Bool, true, cond, ◌&&◌, eqb, bit_and, bit_or, refl}
use Rattle.std.proofs.lemmas.Bool.{eqb-true, and_parts}
use Rattle.arena.specs.Sets.{all, upto}
use Rattle.arena.proofs.Basics.{all_true, in_upto}
use Rattle.row.specs.Rows.{mark_in}

set_right : ℕ → ℕ → Bool
set_right g marks = eqb (bit_or marks (1 * 2 ^ g % 256)) (cond (mark_in marks g) marks (marks + 2 ^ g))

clear_right : ℕ → ℕ → Bool
clear_right g marks = eqb (bit_and marks (255 - 1 * 2 ^ g % 256)) (cond (mark_in marks g) (marks - 2 ^ g) marks)

both_right : ℕ → ℕ → Bool
both_right g marks = set_right g marks && clear_right g marks

computed : all (λ g. all (both_right g) (upto 256)) (upto 8) ≡ true
unfolding both_right set_right clear_right
computed = refl

module _ (marks g : ℕ) (m : marks < 256) (l : g < 8) where
  right : (set_right g marks ≡ true) × (clear_right g marks ≡ true)
  unfolding both_right
  right = and_parts (set_right g marks) (clear_right g marks) (all_true (both_right g) (upto 256) (all_true (λ g. all (both_right g) (upto 256)) (upto 8) computed g (in_upto 8 g l)) marks (in_upto 256 marks m))

  pub mark_set : bit_or marks (1 * 2 ^ g % 256) ≡ cond (mark_in marks g) marks (marks + 2 ^ g)
  unfolding set_right
  mark_set = eqb-true _ _ right.0

  pub mark_cleared : bit_and marks (255 - 1 * 2 ^ g % 256) ≡ cond (mark_in marks g) (marks - 2 ^ g) marks
  unfolding clear_right
  mark_cleared = eqb-true _ _ right.1
