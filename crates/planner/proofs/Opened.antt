-- What it says that a strip has been opened: there is an arena, and its numbers of positions and goals are such that it can
-- be solved.
use Rattle.std.proofs.Common.{◌≡◌, ℕ, List, Some, None, Option, refl, arith}
use Rattle.arena.specs.Refusals.{accepted, done, require_none, told}
use Rattle.arena.specs.Sets.{least}
use Rattle.strip.specs.Strip.{size, fault, bare, drawn, open_answer}
use Rattle.strip.specs.Faults.{Sound, sound}

module _ (bs : List ℕ) where
  no_fault_no_bare : (x y : Option ℕ) → accepted done ≡ told (λ _. done) (require_none x 13 (require_none y 11 (accepted (drawn bs))))
      → (x ≡ None) × (require_none x 13 (require_none y 11 (accepted (drawn bs))) ≡ accepted (drawn bs))
  no_fault_no_bare None None e = (refl, refl)
  no_fault_no_bare None (Some p) e = let z : ◌≡◌ {A = ℕ} 0 1 = cc in absurd (omega arith)
  no_fault_no_bare (Some place) y e = let z : ◌≡◌ {A = ℕ} 0 1 = cc in absurd (omega arith)

  pub opened : accepted done ≡ told (λ _. done) (open_answer bs) → open_answer bs ≡ accepted (drawn bs)
  opened e = (no_fault_no_bare (fault bs) (least (bare bs) (size bs)) e).1

  pub opened_sound : accepted done ≡ told (λ _. done) (open_answer bs) → Sound bs
  opened_sound e = sound bs (no_fault_no_bare (fault bs) (least (bare bs) (size bs)) e).0
