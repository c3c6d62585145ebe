-- What it says that a sheet has been closed: there is an arena.
use Rattle.std.proofs.Common.{◌≡◌, ℕ, Some, None, Option, refl, arith}
use Rattle.arena.specs.Refusals.{accepted, done, require_none, told}
use Rattle.sheet.specs.Sheets.{Sheet, lowest_out, lowest_bare, arena_of, close_answer}

pub closed : (s : Sheet) → accepted done ≡ told (λ _. done) (close_answer s) → close_answer s ≡ accepted (arena_of s)
closed s = go (lowest_out s) (lowest_bare s)
  where
    go : (x y : Option ℕ) → accepted done ≡ told (λ _. done) (require_none x 10 (require_none y 11 (accepted (arena_of s))))
        → require_none x 10 (require_none y 11 (accepted (arena_of s))) ≡ accepted (arena_of s)
    go None None e = refl
    go None (Some p) e = let z : ◌≡◌ {A = ℕ} 0 1 = cc in absurd (omega arith)
    go (Some p) y e = let z : ◌≡◌ {A = ℕ} 0 1 = cc in absurd (omega arith)
