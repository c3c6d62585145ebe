-- The attractor of a set for a side inside a set, in rounds, and ranks. Read after the arena; the solution comes next.
use Rattle.std.specs.Prelude.{ℕ, zero, suc, Bool, cond, not, ◌&&◌, ◌||◌, Option, ◌==◌}
use Rattle.arena.specs.Arena.{Meaning}
use Rattle.arena.specs.Sets.{any, all, least}

-- Round 0 is the target. Each round adds the side's positions inside with a move into the set so far, and the
-- other side's positions inside whose moves inside all lead into it.
abbrev pub round : Meaning → ℕ → (ℕ → Bool) → (ℕ → Bool) → ℕ → ℕ → Bool
round m side inside target zero p = target p
round m side inside target (suc i) p =
    round m side inside target i p
    || (inside p
    && cond (m.owner p == side)
    (any (round m side inside target i) (m.moves p))
    (all (λ q. not (inside q) || round m side inside target i q) (m.moves p)))

-- the attractor: no round after the n-th adds anything
abbrev pub attracted : Meaning → ℕ → (ℕ → Bool) → (ℕ → Bool) → ℕ → Bool
attracted m side inside target p = round m side inside target m.size p

-- the rank of p is the round that adds it
abbrev pub rank : Meaning → ℕ → (ℕ → Bool) → (ℕ → Bool) → ℕ → Option ℕ
rank m side inside target p = least (λ i. round m side inside target i p) (suc m.size)
