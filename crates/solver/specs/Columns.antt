-- Work memory in columns of one number for each position, and the sets that they hold. Read after the attractor.
-- Only the contracts of private functions cite it.
--
-- One column holds for each position the stage that took it, and 0 while none has. A column of ranks holds one more than
-- the rank, and 0 where there is none.
use Rattle.std.specs.Prelude.{◌≡◌, ℕ, suc, ◌+◌, ◌<◌, Bool, cond, not, ◌&&◌, ◌||◌, List, length, Some, None, Option, ◌==◌, nat_le, nat_lt, slice_index}
use Rattle.arena.specs.Arena.{Meaning}
use Rattle.arena.specs.Sets.{any, all}
use Rattle.solver.specs.Attractor.{rank}

-- how a rank stands in a column
abbrev pub code : Option ℕ → ℕ
code None = 0
code (Some r) = suc r

-- a column has the ranks in a side's attractor of a set inside another
abbrev pub Ranks : Meaning → ℕ → (ℕ → Bool) → (ℕ → Bool) → List ℕ → Type 0
Ranks m side inside target ranks = (k : ℕ) → k < m.size → slice_index ranks k ≡ code (rank m side inside target k)

-- whatever a closure may answer at a position, of n, is what the test says
abbrev pub TestsBelow : ℕ → (ℕ → Bool → Type 0) → (ℕ → Bool) → Type 0
TestsBelow n post test = (p : ℕ) (b : Bool) → p < n → post p b → b ≡ test p

-- the positions that no stage has taken
abbrev pub present : List ℕ → ℕ → Bool
present taken p = nat_lt p (length taken) && slice_index taken p == 0

-- the positions that a column of ranks has by round i
abbrev pub by_round : List ℕ → ℕ → ℕ → Bool
by_round ranks i p = nat_lt 0 (slice_index ranks p) && nat_le (slice_index ranks p) (i + 1)

-- what a round adds to a set: the side's positions inside with a move into the set, and the other side's positions inside
-- whose moves inside all lead into it
abbrev pub drawn_in : Meaning → ℕ → (ℕ → Bool) → (ℕ → Bool) → ℕ → Bool
drawn_in m side inside here p =
    inside p
    && cond (m.owner p == side)
    (any here (m.moves p))
    (all (λ q. not (inside q) || here q) (m.moves p))

-- what a round leaves for p in a column of ranks
abbrev pub next : Meaning → ℕ → List ℕ → List ℕ → ℕ → ℕ → ℕ
next m side taken ranks i p =
    cond (nat_lt 0 (slice_index ranks p))
    (slice_index ranks p)
    (cond (drawn_in m side (present taken) (by_round ranks i) p) (i + 2) 0)
