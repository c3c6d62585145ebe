-- A side's decisions. Read after the solution.
-- Only the contracts of private functions cite it.
use Rattle.std.specs.Prelude.{◌≡◌, ℕ, ◌<◌, Bool, cond, ◌&&◌, ◌||◌, List, ◌==◌, nat_lt, slice_index}
use Rattle.arena.specs.Arena.{Meaning}
use Rattle.arena.specs.Sets.{first}
use Rattle.arena.specs.Certificate.{no_move}

-- whatever a closure may answer at a step between positions, of n, is what the test says
abbrev pub StepsBelow : ℕ → (ℕ → ℕ → Bool → Type 0) → (ℕ → ℕ → Bool) → Type 0
StepsBelow n post test = (p q : ℕ) (b : Bool) → p < n → q < n → post p q b → b ≡ test p q

-- a step to a smaller stage, or in the same one for the same goal to a smaller approach or about in the core, by the columns
abbrev pub steps_well : List ℕ → List ℕ → List ℕ → ℕ → ℕ → Bool
steps_well taken goals approaches p q =
    nat_lt (slice_index taken q) (slice_index taken p)
    || (slice_index taken q == slice_index taken p
    && slice_index goals q == slice_index goals p
    && (nat_lt (slice_index approaches q) (slice_index approaches p) || (slice_index approaches p == 0 && slice_index approaches q == 0)))

-- a side's decision at p: the lowest move that passes where the side owns p
abbrev pub decision : Meaning → ℕ → (ℕ → ℕ → Bool) → ℕ → ℕ
decision m side test p = cond (m.owner p == side) (first (test p) no_move (m.moves p)) no_move
