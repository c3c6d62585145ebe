-- What a loop over the numbers below n needs of lists and searches: what is left at i is i and what is left at i + 1,
-- and nothing at the end. So an invariant says that the answer over what is left is the answer over the whole.
use Rattle.std.proofs.Common.{◌≡◌, ℕ, suc, ◌+◌, ◌-◌, ◌<◌, Bool, cond, [], ◌∷◌, Some, None, ap, arith}
use Rattle.arena.specs.Sets.{from, seek}

pub from_step : (n i : ℕ) → i < n → from i (n - i) ≡ i ∷ from (i + 1) (n - (i + 1))
from_step n i l =
    let e : n - i ≡ suc (n - (i + 1)) = omega arith in ap (from i) e

pub from_end : (n : ℕ) → from n (n - n) ≡ []
from_end n = let e : n - n ≡ 0 = omega arith in ap (from n) e

pub seek_step : (f : ℕ → Bool) (n i : ℕ) → i < n → seek f i (n - i) ≡ cond (f i) (Some i) (seek f (i + 1) (n - (i + 1)))
seek_step f n i l =
    let e : n - i ≡ suc (n - (i + 1)) = omega arith in ap (seek f i) e

pub seek_end : (f : ℕ → Bool) (n : ℕ) → seek f n (n - n) ≡ None
seek_end f n = let e : n - n ≡ 0 = omega arith in ap (seek f n) e
