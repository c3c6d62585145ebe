-- Texts as the loops write them: one more part at the end.
use Rattle.std.proofs.Common.{◌≡◌, ℕ, zero, suc, ◌+◌, List, [], ◌∷◌, ◌++◌, ap, ◌∙◌, append-nil, zero-add, add-one, arith}
use Rattle.std.proofs.lemmas.Grind.{flat_map-append}
use Rattle.arena.specs.Sets.{from, upto, concat}

from_push : (i c : ℕ) → from i (suc c) ≡ from i c ++ ((i + c) ∷ [])
from_push i zero = let e : i ≡ i + 0 = omega arith in ap (λ x. x ∷ []) e
from_push i (suc c) =
    let e : (i + 1) + c ≡ i + suc c = omega arith in
    ap (λ xs. i ∷ xs) (from_push (i + 1) c) ∙ ap (λ x. i ∷ (from (i + 1) c ++ (x ∷ []))) e

-- the numbers below n + 1
upto_more : (n : ℕ) → upto (n + 1) ≡ upto n ++ (n ∷ [])
upto_more n = ap upto (add-one n) ∙ from_push 0 n ∙ ap (λ x. upto n ++ (x ∷ [])) (zero-add n)

pub concat_more : {A : Type 0} (f : ℕ → List A) (n : ℕ) → concat f (upto (n + 1)) ≡ concat f (upto n) ++ f n
concat_more f n = ap (concat f) (upto_more n) ∙ flat_map-append f (upto n) (n ∷ []) ∙ ap (λ xs. concat f (upto n) ++ xs) (append-nil (f n))
