-- The laws of the searches over sets and lists, of counts and of outcomes. Each is an induction over the list, with the
-- test at its first element split in two; a law of the numbers below n is one of a list from any number on.
use Rattle.std.proofs.Common.{◌≡◌, ℕ, zero, suc, ◌+◌, ◌<◌, ◌≤◌, Bool, true, false, cond, not, ◌&&◌, ◌||◌, eqb, ◌⊎◌, List, [], ◌∷◌, length, get_or, replicate, Some, None, Option, sym, refl, ap, ◌∙◌, subst, inl, inr, arith}
use lib.ListN.{length-replicate}
use Rattle.std.specs.List.{count_by}
use Rattle.std.proofs.lemmas.List.Recursion.{is_count_by}
use Rattle.std.proofs.lemmas.List.{get_or-replicate, get_or_past}
use Rattle.std.proofs.lemmas.Bool.{both_ways, eqb-true, eqb-false, eq-eqb, leb-true, le-leb, cases_Bool, cases_eq, cases_lt, and_parts, and_from, or_cases, or_left, or_right}
use Rattle.arena.specs.Refusals.{Outcome, accepted, refused, require, require_none}
use Rattle.arena.specs.Arena.{Meaning, sized}
use Rattle.arena.specs.Sets.{between, any, all, elem, first, from, upto, seek, least, count}

-- x is an element of xs
abbrev pub In : ℕ → List ℕ → Type 0
In x xs = elem x xs ≡ true

-- the test passes at x, or fails there
abbrev pub Yes : (ℕ → Bool) → ℕ → Type 0
Yes f x = f x ≡ true

abbrev pub No : (ℕ → Bool) → ℕ → Type 0
No f x = f x ≡ false

-- every test of a list passes
abbrev pub Passed : List Bool → Type 0
Passed [] = Unit {0}
Passed (b ∷ bs) = (b ≡ true) × Passed bs

-- a clause that is asked where a test passes
pub asked : (a b : Bool) → (not a || b) ≡ true → a ≡ true → b ≡ true
asked true b h e = h
asked false b h e = absurd (both_ways false refl e)

pub unless : (a b : Bool) → (a ≡ true → b ≡ true) → (not a || b) ≡ true
unless true b f = f refl
unless false b f = refl

pub between_parts : (low high x : ℕ) → between low high x ≡ true → (low ≤ x) × (x ≤ high)
between_parts low high x h = let r = and_parts _ _ h in (leb-true low x r.0, leb-true x high r.1)

-- membership
pub in_head : (x : ℕ) (xs : List ℕ) → In x (x ∷ xs)
in_head x xs = or_left (eqb x x) (elem x xs) (eq-eqb x x refl)

pub in_tail : (x y : ℕ) (xs : List ℕ) → In x xs → In x (y ∷ xs)
in_tail x y xs h = or_right (eqb y x) (elem x xs) h

in_cases : (x y : ℕ) (xs : List ℕ) → In x (y ∷ xs) → (y ≡ x) ⊎ In x xs
in_cases x y xs h = elim (or_cases (eqb y x) (elem x xs) h) [ inl e ↦ inl (eqb-true y x e) | inr k ↦ inr k ]

pub front : (xs : List ℕ) → 0 < length xs → In (get_or xs 0 0) xs
front [] h = absurd (omega arith)
front (x ∷ xs) h = in_head x xs

pub in_at : (x : ℕ) (xs : List ℕ) → In x xs → (j : ℕ) × (j < length xs) × (get_or xs j 0 ≡ x)
in_at x [] h = absurd (both_ways false refl h)
in_at x (y ∷ xs) h =
    elim (in_cases x y xs h) [ inl e ↦ (0, omega arith, e) | inr e ↦ let r = in_at x xs e in (suc r.0, omega (arith, r.1), r.2) ]

-- a list of one thing
pub get_or_all : {A : Type 0} (n p : ℕ) (d : A) → get_or (replicate n d) p d ≡ d
get_or_all n p d = elim (cases_lt p n) [ inl h ↦ get_or-replicate n p d d h | inr h ↦ get_or_past (replicate n d) p d (simp length-replicate h) ]

-- some and every
pub any_true : (f : ℕ → Bool) (xs : List ℕ) → any f xs ≡ true → (x : ℕ) × In x xs × Yes f x
any_true f [] h = absurd (both_ways false refl h)
any_true f (x ∷ xs) h =
    elim (or_cases (f x) (any f xs) h) [ inl e ↦ (x, in_head x xs, e) | inr e ↦ let r = any_true f xs e in (r.0, in_tail r.0 x xs r.1, r.2) ]

pub any_from : (f : ℕ → Bool) (x : ℕ) (xs : List ℕ) → In x xs → Yes f x → any f xs ≡ true
any_from f x [] h k = absurd (both_ways false refl h)
any_from f x (y ∷ xs) h k =
    elim (in_cases x y xs h) [ inl e ↦ or_left (f y) (any f xs) (ap f e ∙ k) | inr e ↦ or_right (f y) (any f xs) (any_from f x xs e k) ]

pub any_false : (f : ℕ → Bool) (xs : List ℕ) → any f xs ≡ false → (x : ℕ) → In x xs → No f x
any_false f xs h x i = elim (cases_Bool (f x)) [ inl e ↦ absurd (both_ways (any f xs) h (any_from f x xs i e)) | inr e ↦ e ]

pub all_true : (f : ℕ → Bool) (xs : List ℕ) → all f xs ≡ true → (x : ℕ) → In x xs → Yes f x
all_true f [] h x i = absurd (both_ways false refl i)
all_true f (y ∷ xs) h x i =
    let parts = and_parts (f y) (all f xs) h in
    elim (in_cases x y xs i) [ inl e ↦ ap f (sym e) ∙ parts.0 | inr e ↦ all_true f xs parts.1 x e ]

pub all_from : (f : ℕ → Bool) (xs : List ℕ) → ((x : ℕ) → In x xs → Yes f x) → all f xs ≡ true
all_from f [] h = refl
all_from f (y ∷ xs) h = and_from (f y) (all f xs) (h y (in_head y xs)) (all_from f xs (λ x i. h x (in_tail x y xs i)))

pub all_false : (f : ℕ → Bool) (xs : List ℕ) → all f xs ≡ false → (x : ℕ) × In x xs × No f x
all_false f [] h = absurd (both_ways true h refl)
all_false f (y ∷ xs) h =
    elim (cases_Bool (f y)) [
      | inl e ↦ let r = all_false f xs (subst (λ b. (b && all f xs) ≡ false) e h) in (r.0, in_tail r.0 y xs r.1, r.2)
      | inr e ↦ (y, in_head y xs, e)
    ]

-- the first that passes
pub first_is : (f : ℕ → Bool) (d x : ℕ) (xs : List ℕ) → In x xs → Yes f x → In (first f d xs) xs × Yes f (first f d xs)
first_is f d x [] i k = absurd (both_ways false refl i)
first_is f d x (y ∷ xs) i k = go (cases_Bool (f y)) (in_cases x y xs i) (λ w. first_is f d x xs w k)
  where
    Goal : Bool → Type 0
    Goal b = In (cond b y (first f d xs)) (y ∷ xs) × Yes f (cond b y (first f d xs))

    go : (f y ≡ true) ⊎ (f y ≡ false) → (y ≡ x) ⊎ In x xs → (In x xs → In (first f d xs) xs × Yes f (first f d xs)) → Goal (f y)
    go (inl e) w ih = subst Goal (sym e) (in_head y xs, e)
    go (inr e) (inl w) ih = absurd (both_ways (f y) e (ap f w ∙ k))
    go (inr e) (inr w) ih = let r = ih w in subst Goal (sym e) (in_tail (first f d xs) y xs r.0, r.1)

-- the numbers from i on
in_from : (i c x : ℕ) → i ≤ x → x < i + c → In x (from i c)
in_from i zero x h k = absurd (omega arith)
in_from i (suc c) x h k =
    elim (cases_Bool (eqb i x)) [
      | inl e ↦ or_left (eqb i x) (elem x (from (i + 1) c)) e
      | inr e ↦ let n = eqb-false i x e in or_right (eqb i x) (elem x (from (i + 1) c)) (in_from (i + 1) c x (omega arith) (omega arith))
    ]

from_in : (i c x : ℕ) → In x (from i c) → (i ≤ x) × (x < i + c)
from_in i zero x h = absurd (both_ways false refl h)
from_in i (suc c) x h =
    elim (in_cases x i (from (i + 1) c) h) [ inl e ↦ (omega arith, omega arith) | inr e ↦ let r = from_in (i + 1) c x e in (omega arith, omega arith) ]

pub in_upto : (n x : ℕ) → x < n → In x (upto n)
in_upto n x h = in_from 0 n x (omega arith) (omega arith)

pub upto_in : (n x : ℕ) → In x (upto n) → x < n
upto_in n x h = let r = from_in 0 n x h in omega arith

pub all_upto : (f : ℕ → Bool) (n : ℕ) → all f (upto n) ≡ true → (x : ℕ) → x < n → Yes f x
all_upto f n h x l = all_true f (upto n) h x (in_upto n x l)

pub length_from : (i c : ℕ) → length (from i c) ≡ c
length_from i zero = refl
length_from i (suc c) = ap suc (length_from (i + 1) c)

-- the least that passes
pub record Least (f : ℕ → Bool) (i c j : ℕ) : Type 0 where
  pub above : i ≤ j
  pub below : j < i + c
  pub here : Yes f j
  pub sooner : (k : ℕ) → i ≤ k → k < j → No f k

pub seek_some : (f : ℕ → Bool) (i c j : ℕ) → seek f i c ≡ Some j → Least f i c j
seek_some f i zero j h = absurd (let z : ◌≡◌ {A = ℕ} 0 1 = cc in omega arith)
seek_some f i (suc c) j h = go (f i) refl h (seek_some f (i + 1) c j)
  where
    go : (b : Bool) → f i ≡ b → cond b (Some i) (seek f (i + 1) c) ≡ Some j → (seek f (i + 1) c ≡ Some j → Least f (i + 1) c j) → Least f i (suc c) j
    go true e q ih =
        let same : i ≡ j = cc in
        record { above = omega arith; below = omega arith; here = ap f (sym same) ∙ e; sooner = λ k a b. absurd (omega arith) }
    go false e q ih =
        let r : Least f (i + 1) c j = ih q in
        record {
          above = omega (arith, r.above);
          below = omega (arith, r.below);
          here = r.here;
          sooner = λ k a b. elim (cases_eq i k) [ inl z ↦ ap f (sym z) ∙ e | inr z ↦ r.sooner k (omega arith) b ];
        }

seek_none : (f : ℕ → Bool) (i c : ℕ) → seek f i c ≡ None → (k : ℕ) → i ≤ k → k < i + c → No f k
seek_none f i zero h k a b = absurd (omega arith)
seek_none f i (suc c) h k a b = go (f i) refl h (λ q ne. seek_none f (i + 1) c q k (omega arith) (omega arith))
  where
    go : (b : Bool) → f i ≡ b → cond b (Some i) (seek f (i + 1) c) ≡ None → (seek f (i + 1) c ≡ None → (i ≡ k → ⊥) → No f k) → No f k
    go true e q ih = let z : ◌≡◌ {A = ℕ} 0 1 = cc in absurd (omega arith)
    go false e q ih = elim (cases_eq i k) [ inl z ↦ ap f (sym z) ∙ e | inr z ↦ ih q z ]

pub least_none : (f : ℕ → Bool) (n : ℕ) → least f n ≡ None → (k : ℕ) → k < n → No f k
least_none f n h k a = seek_none f 0 n h k (omega arith) (omega arith)

pub cases_option : (o : Option ℕ) → (o ≡ None) ⊎ ((j : ℕ) × (o ≡ Some j))
cases_option None = inl refl
cases_option (Some j) = inr (j, refl)

-- where one below n passes, the least is found
pub least_found : (f : ℕ → Bool) (n k : ℕ) → k < n → Yes f k → (j : ℕ) × (least f n ≡ Some j) × (j ≤ k) × Least f 0 n j
least_found f n k a y =
    elim (cases_option (least f n)) [
      | inl e ↦ absurd (both_ways (f k) (least_none f n e k a) y)
      | inr e ↦ let r = seek_some f 0 n e.0 e.1 in (e.0, e.1, le e.0 r.sooner, r)
    ]
  where
    le : (j : ℕ) → ((k : ℕ) → 0 ≤ k → k < j → No f k) → j ≤ k
    le j s = elim (cases_lt k j) [ inl z ↦ absurd (both_ways (f k) (s k (omega arith) z) y) | inr z ↦ z ]

-- counts: no more than the elements; all of them if as many; equal for equal sets; more for a larger set
tick : (b : Bool) (n : ℕ) → (cond b (suc n) n ≡ suc n) ⊎ ((b ≡ false) × (cond b (suc n) n ≡ n))
tick true n = inl refl
tick false n = inr (refl, refl)

count_le : (f : ℕ → Bool) (xs : List ℕ) → count f xs ≤ length xs
count_le f [] = omega arith
count_le f (x ∷ xs) = omega (arith, tick (f x) (count f xs), count_le f xs)

pub count_upto : (f : ℕ → Bool) (n : ℕ) → count f (upto n) ≤ n
count_upto f n = omega (arith, count_le f (upto n), length_from 0 n)

count_full : (f : ℕ → Bool) (xs : List ℕ) → length xs ≤ count f xs → all f xs ≡ true
count_full f [] h = refl
count_full f (y ∷ xs) h = go (f y) h (count_full f xs)
  where
    go : (b : Bool) → suc (length xs) ≤ cond b (suc (count f xs)) (count f xs) → (length xs ≤ count f xs → all f xs ≡ true) → (b && all f xs) ≡ true
    go true k ih = ih (omega arith)
    go false k ih = absurd (omega (arith, count_le f xs))

pub count_upto_full : (f : ℕ → Bool) (n : ℕ) → n ≤ count f (upto n) → (x : ℕ) → x < n → Yes f x
count_upto_full f n h = all_upto f n (count_full f (upto n) (omega (arith, length_from 0 n)))

pub count_every : (i n : ℕ) → count (λ x. true) (from i n) ≡ n
count_every i zero = refl
count_every i (suc n) = ap suc (count_every (i + 1) n)

pub count_same : (f g : ℕ → Bool) (xs : List ℕ) → ((x : ℕ) → In x xs → f x ≡ g x) → count f xs ≡ count g xs
count_same f g [] h = refl
count_same f g (y ∷ xs) h = let e = h y (in_head y xs) in let r = count_same f g xs (λ x i. h x (in_tail x y xs i)) in cc

pub count_mono : (f g : ℕ → Bool) (xs : List ℕ) → ((x : ℕ) → Yes f x → Yes g x) → count f xs ≤ count g xs
count_mono f g [] h = omega arith
count_mono f g (y ∷ xs) h = go (f y) (g y) (h y) (count_mono f g xs h)
  where
    go : (a b : Bool) → (a ≡ true → b ≡ true) → count f xs ≤ count g xs → cond a (suc (count f xs)) (count f xs) ≤ cond b (suc (count g xs)) (count g xs)
    go true true e r = omega arith
    go true false e r = absurd (both_ways false refl (e refl))
    go false true e r = omega arith
    go false false e r = omega arith

count_more : (f g : ℕ → Bool) (xs : List ℕ) → ((x : ℕ) → Yes f x → Yes g x) → (q : ℕ) → In q xs → No f q → Yes g q → count f xs < count g xs
count_more f g [] h q i a b = absurd (both_ways false refl i)
count_more f g (y ∷ xs) h q i a b = go (f y) (g y) refl refl (in_cases q y xs i) (count_mono f g xs h) (λ w. count_more f g xs h q w a b)
  where
    go : (s t : Bool) → f y ≡ s → g y ≡ t → (y ≡ q) ⊎ In q xs → count f xs ≤ count g xs → (In q xs → count f xs < count g xs) → cond s (suc (count f xs)) (count f xs) < cond t (suc (count g xs)) (count g xs)
    go true t u v (inl w) m ih = absurd (both_ways (f y) (ap f w ∙ a) u)
    go true true u v (inr w) m ih = let k = ih w in omega arith
    go true false u v (inr w) m ih = absurd (both_ways (g y) v (h y u))
    go false true u v w m ih = omega arith
    go false false u v (inl w) m ih = absurd (both_ways (g y) v (ap g w ∙ b))
    go false false u v (inr w) m ih = let k = ih w in omega arith

pub count_upto_more : (f g : ℕ → Bool) (n : ℕ) → ((x : ℕ) → Yes f x → Yes g x) → (q : ℕ) → q < n → No f q → Yes g q → count f (upto n) < count g (upto n)
count_upto_more f g n h q i a b = count_more f g (upto n) h q (in_upto n q i) a b

-- what is accepted is not refused, and has passed what was required
pub not_refused : {A : Type 0} (n : ℕ) (names : List ℕ) (t : A) → refused n names ≡ accepted t → ⊥
not_refused n names t e = let z : ◌≡◌ {A = ℕ} 0 1 = cc in omega arith

pub accepted_injective : {A : Type 0} (s t : A) → accepted s ≡ accepted t → s ≡ t
accepted_injective s t e = cc

pub require_accepted : {A : Type 0} (b : Bool) (n : ℕ) (next : Outcome A) (t : A) → require b n next ≡ accepted t → (b ≡ true) × (next ≡ accepted t)
require_accepted true n next t e = (refl, e)
require_accepted false n next t e = absurd (not_refused n [] t e)

pub require_none_accepted : {A : Type 0} (o : Option ℕ) (n : ℕ) (next : Outcome A) (t : A) → require_none o n next ≡ accepted t → (o ≡ None) × (next ≡ accepted t)
require_none_accepted None n next t e = (refl, e)
require_none_accepted (Some p) n next t e = absurd (not_refused n (p ∷ []) t e)

pub require_true : {A : Type 0} (b : Bool) (n : ℕ) (next : Outcome A) → b ≡ true → require b n next ≡ next
require_true true n next e = refl
require_true false n next e = absurd (both_ways false refl e)

-- solve, check and start: the numbers of positions and goals are in range
pub sized_accepted : {A : Type 0} (m : Meaning) (next : Outcome A) (t : A) → sized m next ≡ accepted t → (0 < m.size) × (0 < m.goals) × (next ≡ accepted t)
sized_accepted m next t e =
    let a = require_accepted (between 1 4096 m.size) 1 (require (between 1 8 m.goals) 2 next) t e in
    let b = require_accepted (between 1 8 m.goals) 2 next t a.1 in
    ((between_parts 1 4096 m.size a.0).0, (between_parts 1 8 m.goals b.0).0, b.1)

pub sized_passes : {A : Type 0} (m : Meaning) (next : Outcome A) → 0 < m.size → m.size ≤ 4096 → 0 < m.goals → m.goals ≤ 8 → sized m next ≡ next
sized_passes m next a b c d =
    require_true (between 1 4096 m.size) 1 (require (between 1 8 m.goals) 2 next) (and_from _ _ (le-leb 1 m.size a) (le-leb m.size 4096 b))
    ∙ require_true (between 1 8 m.goals) 2 next (and_from _ _ (le-leb 1 m.goals c) (le-leb m.goals 8 d))

-- the library's count
pub count_is : (f : ℕ → Bool) (xs : List ℕ) → count f xs ≡ count_by f xs
count_is f xs = is_count_by (count f) f refl (λ x xs. step (f x) (count f xs)) xs
  where
    step : (b : Bool) (n : ℕ) → cond b (suc n) n ≡ cond b (1 + n) n
    step true n = omega arith
    step false n = refl
