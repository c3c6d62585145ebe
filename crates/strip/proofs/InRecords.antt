-- Bytes laid out as a head, records of one length and an end: how long they are, and which byte stands where.
-- A place in the records is p times their length and a rest, and each record passed over takes one length away.
use Rattle.std.proofs.Common.{◌≡◌, ℕ, zero, suc, ◌+◌, ◌*◌, ◌/◌, ◌%◌, ◌<◌, ◌≤◌, List, ◌++◌, length, get_or, sym, ap, ◌∙◌, suc-mul, zero-mul, arith}
use Rattle.std.proofs.lemmas.List.{length-append, get_or_append_left, get_or-append-add}
use Rattle.arena.specs.Sets.{from, upto, concat}
use Rattle.arena.specs.Bytes.{byte, number}

-- a number from its two bytes
pub two_back : (x : ℕ) → 256 * (x / 256) + x % 256 ≡ x
two_back x = omega arith

pub number_from : (bs : List ℕ) (i x : ℕ) → byte bs i ≡ x / 256 → byte bs (i + 1) ≡ x % 256 → number bs i ≡ x
number_from bs i x a b = omega arith

-- records of one length, one after another
module _ (f : ℕ → List ℕ) (k : ℕ) (each : (p : ℕ) → length (f p) ≡ k) where
  pub length_concat : (i c : ℕ) → length (concat f (from i c)) ≡ c * k
  length_concat i zero = sym (zero-mul k)
  length_concat i (suc c) = omega (arith, length-append (f i) (concat f (from (i + 1) c)), each i, length_concat (i + 1) c, suc-mul c k)

  pub concat_at : (i c p o : ℕ) → p < c → o < k → get_or (concat f (from i c)) (p * k + o) 0 ≡ get_or (f (i + p)) o 0
  concat_at i zero p o h l = absurd (omega arith)
  concat_at i (suc c) zero o h l =
      let e : zero * k + o ≡ o = omega (arith, zero-mul k) in
      let a : i ≡ i + 0 = omega arith in
      ap (λ x. get_or (f i ++ concat f (from (i + 1) c)) x 0) e ∙ get_or_append_left (f i) (concat f (from (i + 1) c)) 0 o (omega (arith, each i)) ∙ ap (λ x. get_or (f x) o 0) a
  concat_at i (suc c) (suc p) o h l =
      let e : suc p * k + o ≡ length (f i) + (p * k + o) = omega (arith, suc-mul p k, each i) in
      let a : i + 1 + p ≡ i + suc p = omega arith in
      ap (λ x. get_or (f i ++ concat f (from (i + 1) c)) x 0) e ∙ get_or-append-add (f i) (concat f (from (i + 1) c)) (p * k + o) 0 ∙ concat_at (i + 1) c p o (omega arith) l ∙ ap (λ x. get_or (f x) o 0) a

-- what a head, records and an end hold
module _ (f : ℕ → List ℕ) (k : ℕ) (each : (p : ℕ) → length (f p) ≡ k) (head end : List ℕ) (n : ℕ) where
  abbrev pub whole : List ℕ
  whole = head ++ (concat f (upto n) ++ end)

  pub whole_length : length whole ≡ length head + (n * k + length end)
  whole_length = omega (arith, length-append head (concat f (upto n) ++ end), length-append (concat f (upto n)) end, length_concat f k each 0 n)

  pub whole_end : (o : ℕ) → get_or whole (length head + (n * k + o)) 0 ≡ get_or end o 0
  whole_end o =
      let e : n * k + o ≡ length (concat f (upto n)) + o = omega (arith, length_concat f k each 0 n) in
      get_or-append-add head (concat f (upto n) ++ end) (n * k + o) 0 ∙ ap (λ x. get_or (concat f (upto n) ++ end) x 0) e ∙ get_or-append-add (concat f (upto n)) end o 0

  pub whole_at : (p o : ℕ) → p < n → o < k → get_or whole (length head + (p * k + o)) 0 ≡ get_or (f p) o 0
  whole_at p o h l =
      let a : 0 + p ≡ p = omega arith in
      get_or-append-add head (concat f (upto n) ++ end) (p * k + o) 0 ∙ get_or_append_left (concat f (upto n)) end 0 (p * k + o) (omega (arith, length_concat f k each 0 n, fits p n h)) ∙ concat_at f k each 0 n p o h l ∙ ap (λ x. get_or (f x) o 0) a
    where
      fits : (q c : ℕ) → q < c → q * k + k ≤ c * k
      fits zero zero b = absurd (omega arith)
      fits (suc q) zero b = absurd (omega arith)
      fits zero (suc c) b = omega (arith, zero-mul k, suc-mul c k)
      fits (suc q) (suc c) b = let r = fits q c (omega arith) in omega (arith, suc-mul q k, suc-mul c k)
