-- A strip written part by part over bytes: each part stands where the one before it ended.
use Rattle.std.proofs.Common.{◌≡◌, ℕ, zero, suc, ◌+◌, ◌*◌, ◌≤◌, List, [], ◌∷◌, ◌++◌, length, drop, sym, refl, ap, ◌∙◌, arith}
use lib.Seq.{paste}
use Rattle.std.proofs.lemmas.List.Edits.{paste_all, paste-paste, length-paste}
use Rattle.std.proofs.lemmas.List.{append-nil, length-append}
use Rattle.arena.specs.Sets.{concat, from, upto}
use Rattle.row.specs.Rows.{Row}
use Rattle.row.specs.Records.{record_of}
use Rattle.row.proofs.RecordBytes.{length_record}
use Rattle.strip.specs.Writing.{strip, strip_bytes, head_of, end_of}
use Rattle.strip.proofs.InRecords.{length_concat}
use Rattle.std.proofs.lemmas.Grind.{flat_map-append}

-- the numbers below n grow at their end
from_more : (i c : ℕ) → from i (suc c) ≡ from i c ++ (i + c) ∷ []
from_more i zero = let e : i ≡ i + 0 = omega arith in ap (λ x. x ∷ []) e
from_more i (suc c) = let e : i + 1 + c ≡ i + suc c = omega arith in ap (λ xs. i ∷ xs) (from_more (i + 1) c ∙ ap (λ x. from (i + 1) c ++ x ∷ []) e)

concat_more : (f : ℕ → List ℕ) (n : ℕ) → concat f (upto (n + 1)) ≡ concat f (upto n) ++ f n
concat_more f n =
    let s : n + 1 ≡ suc n = omega arith in
    let z : 0 + n ≡ n = omega arith in
    ap (λ m. concat f (upto m)) s
    ∙ ap (concat f) (from_more 0 n ∙ ap (λ x. upto n ++ x ∷ []) z)
    ∙ flat_map-append f (upto n) (n ∷ [])
    ∙ ap (λ ys. concat f (upto n) ++ ys) (append-nil (f n))

module _ (row : ℕ → Row) where
  -- the records of the first p rows
  abbrev pub records : ℕ → List ℕ
  records p = concat (λ q. record_of (row q)) (upto p)

  length_records : (p : ℕ) → length (records p) ≡ 38 * p
  length_records p = omega (arith, length_concat (λ q. record_of (row q)) 38 (λ q. length_record (row q)) 0 p)

  pub one_more : (bs : List ℕ) (p : ℕ) → 6 ≤ length bs → paste (paste bs 6 (records p) (38 * p)) (6 + 38 * p) (record_of (row p)) 38 ≡ paste bs 6 (records (p + 1)) (38 * (p + 1))
  one_more bs p room =
      let e : 38 * p + 38 ≡ 38 * (p + 1) = omega arith in
      paste-paste bs 6 (records p) (record_of (row p)) (38 * p) 38 (sym (length_records p)) (sym (length_record (row p))) room
      ∙ ap (λ xs. paste bs 6 xs (38 * p + 38)) (sym (concat_more (λ q. record_of (row q)) p))
      ∙ ap (paste bs 6 (records (p + 1))) e

  pub all_parts : (bs : List ℕ) (n k : ℕ) → strip_bytes n ≤ length bs
      → paste (paste (paste bs 0 (head_of n k) 6) 6 (records n) (38 * n)) (6 + 38 * n) (end_of n) 4 ≡ strip n k row ++ drop (strip_bytes n) bs
  all_parts bs n k room =
      let headed : List ℕ = paste bs 0 (head_of n k) 6 in
      let long : length headed ≡ length bs = length-paste bs 0 (head_of n k) 6 (omega arith) (omega arith) in
      let tail : List ℕ = records n ++ end_of n in
      let tail-length : 38 * n + 4 ≡ length tail = omega (arith, length-append (records n) (end_of n), length_records n) in
      let whole : 6 + (38 * n + 4) ≡ length (strip n k row) = omega (arith, length-append (head_of n k) tail) in
      let e : 0 + (6 + (38 * n + 4)) ≡ strip_bytes n = omega arith in
      paste-paste headed 6 (records n) (end_of n) (38 * n) 4 (sym (length_records n)) refl (omega arith)
      ∙ paste-paste bs 0 (head_of n k) tail 6 (38 * n + 4) refl tail-length (omega arith)
      ∙ paste_all bs 0 (strip n k row) (6 + (38 * n + 4)) whole
      ∙ ap (λ i. strip n k row ++ drop i bs) e
