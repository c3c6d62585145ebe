-- What is written is read back: the bytes of a strip of good rows are bytes, every field is right, and the rows that are
-- read are the rows that were written.
use Rattle.std.proofs.Common.{◌≡◌, ℕ, zero, suc, ◌+◌, ◌-◌, ◌*◌, ◌/◌, ◌%◌, ◌^◌, ◌<◌, ◌≤◌, List, [], ◌∷◌, ◌++◌, length, get_or, replicate, sym, refl, ◌∙◌, subst, arith, pow_mono}
use Rattle.std.specs.List.{AllByRecursion}
use Rattle.std.proofs.ByRecursion.{All-append, All-get_or, All-from_get_or, All-take}
use Rattle.std.proofs.lemmas.List.{get_or_past, ext_get_or}
use Rattle.arena.specs.Sets.{concat, upto}
use Rattle.arena.specs.Bytes.{byte, number}
use Rattle.row.specs.Rows.{Row}
use Rattle.row.specs.Records.{padded, pairs, record_of}
use Rattle.row.proofs.RecordBytes.{record_high, record_low}
use Rattle.strip.specs.Strip.{size, goals, end_at, row_at, row_read}
use Rattle.strip.specs.Writing.{strip, end_of}
use Rattle.strip.specs.RoundTrip.{Good, WrittenReadsBack}
use Rattle.strip.specs.Faults.{RowRight, Sound, no_fault, all_concat}
use Rattle.strip.specs.Laws as laws
use Rattle.strip.proofs.Strips.{length_strip, strip_row, strip_end}

row_same : (r s : Row) → r.owner ≡ s.owner → r.marks ≡ s.marks → r.moves ≡ s.moves → r ≡ s
row_same r s e₀ e₁ e₂ = λ i. record { owner = e₀ i; marks = e₁ i; moves = e₂ i }

-- what a written strip reads as
module _ (n k : ℕ) (row : ℕ → Row) where
  abbrev written : List ℕ
  written = strip n k row

  size_is : size written ≡ n
  size_is = omega arith

  goals_is : goals written ≡ k
  goals_is = omega arith

  module _ (p : ℕ) (l : p < n) where
    abbrev o : ℕ
    o = row_at p

    owner_is : byte written (o + 2) ≡ (row p).owner
    owner_is = strip_row n k row (o + 2) p 2 l (omega arith) (omega arith)

    marks_is : byte written (o + 3) ≡ (row p).marks
    marks_is = strip_row n k row (o + 3) p 3 l (omega arith) (omega arith)

    count_is : number written (o + 4) ≡ length (row p).moves
    count_is =
        let h : byte written (o + 4) ≡ length (row p).moves / 256 = strip_row n k row (o + 4) p 4 l (omega arith) (omega arith) in
        let w : byte written (o + 4 + 1) ≡ length (row p).moves % 256 = strip_row n k row (o + 4 + 1) p 5 l (omega arith) (omega arith) in
        omega (arith, h, w)

    move_is : (j : ℕ) → j < 16 → number written (o + (6 + 2 * j)) ≡ get_or (row p).moves j 0
    move_is j b =
        let h : byte written (o + (6 + 2 * j)) ≡ get_or (row p).moves j 0 / 256 = strip_row n k row (o + (6 + 2 * j)) p (6 + 2 * j) l (omega arith) (omega arith) ∙ record_high (row p) j b in
        let w : byte written (o + (6 + 2 * j) + 1) ≡ get_or (row p).moves j 0 % 256 = strip_row n k row (o + (6 + 2 * j) + 1) p (7 + 2 * j) l (omega arith) (omega arith) ∙ record_low (row p) j b in
        omega (arith, h, w)

    module _ (good : Good n k (row p)) where
      read_is : row_read written p ≡ row p
      read_is =
          row_same (row_read written p) (row p) owner_is marks_is
          (ext_get_or 0 (row_read written p).moves (row p).moves
          (laws.moves_count written o ∙ count_is)
          (λ j b.
          let c : j < number written (o + 4) = omega (arith, laws.moves_count written o) in
          laws.move_is written o j c ∙ move_is j (omega (arith, count_is, good.few))))

      row_is_right : RowRight written (size written) (goals written) o
      row_is_right =
          record {
            mark_0 = strip_row n k row o p 0 l (omega arith) (omega arith);
            mark_1 = strip_row n k row (o + 1) p 1 l (omega arith) (omega arith);
            owned = subst (λ (z : ℕ). z ≤ 1) (sym owner_is) good.owned;
            marks = subst (λ (z : ℕ). z < 2 ^ goals written) (sym marks_is) (subst (λ (z : ℕ). (row p).marks < 2 ^ z) (sym goals_is) good.goals);
            few = omega (arith, count_is, good.few);
            below = λ j b c. omega (arith, move_is j b, size_is, good.below j (omega (arith, count_is)));
            rising = λ j b c pos.
                let e : o + (6 + 2 * j) - 2 ≡ o + (6 + 2 * (j - 1)) = omega arith in
                let w : number written (o + (6 + 2 * (j - 1))) < number written (o + (6 + 2 * j)) =
                omega (arith, move_is j b, move_is (j - 1) (omega arith), good.rising (j - 1) j (omega arith) (omega (arith, count_is))) in
                subst (λ (z : ℕ). number written z < number written (o + (6 + 2 * j))) (sym e) w;
            rest = λ j b c. move_is j b ∙ get_or_past (row p).moves j 0 (omega (arith, count_is));
          }

-- the bytes of a written strip
abbrev Byte : ℕ → Type 0
Byte x = x < 256

pairs_bytes : (xs : List ℕ) → AllByRecursion (λ x. x < 65536) xs → AllByRecursion Byte (pairs xs)
pairs_bytes [] h = tt
pairs_bytes (x ∷ xs) h = let small : x < 65536 = h.0 in (omega arith, (omega arith, pairs_bytes xs h.1))

zeros_small : (n : ℕ) → AllByRecursion (λ x. x < 65536) (replicate n 0)
zeros_small zero = tt
zeros_small (suc n) = (omega arith, zeros_small n)

row_byte : (n k : ℕ) (r : Row) → n ≤ 512 → k ≤ 8 → Good n k r → AllByRecursion Byte (record_of r)
row_byte n k r n₁ k₁ good =
    let moves-small : AllByRecursion (λ x. x < 65536) r.moves = All-from_get_or (λ x. x < 65536) r.moves 0 (λ i l. omega (arith, good.below i l)) in
    let padded-small : AllByRecursion (λ x. x < 65536) (padded r.moves) =
    All-take (λ x. x < 65536) 16 (r.moves ++ replicate 16 0) (All-append (λ x. x < 65536) r.moves (replicate 16 0) moves-small (zeros_small 16)) in
    let pow : 2 ^ k ≤ 2 ^ 8 = pow_mono k₁ in
    (omega arith, (omega arith, (omega (arith, good.owned), (omega (arith, good.goals), (omega (arith, good.few), (omega arith, pairs_bytes (padded r.moves) padded-small))))))

all_bytes : (n k : ℕ) (row : ℕ → Row) → n ≤ 512 → k ≤ 8 → ((p : ℕ) → p < n → Good n k (row p)) → AllByRecursion Byte (strip n k row)
all_bytes n k row n₁ k₁ good = (
  omega arith,
  (
    omega arith,
    (
      omega arith,
      (
        omega arith,
        (
          omega arith,
          (
            omega arith,
            All-append Byte (concat (λ p. record_of (row p)) (upto n)) (end_of n)
                (all_concat Byte (λ p. record_of (row p)) 0 n (λ p a b. row_byte n k (row p) n₁ k₁ (good p (omega arith))))
                (omega arith, (omega arith, (omega arith, (omega arith, tt)))),
          ),
        ),
      ),
    ),
  ),
)

written_sound : (n k : ℕ) (row : ℕ → Row) → 0 < n → n ≤ 512 → 0 < k → k ≤ 8 → ((p : ℕ) → p < n → Good n k (row p)) → Sound (strip n k row)
written_sound n k row n₀ n₁ k₀ k₁ good =
    let B : List ℕ = strip n k row in
    let s : size B ≡ n = size_is n k row in
    let g : goals B ≡ k = goals_is n k row in
    record {
      long = omega (arith, length_strip n k row, s);
      mark_0 = refl;
      mark_1 = refl;
      size_low = subst (λ (z : ℕ). 0 < z) (sym s) n₀;
      size_high = subst (λ (z : ℕ). z ≤ 512) (sym s) n₁;
      goals_low = subst (λ (z : ℕ). 0 < z) (sym g) k₀;
      goals_high = subst (λ (z : ℕ). z ≤ 8) (sym g) k₁;
      rows = λ p l. let l' : p < n = omega (arith, s) in row_is_right n k row p l' (good p l');
      end_0 = strip_end n k row (end_at B) 0 (omega (arith, s));
      end_1 = strip_end n k row (end_at B + 1) 1 (omega (arith, s));
      again =
          let h : byte B (end_at B + 2) ≡ n / 256 = strip_end n k row (end_at B + 2) 2 (omega (arith, s)) in
          let w : byte B (end_at B + 2 + 1) ≡ n % 256 = strip_end n k row (end_at B + 2 + 1) 3 (omega (arith, s)) in
          omega (arith, h, w, s);
    }

pub written_reads_back : WrittenReadsBack
written_reads_back n k row n₀ n₁ k₀ k₁ good =
    record {
      no_fault = no_fault (strip n k row) (written_sound n k row n₀ n₁ k₀ k₁ good);
      same_size = size_is n k row;
      same_goals = goals_is n k row;
      same_rows = λ p l. read_is n k row p l (good p l);
      bytes = λ i l. All-get_or Byte (strip n k row) i 0 l (all_bytes n k row n₁ k₁ good);
      long = length_strip n k row;
    }
