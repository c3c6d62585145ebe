-- What has no fault is what would be written of its rows: every byte of it is the one that the rows read would be written
-- as, since each field is right and a two-byte number has just one high and one low byte. The round trip is both ways
-- together.
use Rattle.std.proofs.Common.{◌≡◌, ℕ, zero, suc, ◌+◌, ◌-◌, ◌*◌, ◌/◌, ◌%◌, ◌<◌, ◌≤◌, List, length, get_or, sym, refl, ap, ◌∙◌, subst, ⊎_elim, arith}
use Rattle.std.proofs.lemmas.Bool.{cases_lt}
use Rattle.std.proofs.lemmas.List.{get_or_past, ext_get_or}
use Rattle.arena.specs.Bytes.{byte, number}
use Rattle.row.specs.Records.{record_of}
use Rattle.row.proofs.RecordBytes.{record_high, record_low}
use Rattle.strip.specs.Strip.{size, goals, row_at, end_at, row_read}
use Rattle.strip.specs.Writing.{strip, end_of}
use Rattle.strip.specs.RoundTrip.{Good, Bytes, WritesBack, ReadWritesBack, RoundTrip}
use Rattle.strip.specs.Faults.{RowRight, Sound, sound}
use Rattle.strip.specs.Laws.{moves_count, move_is, moves_rise}
use Rattle.strip.proofs.Strips.{length_strip, strip_row, strip_end}
use Rattle.strip.proofs.Written.{written_reads_back}

-- a strip that has no fault, read
module _ (bs : List ℕ) (bytes : Bytes bs) (h : Sound bs) where
  small : (i : ℕ) → byte bs i < 256
  small i = ⊎_elim (λ l. bytes i l) (λ l. let e : byte bs i ≡ 0 = get_or_past bs i 0 l in omega arith) (cases_lt i (length bs))

  abbrev again : List ℕ
  again = strip (size bs) (goals bs) (row_read bs)

  module _ (p : ℕ) (l : p < size bs) where
    abbrev at : ℕ
    at = row_at p

    abbrev count : ℕ
    count = number bs (at + 4)

    abbrev move : ℕ → ℕ
    move j = number bs (at + (6 + 2 * j))

    right : RowRight bs (size bs) (goals bs) at
    right = h.rows p l

    moves_long : length (row_read bs p).moves ≡ count
    moves_long = moves_count bs at

    move_at : (j : ℕ) → j < 16 → get_or (row_read bs p).moves j 0 ≡ move j
    move_at j b =
        ⊎_elim
        (λ (c : j < count). move_is bs at j c)
        (λ (c : count ≤ j). get_or_past (row_read bs p).moves j 0 (omega (arith, moves_long)) ∙ sym (right.rest j b c))
        (cases_lt j count)

    row_good : Good (size bs) (goals bs) (row_read bs p)
    row_good =
        record {
          owned = right.owned;
          goals = right.marks;
          few = omega (arith, moves_long, right.few);
          below = λ j b.
              let c : j < count = omega (arith, moves_long) in
              let d : j < 16 = omega (arith, right.few) in
              subst (λ (z : ℕ). z < size bs) (sym (move_at j d)) (right.below j d c);
          rising = λ i j b b'.
              let c : j < count = omega (arith, moves_long) in
              let d : j < 16 = omega (arith, right.few) in
              let r : move i < move j = moves_rise bs at (size bs) (goals bs) right i j b c in
              omega (arith, move_at i (omega arith), move_at j d, r);
        }

    -- the bytes of the row, written again
    pair_same : (q : ℕ) → q < 16 → (byte bs (at + (6 + 2 * q)) ≡ byte (record_of (row_read bs p)) (6 + 2 * q)) × (byte bs (at + (7 + 2 * q)) ≡ byte (record_of (row_read bs p)) (7 + 2 * q))
    pair_same q b =
        let m : get_or (row_read bs p).moves q 0 ≡ move q = move_at q b in
        let s : byte bs (at + (6 + 2 * q) + 1) < 256 = small (at + (6 + 2 * q) + 1) in
        let e : at + (7 + 2 * q) ≡ at + (6 + 2 * q) + 1 = omega arith in
        let hi : byte bs (at + (6 + 2 * q)) ≡ get_or (row_read bs p).moves q 0 / 256 = omega (arith, m, s) in
        let lo : byte bs (at + (6 + 2 * q) + 1) ≡ get_or (row_read bs p).moves q 0 % 256 = omega (arith, m, s) in
        (hi ∙ sym (record_high (row_read bs p) q b), ap (byte bs) e ∙ lo ∙ sym (record_low (row_read bs p) q b))

    pairs_same : (j : ℕ) → j < 32 → byte bs (at + (6 + j)) ≡ byte (record_of (row_read bs p)) (6 + j)
    pairs_same j b =
        let q : ℕ = j / 2 in
        let low : q < 16 = omega arith in
        ⊎_elim
        (λ (z : j % 2 < 1). let e : 6 + 2 * q ≡ 6 + j = omega arith in subst (λ (x : ℕ). byte bs (at + x) ≡ byte (record_of (row_read bs p)) x) e (pair_same q low).0)
        (λ (z : 1 ≤ j % 2). let e : 7 + 2 * q ≡ 6 + j = omega arith in subst (λ (x : ℕ). byte bs (at + x) ≡ byte (record_of (row_read bs p)) x) e (pair_same q low).1)
        (cases_lt (j % 2) 1)

    count_low : byte bs (at + 4 + 1) ≡ length (row_read bs p).moves % 256
    count_low = omega (arith, moves_long, small (at + 4 + 1))

    bytes_same : (j : ℕ) → j < 38 → byte bs (at + j) ≡ byte (record_of (row_read bs p)) j
    bytes_same zero b = let e : at + 0 ≡ at = omega arith in ap (byte bs) e ∙ right.mark_0
    bytes_same (suc zero) b = right.mark_1
    bytes_same (suc (suc zero)) b = refl
    bytes_same (suc (suc (suc zero))) b = refl
    bytes_same (suc (suc (suc (suc zero)))) b = omega (arith, moves_long, small (at + 4 + 1))
    bytes_same (suc (suc (suc (suc (suc zero))))) b = let e : at + 5 ≡ at + 4 + 1 = omega arith in ap (byte bs) e ∙ count_low
    bytes_same (suc (suc (suc (suc (suc (suc j)))))) b = let e : 6 + j ≡ suc (suc (suc (suc (suc (suc j))))) = omega arith in subst (λ (x : ℕ). byte bs (at + x) ≡ byte (record_of (row_read bs p)) x) e (pairs_same j (omega arith))

  head_same : (i : ℕ) → i < 6 → byte bs i ≡ byte again i
  head_same zero b = h.mark_0
  head_same (suc zero) b = h.mark_1
  head_same (suc (suc zero)) b = omega (arith, small 3)
  head_same (suc (suc (suc zero))) b = omega (arith, small 3)
  head_same (suc (suc (suc (suc zero)))) b = omega (arith, small 5)
  head_same (suc (suc (suc (suc (suc zero))))) b = omega (arith, small 5)
  head_same (suc (suc (suc (suc (suc (suc i)))))) b = absurd (omega arith)

  end_low : byte bs (end_at bs + 2 + 1) ≡ size bs % 256
  end_low = omega (arith, h.again, small (end_at bs + 2 + 1))

  end_same : (j : ℕ) → j < 4 → byte bs (end_at bs + j) ≡ byte (end_of (size bs)) j
  end_same zero b = let e : end_at bs + 0 ≡ end_at bs = omega arith in ap (byte bs) e ∙ h.end_0
  end_same (suc zero) b = h.end_1
  end_same (suc (suc zero)) b = omega (arith, h.again, small (end_at bs + 2 + 1))
  end_same (suc (suc (suc zero))) b = let e : end_at bs + 3 ≡ end_at bs + 2 + 1 = omega arith in ap (byte bs) e ∙ end_low
  end_same (suc (suc (suc (suc j)))) b = absurd (omega arith)

  all_same : (i : ℕ) → i < length bs → byte bs i ≡ byte again i
  all_same i b =
      ⊎_elim
      (λ (l : i < 6). head_same i l)
      (λ (l : 6 ≤ i).
      ⊎_elim
      (λ (r : i < 6 + 38 * size bs).
      let p : ℕ = (i - 6) / 38 in
      let j : ℕ = (i - 6) % 38 in
      let pl : p < size bs = omega arith in
      let jl : j < 38 = omega arith in
      let e : i ≡ 6 + 38 * p + j = omega arith in
      ap (byte bs) e ∙ bytes_same p pl j jl ∙ sym (strip_row (size bs) (goals bs) (row_read bs) i p j pl jl e))
      (λ (r : 6 + 38 * size bs ≤ i).
      let j : ℕ = i - (6 + 38 * size bs) in
      let jl : j < 4 = omega (arith, h.long) in
      let e : i ≡ 6 + 38 * size bs + j = omega arith in
      ap (byte bs) e ∙ end_same j jl ∙ sym (strip_end (size bs) (goals bs) (row_read bs) i j e))
      (cases_lt i (6 + 38 * size bs)))
      (cases_lt i 6)

  same_length : length bs ≡ length again
  same_length = omega (arith, h.long, length_strip (size bs) (goals bs) (row_read bs))

  writes_back : WritesBack bs
  writes_back =
      record {
        same_bytes = ext_get_or 0 bs again same_length all_same;
        size_low = h.size_low;
        size_high = h.size_high;
        goals_low = h.goals_low;
        goals_high = h.goals_high;
        good = λ p l. row_good p l;
      }

read_writes_back : ReadWritesBack
read_writes_back bs bytes e = writes_back bs bytes (sound bs e)

pub round_trip : RoundTrip
round_trip = (written_reads_back, read_writes_back)
