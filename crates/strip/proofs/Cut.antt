-- The record of a position, cut out of a strip without a fault, is read as the row that the strip stores there.
use Rattle.std.proofs.Common.{◌≡◌, ℕ, ◌+◌, ◌-◌, ◌*◌, ◌^◌, ◌<◌, ◌≤◌, Bool, not, eqb, List, length, take, drop, Some, None, sym, ap, ◌∙◌, arith, length-drop, pow_mono}
use Rattle.std.proofs.lemmas.List.{get_or-take, get_or-drop, length-take-le, ext_get_or}
use Rattle.std.proofs.lemmas.Bool.{and_from, eq-eqb}
use Rattle.arena.specs.Bytes.{byte, number}
use Rattle.arena.specs.Sets.{holds}
use Rattle.arena.proofs.Within.{within_true}
use Rattle.strip.specs.Strip.{size, goals, row_at, move_at, moves_at, first_wrong, record_fields, row_from, row_in, row_read}
use Rattle.strip.specs.Faults.{RowRight, Sound, sound_record}
use Rattle.strip.specs.Laws.{moves_count, move_is}

module _ (bs : List ℕ) (o : ℕ) (room : o + 38 ≤ length bs) where
  abbrev cut : List ℕ
  cut = take 38 (drop o bs)

  length_cut : length cut ≡ 38
  length_cut = length-take-le 38 (drop o bs) (omega (arith, length-drop o bs))

  byte_cut : (i : ℕ) → i < 38 → byte cut i ≡ byte bs (o + i)
  byte_cut i l = get_or-take 38 (drop o bs) i 0 l ∙ get_or-drop o bs i 0

  number_cut : (i : ℕ) → i + 1 < 38 → number cut i ≡ number bs (o + i)
  number_cut i l =
      let e : o + (i + 1) ≡ o + i + 1 = omega arith in
      let a : byte cut i ≡ byte bs (o + i) = byte_cut i (omega arith) in
      let b : byte cut (i + 1) ≡ byte bs (o + i + 1) = byte_cut (i + 1) l ∙ ap (byte bs) e in
      omega arith

  count_cut : moves_at cut 0 ≡ moves_at bs o
  count_cut = number_cut 4 (omega arith)

  move_cut : (j : ℕ) → j < 16 → number cut (move_at 0 j) ≡ number bs (move_at o j)
  move_cut j l =
      let e : 0 + (6 + 2 * j) ≡ 6 + 2 * j = omega arith in
      ap (number cut) e ∙ number_cut (6 + 2 * j) (omega arith)

  module _ (n k : ℕ) (small : n ≤ 512) (few : k ≤ 8) (h : RowRight bs n k o) where
    right_cut : RowRight cut 65536 8 0
    right_cut =
        let none : o + 0 ≡ o = omega arith in
        let wide : 2 ^ k ≤ 2 ^ 8 = pow_mono few in
        let marks : byte bs (o + 3) < 2 ^ k = h.marks in
        record {
          mark_0 = byte_cut 0 (omega arith) ∙ ap (byte bs) none ∙ h.mark_0;
          mark_1 = byte_cut 1 (omega arith) ∙ h.mark_1;
          owned = omega (arith, byte_cut 2 (omega arith), h.owned);
          marks = omega (arith, byte_cut 3 (omega arith));
          few = omega (arith, count_cut, h.few);
          below = λ j l m. omega (arith, move_cut j l, h.below j l (omega (arith, count_cut)));
          rising = λ j l m pos.
              let a : 0 + (6 + 2 * j) - 2 ≡ 0 + (6 + 2 * (j - 1)) = omega arith in
              let b : o + (6 + 2 * j) - 2 ≡ o + (6 + 2 * (j - 1)) = omega arith in
              let up : number bs (move_at o j - 2) < number bs (move_at o j) = h.rising j l (omega (arith, count_cut)) pos in
              omega (arith, ap (number cut) a, ap (number bs) b, move_cut (j - 1) (omega arith), move_cut j l);
          rest = λ j l m. move_cut j l ∙ h.rest j l (omega (arith, count_cut));
        }

    moves_cut : (row_from cut 0).moves ≡ (row_from bs o).moves
    moves_cut =
        ext_get_or 0 (row_from cut 0).moves (row_from bs o).moves (moves_count cut 0 ∙ count_cut ∙ sym (moves_count bs o))
        (λ j l.
        let inside : j < moves_at cut 0 = omega (arith, moves_count cut 0) in
        let few : moves_at bs o ≤ 16 = h.few in
        move_is cut 0 j inside ∙ move_cut j (omega (arith, count_cut)) ∙ sym (move_is bs o j (omega (arith, count_cut))))

    row_cut : row_from cut 0 ≡ row_from bs o
    row_cut = λ i. record { owner = byte_cut 2 (omega arith) i; marks = byte_cut 3 (omega arith) i; moves = moves_cut i }

    read_cut : row_in cut ≡ Some (row_from bs o)
    read_cut =
        let none : first_wrong cut (record_fields cut 65536 8 0) ≡ None = sound_record cut 65536 8 0 (omega (arith, length_cut)) right_cut in
        let test : Bool = not (holds (first_wrong cut (record_fields cut 65536 8 0))) in
        within_true _ (row_from cut 0) (and_from (eqb (length cut) 38) test (eq-eqb (length cut) 38 length_cut) (ap (λ f. not (holds f)) none))
        ∙ ap Some row_cut

pub cut_row : (bs : List ℕ) → Sound bs → (p : ℕ) → p < size bs → row_in (take 38 (drop (row_at p) bs)) ≡ Some (row_read bs p)
cut_row bs h p l = read_cut bs (row_at p) (omega (arith, h.long)) (size bs) (goals bs) h.size_high h.goals_high (h.rows p l)
