-- A strip that opens draws an arena: the proof that an opened strip carries.
use Rattle.std.specs.Prelude.{◌≡◌, ℕ, zero, suc, ◌+◌, ◌-◌, ◌*◌, ◌<◌, ◌≤◌, true, false, not, ◌&&◌, List, length, Some, None, Option, ◌==◌, slice_index, slice_index_or, refl}
use Rattle.std.proofs.Common.{ap, ⊎_elim, arith}
use Rattle.std.proofs.lemmas.List.{get_or_past}
use Rattle.std.proofs.lemmas.List.FromFn.{length-map-range_with_len, get_or-map-range_with_len}
use Rattle.std.proofs.lemmas.Bool.{both_ways, cases_lt, eqb-true, eqb-false, and_parts, or_cases, not-true}
use Rattle.arena.specs.Arena.{Lawful}
use Rattle.arena.specs.Bytes.{byte, number}
use Rattle.arena.specs.Sets.{least, holds}
use Rattle.arena.proofs.Basics.{least_none}
use Rattle.strip.specs.Strip.{size, goals, row_at, move_at, moves_at, row_from, bare, drawn, fault, openable}
use Rattle.strip.specs.Faults.{RowRight, Sound, sound}

module _ (f : ℕ → ℕ) where
  -- what rises at each step rises over any distance
  module _ (n : ℕ) (up : (j : ℕ) → 0 < j → j < n → f (j - 1) < f j) where
    climbs : (i d : ℕ) → i + suc d < n → f i < f (i + suc d)
    climbs i zero l = let e : i + 1 - 1 ≡ i = omega arith in let s = up (i + 1) (omega arith) l in omega (arith, ap f e)
    climbs i (suc d) l =
        let a : f i < f (i + suc d) = climbs i d (omega arith) in
        let e : i + suc (suc d) - 1 ≡ i + suc d = omega arith in
        let s : f (i + suc (suc d) - 1) < f (i + suc (suc d)) = up (i + suc (suc d)) (omega arith) l in
        omega (arith, ap f e)

    pub rises : (i j : ℕ) → i < j → j < n → f i < f j
    rises i j l m =
        let e : i + suc (j - suc i) ≡ j = omega arith in
        let c : f i < f (i + suc (j - suc i)) = climbs i (j - suc i) (omega arith) in
        omega (arith, ap f e)

-- the moves of the record at offset o, as a list
module _ (bs : List ℕ) (o : ℕ) where
  pub moves_count : length (row_from bs o).moves ≡ moves_at bs o
  moves_count = length-map-range_with_len (λ j. number bs (move_at o j)) 0 (moves_at bs o)

  pub move_is : (j : ℕ) → j < moves_at bs o → slice_index (row_from bs o).moves j ≡ number bs (move_at o j)
  move_is j l = get_or-map-range_with_len (λ i. number bs (move_at o i)) 0 (moves_at bs o) j j 0 l (omega arith)

  -- the moves of a record without a fault rise
  pub moves_rise : (n k : ℕ) → RowRight bs n k o → (i j : ℕ) → i < j → j < moves_at bs o → number bs (move_at o i) < number bs (move_at o j)
  moves_rise n k r =
      rises (λ i. number bs (move_at o i)) (moves_at bs o)
      (λ j pos l.
      let few : moves_at bs o ≤ 16 = r.few in
      let e : o + (6 + 2 * j) - 2 ≡ o + (6 + 2 * (j - 1)) = omega arith in
      let s : number bs (move_at o j - 2) < number bs (move_at o j) = r.rising j (omega arith) l pos in
      omega (arith, ap (number bs) e))

none_held : (o : Option ℕ) → holds o ≡ false → o ≡ None
none_held None e = refl
none_held (Some place) e = absurd (both_ways true e refl)

module _ (bs : List ℕ) (h : openable bs ≡ true) where
  -- a strip that has a position is not empty, so it has no fault and no bare row
  parts : (p : ℕ) → p < size bs → Sound bs × ((q : ℕ) → q < size bs → bare bs q ≡ false)
  parts p l =
      ⊎_elim
      (λ (e : (length bs == 0) ≡ true).
      let none : length bs ≡ 0 = eqb-true (length bs) 0 e in
      absurd (omega (arith, get_or_past bs 2 0 (omega arith), get_or_past bs 3 0 (omega arith))))
      (λ (e : (not (holds (fault bs)) && not (holds (least (bare bs) (size bs)))) ≡ true).
      let two = and_parts (not (holds (fault bs))) (not (holds (least (bare bs) (size bs)))) e in (
        sound bs (none_held (fault bs) (not-true (holds (fault bs)) two.0)),
        least_none (bare bs) (size bs) (none_held (least (bare bs) (size bs)) (not-true (holds (least (bare bs) (size bs))) two.1)),
      ))
      (or_cases (length bs == 0) (not (holds (fault bs)) && not (holds (least (bare bs) (size bs)))) h)

  right : (p : ℕ) → p < size bs → RowRight bs (size bs) (goals bs) (row_at p)
  right p l = (parts p l).0.rows p l

  -- the rows of a strip that opens draw an arena
  pub lawful_strip : Lawful (drawn bs)
  lawful_strip =
      record {
        owned = λ p l. let r : byte bs (row_at p + 2) ≤ 1 = (right p l).owned in omega arith;
        some = λ p l.
            let r : length (row_from bs (row_at p)).moves ≡ 0 → ⊥ = eqb-false (length (row_from bs (row_at p)).moves) 0 ((parts p l).1 p l) in
            ⊎_elim (λ (z : 0 < length (row_from bs (row_at p)).moves). z) (λ (z : length (row_from bs (row_at p)).moves ≤ 0). absurd (r (omega arith)))
            (cases_lt 0 (length (row_from bs (row_at p)).moves));
        below = λ p j l m.
            let c : length (row_from bs (row_at p)).moves ≡ moves_at bs (row_at p) = moves_count bs (row_at p) in
            let few : moves_at bs (row_at p) ≤ 16 = (right p l).few in
            let e : slice_index_or (row_from bs (row_at p)).moves j 0 ≡ number bs (move_at (row_at p) j) = move_is bs (row_at p) j (omega arith) in
            let r : number bs (move_at (row_at p) j) < size bs = (right p l).below j (omega arith) (omega arith) in
            omega arith;
        rising = λ p i j l m k.
            let c : length (row_from bs (row_at p)).moves ≡ moves_at bs (row_at p) = moves_count bs (row_at p) in
            let e : slice_index_or (row_from bs (row_at p)).moves i 0 ≡ number bs (move_at (row_at p) i) = move_is bs (row_at p) i (omega arith) in
            let f : slice_index_or (row_from bs (row_at p)).moves j 0 ≡ number bs (move_at (row_at p) j) = move_is bs (row_at p) j (omega arith) in
            let r : number bs (move_at (row_at p) i) < number bs (move_at (row_at p) j) =
            moves_rise bs (row_at p) (size bs) (goals bs) (right p l) i j m (omega arith) in
            omega arith;
      }
