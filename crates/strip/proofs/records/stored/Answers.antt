use Rattle.std.proofs.Common.{◌≡◌, ℕ, ◌≤◌, Bool, true, false, not, eqb, List, map, length, Some, None, take, inl, inr, sym, ap, ◌∙◌, arith}
use Rattle.std.proofs.lemmas.Bool.{and_right, and_from, cases_lt, eq-eqb}
use Rattle.std.proofs.lemmas.List.FromFn.{fill_by_all, take-map-range_with_len}
use Rattle.std.proofs.lemmas.List.{get_or_past}
use Rattle.arena.specs.Bytes.{number}
use Rattle.arena.specs.Sets.{holds, upto}
use Rattle.arena.proofs.Within.{within_true, within_false}
use Rattle.strip.specs.Strip.{first_wrong, record_fields, row_from, move_at, moves_at}
use Rattle.strip.specs.Parts.{record_wrong, record_is}
use Rattle.strip.specs.Faults.{RowRight, record_right}
use Rattle.strip.specs.Laws.{moves_rise}
use Rattle.strip.proofs.records.stored.Goals as goal

module _ (bs : List ℕ) where
  abbrev long : Bool
  long = eqb (length bs) 38

  abbrev sound : Bool
  sound = not (holds (first_wrong bs (record_fields bs 65536 8 0)))

  right : None ≡ record_wrong bs 65536 8 0 → RowRight bs 65536 8 0
  right e = record_right bs 65536 8 0 (sym (e ∙ record_is bs 65536 8 0))

pub returns-in_default : goal.returns-in_default
returns-in_default c =
    let bs = c.args.bytes.now in
    let found : sound bs ≡ false = ap (λ o. not (holds o)) (sym (c.in_default.ensures ∙ record_is bs 65536 8 0)) in
    sym (within_false _ (row_from bs 0) (and_right (long bs) (sound bs) found))

pub invariant_of-result : goal.invariant_of-result
invariant_of-result c =
    let bs = c.args.bytes.now in
    let r = right bs c.in-Ok.ensures in
    let few : moves_at bs 0 ≤ 16 = r.few in
    let count : c.number_at.result ≡ moves_at bs 0 = c.number_at.ensures in
    record {
      wide = c.moves_in.ensures.wide;
      few = omega arith;
      rising = λ i j l m.
          let up = moves_rise bs 0 65536 8 r i j l (omega arith) in
          let a = c.moves_in.ensures.each i (omega arith) in
          let b = c.moves_in.ensures.each j (omega arith) in
          omega arith;
      unused = λ j l.
          elim (cases_lt j 16) [
            | inl m ↦ c.moves_in.ensures.each j m ∙ r.rest j m (omega arith)
            | inr m ↦ get_or_past c.moves_in.result j 0 (omega (arith, c.moves_in.ensures.wide))
          ];
    }

pub returns : goal.returns
returns c =
    let bs = c.args.bytes.now in
    let r = right bs c.in-Ok.ensures in
    let few : moves_at bs 0 ≤ 16 = r.few in
    let f : ℕ → ℕ = λ j. number bs (move_at 0 j) in
    let all = fill_by_all f c.moves_in.result 16 0 c.moves_in.ensures.wide c.moves_in.ensures.each in
    let moves : take c.number_at.result c.moves_in.result ≡ map f (upto (moves_at bs 0)) =
    ap (take c.number_at.result) all ∙ ap (λ n. take n (map f (upto 16))) c.number_at.ensures ∙ take-map-range_with_len f 0 16 (moves_at bs 0) few in
    let none : sound bs ≡ true = ap (λ o. not (holds o)) (sym (c.in-Ok.ensures ∙ record_is bs 65536 8 0)) in
    let there = within_true _ (row_from bs 0) (and_from (long bs) (sound bs) (eq-eqb (length bs) 38 (omega arith)) none) in
    let owner = c.in-Ok-try_from.ensures ∙ c.from.ensures ∙ c.byte_at.ensures in
    ap Some (λ i. record { owner = owner i; marks = c.byte_at-2.ensures i; moves = moves i }) ∙ sym there
