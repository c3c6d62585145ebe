use Rattle.std.proofs.Common.{◌≡◌, ℕ, ◌+◌, ◌-◌, ◌*◌, ◌/◌, ◌%◌, ◌<◌, List, ◌∷◌, [], length, get_or, sym, refl, ap, ◌∙◌, arith, rules}
use Rattle.std.proofs.lemmas.List.{take_all}
use Rattle.std.proofs.lemmas.Slice.{take-put_mid, overwrites}
use Rattle.arena.specs.Bytes.{two}
use Rattle.row.proofs.RecordBytes.{pairs_more, record_is}
use Rattle.row.proofs.row.Row.record_bytes.Goals as goal

pub loop-j-preserved : goal.loop-j-preserved
loop-j-preserved c =
    let inv = c.loop-j.invariant in
    let j : ℕ = c.loop-j.j in
    let moves : List ℕ = c.args.self.now.moves in
    let here : j < length moves = omega (arith, c.args.self.now.wide) in
    let high : get_or moves j 0 / 256 % 256 ≡ get_or moves j 0 / 256 = omega arith in
    let pair : c.copy_from_slice-in-loop-j.new.self ≡ two (get_or moves j 0) =
    c.copy_from_slice-in-loop-j.ensures.after ∙ c.to_be_bytes.ensures ∙ ap (λ (x : ℕ). x ∷ (get_or moves j 0 % 256) ∷ []) high in
    record {
      long = search (rules, overwrites);
      done = take-put_mid (6 + 2 * j) (8 + 2 * j - (6 + 2 * j)) c.loop-j.bytes c.copy_from_slice-in-loop-j.new.self (6 + 2 * (j + 1)) (omega (arith, ap length pair)) (omega (arith, inv.long))
          ∙ rw (inv.done, pair, pairs_more moves j here) refl;
    }

pub returns : goal.returns
returns c =
    let inv = c.loop-j.invariant in
    let r = c.args.self.now in
    let all : c.loop-j.j ≡ 16 = omega arith in
    sym (take_all (6 + 2 * c.loop-j.j) c.loop-j.bytes (omega (arith, inv.long)))
    ∙ inv.done
    ∙ rw (record_is r, all, take_all 16 r.moves (omega (arith, r.wide))) refl
