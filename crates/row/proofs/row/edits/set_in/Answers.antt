use Rattle.std.proofs.Common.{◌≡◌, ℕ, suc, ◌+◌, ◌-◌, List, [], ◌∷◌, ◌++◌, length, get_or, take, drop, set, sym, ap, ◌∙◌, arith, append_assoc, length-append}
use Rattle.std.specs.List.{insert}
use Rattle.std.proofs.Math.Seq.{drop-cons}
use Rattle.std.proofs.lemmas.List.{append-nil, drop_all, length-drop, length-take-le, set_at, take-append-drop, take_all, take_at}
use Rattle.row.proofs.row.edits.set_in.Goals as goal

-- the last of the elements after a place comes to the front of them, and is written over
module _ (at k : ℕ) (xs : List ℕ) (q : ℕ) (e : at + suc k ≡ length xs) where
  abbrev front : List ℕ
  front = take at xs

  abbrev rest : List ℕ
  rest = drop at xs

  written : set (front ++ (drop k rest ++ take k rest)) at q ≡ front ++ q ∷ take k rest
  written =
      let long : length rest ≡ suc k = omega (arith, length-drop at xs) in
      let last : drop k rest ≡ get_or rest k 0 ∷ [] = drop-cons rest k 0 (omega arith) ∙ ap (λ t. get_or rest k 0 ∷ t) (drop_all (suc k) rest (omega arith)) in
      ap (λ t. set (front ++ (t ++ take k rest)) at q) last ∙ set_at front (get_or rest k 0) (take k rest) q at (length-take-le at xs (omega arith))

  taken : take (length xs) (insert xs at q) ≡ front ++ q ∷ take k rest
  taken =
      let p : List ℕ = front ++ q ∷ take k rest in
      let whole : insert xs at q ≡ p ++ drop k rest = ap (λ t. front ++ q ∷ t) (sym (take-append-drop k rest)) ∙ sym (append_assoc front (q ∷ take k rest) (drop k rest)) in
      let long : length p ≡ length xs =
      omega (arith, length-append front (q ∷ take k rest), length-take-le at xs (omega arith), length-take-le k rest (omega (arith, length-drop at xs))) in
      ap (take (length xs)) whole ∙ take_at p (drop k rest) (length xs) long

pub returns : goal.returns
returns c =
    let xs = c.args.moves.now in
    let at = c.args.at in
    let k = length xs - at - 1 in
    let e : at + suc k ≡ length xs = omega (arith, c.requires) in
    let whole : take (length xs - at) (drop at xs) ≡ drop at xs = take_all (length xs - at) (drop at xs) (omega (arith, length-drop at xs)) in
    let one : length (drop at xs) - 1 ≡ k = omega (arith, length-drop at xs) in
    let none : drop (length xs - at) (drop at xs) ≡ [] = drop_all (length xs - at) (drop at xs) (omega (arith, length-drop at xs)) in
    rw (c.rotate_right.ensures.after, whole, one, none, append-nil) (written at k xs c.args.q e ∙ sym (taken at k xs c.args.q e))
