use Rattle.std.proofs.Common.{◌≡◌, ℕ, suc, ◌-◌, ◌<◌, List, [], ◌∷◌, ◌++◌, length, get_or, set, ap, ◌∙◌, arith, length-set, get_or-set_same}
use Rattle.std.specs.List.{remove}
use Rattle.std.proofs.lemmas.List.{take-set, drop-set-lt}
use Rattle.std.proofs.lemmas.Slice.{put_mid-rotated}
use Rattle.row.proofs.row.edits.strike_out.Goals as goal

-- the element that is struck out may be any
set_first : (xs : List ℕ) (at : ℕ) → remove (set xs at 0) at ≡ remove xs at
set_first xs at = rw (take-set xs at 0, drop-set-lt (suc at) xs at 0 (omega arith))

pub returns : goal.returns
returns c =
    let xs : List ℕ = c.args.moves.now in
    let at : ℕ = c.args.at in
    let ys : List ℕ = set xs at 0 in
    let inside : at < length ys = simp length-set c.requires in
    let turned = put_mid-rotated at (length ys - at) ys c.rotate_left.new.self 0 inside (omega arith) c.rotate_left.ensures.after in
    turned ∙ ap (λ zs. zs ++ get_or ys at 0 ∷ []) (set_first xs at) ∙ ap (λ (x : ℕ). remove xs at ++ x ∷ []) (get_or-set_same xs at 0 0 c.requires)
