use Rattle.std.proofs.Common.{◌%◌, ◌^◌, ◌<◌, ◌≤◌, eqb, sym, ap, ◌∙◌, arith, pow_mono}
use native.Mathlib.Nat.{div-eq_of_lt}
use Rattle.std.proofs.lemmas.Bool.{le-ltb}
use Rattle.row.proofs.marks.has_mark.Goals as goal

pub returns-else-g-lt8 : goal.returns-else-g-lt8
returns-else-g-lt8 c =
    let marks = c.args.marks in
    let g = c.args.g in
    let high : 8 ≤ g = omega arith in
    let wide : 2 ^ 8 ≤ 2 ^ g = pow_mono high in
    let small : marks < 2 ^ g = omega arith in
    le-ltb g 8 high ∙ sym (ap (λ q. eqb (q % 2) 1) (div-eq_of_lt small))
