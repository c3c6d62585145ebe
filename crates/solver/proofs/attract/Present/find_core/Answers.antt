use Rattle.std.proofs.Common.{◌≡◌, ◌+◌, ◌-◌, ◌*◌, ap, ◌∙◌, get_or, length, rules, arith}
use borrow.Rule.Slice.PartMut.{put_mid}
use Rattle.solver.proofs.Cores.{core_is}
use Rattle.solver.proofs.Parts.{part_at, rows_apart}
use Rattle.solver.proofs.attract.Present.find_core.Goals as goal

pub returns-clause-answer : goal.returns-clause-answer
returns-clause-answer g c =
    core_is (g.A.Arena.meaning c.args.self.now.arena.now) c.args.g c.args.self.now.taken.now c.reach.new.ranks c.args.self.now.fits.0 c.reach.ensures c.misses.result c.misses.ensures.some c.misses.ensures.none

pub returns-clause-ranks : goal.returns-clause-ranks
returns-clause-ranks g c k h =
    let m = g.A.Arena.meaning c.args.self.now.arena.now in
    let at = c.from.result * (length c.args.self.now.taken.now) in
    let n = length c.args.self.now.taken.now in
    let e : c.args.g * (g.A.Arena.meaning c.args.self.now.arena.now).size ≡ c.from.result * (length c.args.self.now.taken.now) = cc c.args.self.now.fits.0 in
    let d : c.args.g * (g.A.Arena.meaning c.args.self.now.arena.now).size + k ≡ c.from.result * (length c.args.self.now.taken.now) + k = omega arith in
    ap (λ i. get_or (put_mid at (at + n - at) c.args.ranks.now c.reach.new.ranks) i 0) d
    ∙ part_at at (at + n - at) c.args.ranks.now c.reach.new.ranks
    (omega (arith, rows_apart c.args.g m.goals m.size c.requires.goal)) (search rules) k (omega arith)
    ∙ c.reach.ensures k h
