use Rattle.std.proofs.Common.{◌≡◌, ◌+◌, ◌*◌, subst, arith}
use Rattle.solver.specs.Writing.{Rows}
use Rattle.solver.proofs.Laid.{records_are}
use Rattle.solver.proofs.settled.Settled.write_records.Goals as goal

pub returns : goal.returns
returns g c =
    let m = (g.A.Arena.meaning c.args.self.now.arena.now) in
    let e : c.loop-g.g ≡ (g.A.Arena.meaning c.args.self.now.arena.now).goals = omega arith in
    records_are m c.loop-g.records (omega (arith, c.requires.records)) (subst (λ k. Rows m (10 + 4 * k) c.loop-g.records) e c.loop-g.invariant)
