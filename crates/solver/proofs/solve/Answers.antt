use Rattle.std.proofs.Common.{arith}
use Rattle.solver.proofs.Solving.{wiped}
use Rattle.solver.proofs.solve.Goals as goal

pub returns-clause-numbers : goal.returns-clause-numbers
returns-clause-numbers g c =
    wiped (g.A.Arena.meaning c.args.a.now) c.args.certificate.now c.args.work.now c.in_ok-sized.ensures (omega arith) (omega arith) _ _ c.work_numbers-used.result c.work_numbers-used.ensures c.drop-guard.ensures
    c.plan.ensures.beyond
