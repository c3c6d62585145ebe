use Rattle.std.proofs.Common.{◌+◌, ◌*◌}
use Rattle.solver.specs.Writing.{Rows}
use Rattle.solver.proofs.settled.Settled.write_records.Given as goal

abbrev pub invariant-loop-g : goal.invariant-loop-g
invariant-loop-g g l = Rows (g.A.Arena.meaning l.self.arena.now) (10 + 4 * l.g) l.records
