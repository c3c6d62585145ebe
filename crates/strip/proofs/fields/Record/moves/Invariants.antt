use Rattle.std.proofs.Common.{◌≡◌}
use Rattle.strip.specs.Parts.{moves_wrong}
use Rattle.strip.proofs.fields.Record.moves.Given as goal

abbrev pub invariant-loop-j : goal.invariant-loop-j
invariant-loop-j l = moves_wrong l.self.bytes.now l.self.positions l.self.offset l.j ≡ moves_wrong l.self.bytes.now l.self.positions l.self.offset 0
