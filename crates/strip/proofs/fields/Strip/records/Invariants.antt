use Rattle.std.proofs.Common.{◌≡◌}
use Rattle.strip.specs.Parts.{rows_wrong}
use Rattle.strip.proofs.fields.Strip.records.Given as goal

abbrev pub invariant-loop-p : goal.invariant-loop-p
invariant-loop-p l = rows_wrong l.self.bytes.now l.p ≡ rows_wrong l.self.bytes.now 0
