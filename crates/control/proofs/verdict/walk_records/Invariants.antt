use Rattle.std.proofs.Common.{◌≡◌}
use Rattle.control.proofs.Judge.{walked, walked_from}
use Rattle.control.proofs.verdict.walk_records.Given as goal

abbrev pub invariant-loop-position : goal.invariant-loop-position
invariant-loop-position g l =
    walked_from (g.A.Arena.meaning l.c.arena.now) l.c.bytes.now l.position ≡ walked (g.A.Arena.meaning l.c.arena.now) l.c.bytes.now
