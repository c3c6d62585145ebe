use Rattle.std.proofs.Common.{◌≡◌, ◌++◌, string_bytes}
use Rattle.arena.specs.Sets.{upto, concat}
use Rattle.report.specs.Plan.{decision_text}
use Rattle.report.proofs.plan.Given as goal

abbrev pub invariant-loop-position : goal.invariant-loop-position
invariant-loop-position g l =
    string_bytes l.out ≡ string_bytes l.initial.out ++ concat (decision_text (g.A.Arena.meaning l.certificate.arena.now) l.certificate.bytes.now) (upto l.position)
