use Rattle.std.specs.Fmt.{HasWritten, IsPlainFormatter}
use Rattle.arena.specs.Sets.{concat, upto}
use Rattle.report.specs.Plan.{goal_text}
use Rattle.report.proofs.decisions.ChoicesDisplay.fmt.Given as goal

abbrev pub invariant-loop-g : goal.invariant-loop-g
invariant-loop-g g l =
    let m = g.A.Arena.meaning l.self.certificate.now.arena.now in
    IsPlainFormatter l.initial.f
    → HasWritten g.W.Write.write_str_gives l.initial.f (concat (goal_text m l.self.certificate.now.bytes.now l.self.position) (upto l.g)) l.f
