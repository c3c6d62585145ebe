use Rattle.std.proofs.Common.{string_bytes, append_assoc}
use Rattle.arena.specs.Sets.{upto, concat}
use Rattle.report.specs.Plan.{decision_text}
use Rattle.report.proofs.Rows.{concat_more}
use Rattle.report.proofs.plan.Goals as goal

pub loop-position-preserved : goal.loop-position-preserved
loop-position-preserved g c =
    let line = decision_text (g.A.Arena.meaning c.args.arena.now) c.args.bytes.now in
    let p = c.loop-position.position in
    let more = concat_more line p in
    let put = c.in_ok-write.ensures.bytes in
    let joined = append_assoc (string_bytes c.in_ok-out.out) (concat line (upto p)) (line p) in
    cc
