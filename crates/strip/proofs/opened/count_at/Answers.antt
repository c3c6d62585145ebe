use Rattle.std.proofs.Common.{sym, ◌∙◌}
use Rattle.strip.specs.Laws.{moves_count}
use Rattle.strip.proofs.opened.count_at.Goals as goal

pub returns : goal.returns
returns c = c.number_at.ensures ∙ sym (moves_count c.args.bytes.now c.args.at)
