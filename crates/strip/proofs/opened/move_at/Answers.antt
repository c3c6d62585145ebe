use Rattle.std.proofs.Common.{◌<◌, sym, ◌∙◌, arith}
use Rattle.strip.specs.Laws.{moves_count, move_is}
use Rattle.strip.specs.Strip.{moves_at}
use Rattle.strip.proofs.opened.move_at.Goals as goal

pub returns : goal.returns
returns c =
    let bs = c.args.bytes.now in
    let at = c.args.at in
    let j = c.args.j in
    let below : j < moves_at bs at = omega (arith, c.requires.there, moves_count bs at) in
    c.number_at.ensures ∙ sym (move_is bs at j below)
