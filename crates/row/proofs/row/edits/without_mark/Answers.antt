use Rattle.std.proofs.Common.{arith}
use Rattle.row.proofs.Bits.{mark_cleared}
use Rattle.row.proofs.row.edits.without_mark.Goals as goal

pub returns : goal.returns
returns c = mark_cleared c.args.marks c.args.g (omega arith) c.requires
