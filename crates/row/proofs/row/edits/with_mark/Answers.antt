use Rattle.std.proofs.Common.{arith}
use Rattle.row.proofs.Bits.{mark_set}
use Rattle.row.proofs.row.edits.with_mark.Goals as goal

pub returns : goal.returns
returns c = mark_set c.args.marks c.args.g (omega arith) c.requires
