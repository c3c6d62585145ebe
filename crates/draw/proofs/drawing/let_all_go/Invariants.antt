use Rattle.std.proofs.Common.{vec_len}
use Rattle.draw.proofs.drawing.let_all_go.Given as goal

abbrev pub decreases-loop-slip : goal.decreases-loop-slip
decreases-loop-slip l = vec_len l.hand
