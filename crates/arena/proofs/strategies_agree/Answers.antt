use Rattle.arena.proofs.Strategies.{strategies_agree_lem}
use Rattle.arena.proofs.strategies_agree.Goals as goal

pub returns : goal.returns
returns c = strategies_agree_lem
