use Rattle.std.proofs.Common.{rules}
use borrow.Author.Tests.{tests}
use Rattle.solver.specs.Solution.{nearer}
use Rattle.solver.proofs.settled.Settled.decide_goal.Goals as goal

pub returns : goal.returns
returns g c = c.decide.ensures (nearer (g.A.Arena.meaning c.args.self.now.arena.now) c.args.g) (λ p q b l k e. search (rules, tests))
