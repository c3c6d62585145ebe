use Rattle.std.proofs.Common.{not, ◌&&◌, ◌∙◌, rules}
use borrow.Author.Tests.{tests}
use Rattle.solver.specs.Solution.{final, good_step}
use Rattle.solver.proofs.Choosing.{traffic_decision}
use Rattle.solver.proofs.settled.Settled.decide_traffic.Goals as goal

pub returns : goal.returns
returns g c p h z =
    let m = (g.A.Arena.meaning c.args.self.now.arena.now) in
    c.decide.ensures (λ p q. not (final m p) && good_step m p q) (λ p q b l k e. search (rules, tests)) p h ∙ traffic_decision m (g.A.Arena.lawful c.args.self.now.arena.now) _ _ _ _ c.args.self.now.settled p z
