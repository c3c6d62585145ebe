use Rattle.std.proofs.Common.{◌≡◌, ◌∙◌, eqb, rules, tests}
use Rattle.std.specs.List.{count_by}
use Rattle.solver.proofs.Laid.{counted}
use Rattle.solver.proofs.settled.Settled.count.Goals as goal

pub returns : goal.returns
returns g c =
    let e : c.count.result ≡ count_by (λ stage. eqb stage 0) c.args.self.now.taken.now = search (rules, tests) in
    e ∙ counted (g.A.Arena.meaning c.args.self.now.arena.now) (g.A.Arena.lawful c.args.self.now.arena.now) _ _ _ _ c.args.self.now.settled
