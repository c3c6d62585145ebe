use Rattle.std.proofs.Common.{◌∙◌}
use Rattle.solver.proofs.Choosing.{present_final}
use Rattle.solver.proofs.settled.Settled.is_kept.Goals as goal

pub returns : goal.returns
returns g c =
    c.is_present.ensures ∙ (λ j. present_final (g.A.Arena.meaning c.args.self.now.arena.now) (g.A.Arena.lawful c.args.self.now.arena.now) _ _ _ _ c.args.self.now.settled j c.args.p)
