use Rattle.std.proofs.Common.{rules}
use borrow.Author.Tests.{tests}
use Rattle.solver.proofs.Cores.{marks_test}
use Rattle.solver.proofs.attract.Present.reach.Goals as goal

pub returns : goal.returns
returns g c =
    let m = g.A.Arena.meaning c.args.self.now.arena.now in
    c.attract.ensures (λ p. m.marked p c.args.g) (λ p b l e. marks_test m c.args.g p b l c.requires.goal (search (rules, tests)))
