use Rattle.std.proofs.Common.{not, rules}
use borrow.Author.Tests.{tests}
use Rattle.solver.specs.Attractor.{attracted}
use Rattle.solver.specs.Columns.{present}
use Rattle.solver.specs.Solution.{target}
use Rattle.solver.proofs.Cores.{missed_test}
use Rattle.solver.proofs.attract.Present.draw.Goals as goal

pub returns : goal.returns
returns g c goal r =
    let m = g.A.Arena.meaning c.args.self.now.arena.now in
    let I = present c.args.self.now.taken.now in
    c.attract.ensures (λ p. not (attracted m 0 I (target m I goal) p)) (λ p b l e. missed_test m goal c.args.self.now.taken.now c.args.reached.now c.args.self.now.fits.0 r b p l c.requires.reached (search (rules, tests)))
