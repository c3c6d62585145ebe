use Rattle.std.proofs.Common.{◌&&◌, rules, arith, add-one}
use borrow.Author.Tests.{tests}
use Rattle.arena.specs.Owners.{owner_number}
use Rattle.solver.specs.Columns.{present}
use Rattle.solver.proofs.Ranks.{number_start, number_next, number_over}
use Rattle.solver.proofs.attract.Present.attract.Goals as goal

pub loop-i-init : goal.loop-i-init
loop-i-init g c set t k h =
    number_start (g.A.Arena.meaning c.args.self.now.arena.now) (owner_number c.args.side) c.args.self.now.taken.now c.args.self.now.fits.0 set _ k
    (c.mark.ensures (λ p. present c.args.self.now.taken.now p && set p) (λ p b l e. search (rules, tests)) k (omega arith))

pub returns-then-not-next_round : goal.returns-then-not-next_round
returns-then-not-next_round g c set t =
    number_over (g.A.Arena.meaning c.args.self.now.arena.now) (owner_number c.args.side) c.args.self.now.taken.now c.args.self.now.fits.0 set
    c.loop-i.i c.loop-i.ranks (omega arith) (c.loop-i.invariant set t) (g.A.Arena.lawful c.args.self.now.arena.now) (omega arith) _ c.next_round.ensures.column (c.next_round.ensures.ended c.if-not-next_round.true)

pub loop-i-preserved : goal.loop-i-preserved
loop-i-preserved g c set t =
    rw (add-one c.loop-i.i)
    (number_next (g.A.Arena.meaning c.args.self.now.arena.now) (owner_number c.args.side) c.args.self.now.taken.now c.args.self.now.fits.0 set
    c.loop-i.i c.loop-i.ranks (omega arith) (c.loop-i.invariant set t) _ c.next_round.ensures.column)
