use Rattle.std.proofs.Common.{sym, arith}
use Rattle.solver.specs.Columns.{present}
use Rattle.solver.proofs.Searching.{none_more, found_here, ranks_more}
use Rattle.solver.proofs.attract.Present.missed_goal.Goals as goal

pub returns-then-find_core-clause-answer : goal.returns-then-find_core-clause-answer
returns-then-find_core-clause-answer g c =
    let m = g.A.Arena.meaning c.args.self.now.arena.now in
    found_here m (present c.args.self.now.taken.now) c.loop-g.g (omega arith) c.loop-g.invariant.0 (sym c.if-find_core.ensures.answer)

pub returns-then-find_core-clause-ranks : goal.returns-then-find_core-clause-ranks
returns-then-find_core-clause-ranks g c h b l =
    let m = g.A.Arena.meaning c.args.self.now.arena.now in
    ranks_more m (present c.args.self.now.taken.now) c.loop-g.g c.loop-g.ranks c.find_core.new.ranks c.loop-g.invariant.1 c.find_core.ensures.others c.find_core.ensures.ranks h (omega arith)

pub loop-g-preserved : goal.loop-g-preserved
loop-g-preserved g c =
    let m = g.A.Arena.meaning c.args.self.now.arena.now in (
      none_more m (present c.args.self.now.taken.now) c.loop-g.g c.loop-g.invariant.0 (sym c.if-find_core.ensures.answer),
      ranks_more m (present c.args.self.now.taken.now) c.loop-g.g c.loop-g.ranks c.find_core.new.ranks c.loop-g.invariant.1 c.find_core.ensures.others c.find_core.ensures.ranks,
    )
