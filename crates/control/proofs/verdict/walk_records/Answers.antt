use Rattle.std.proofs.Common.{sym, ◌∙◌, arith}
use Rattle.arena.specs.Sets.{upto}
use Rattle.arena.proofs.Basics.{count_is}
use Rattle.control.specs.Accept.{ours}
use Rattle.control.specs.Clauses.{clause_number}
use Rattle.control.proofs.Judge.{walk_stops, walk_goes_on, walk_ends}
use Rattle.control.proofs.verdict.walk_records.Goals as goal

pub returns-in-Some : goal.returns-in-Some
returns-in-Some g c =
    walk_stops (g.A.Arena.meaning c.args.c.now.arena.now) c.args.c.now.bytes.now c.loop-position.position (clause_number c.in-Some.clause) (omega arith)
    c.loop-position.invariant c.in-Some.ensures

pub loop-position-preserved : goal.loop-position-preserved
loop-position-preserved g c =
    walk_goes_on (g.A.Arena.meaning c.args.c.now.arena.now) c.args.c.now.bytes.now c.loop-position.position (omega arith)
    c.loop-position.invariant c.in_default.ensures

pub returns : goal.returns
returns g c =
    walk_ends (g.A.Arena.meaning c.args.c.now.arena.now) c.args.c.now.bytes.now c.loop-position.position c.count_given.result (omega arith)
    c.loop-position.invariant (c.count_given.ensures ∙ sym (count_is (ours (g.A.Arena.meaning c.args.c.now.arena.now) c.args.c.now.bytes.now) (upto (g.A.Arena.meaning c.args.c.now.arena.now).size)))
