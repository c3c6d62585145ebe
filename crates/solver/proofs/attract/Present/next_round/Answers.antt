use Rattle.std.proofs.Common.{◌<◌, length, true, false, sym, ◌+◌, ◌∙◌, arith}
use Rattle.std.proofs.lemmas.Bool.{true≢false}
use Rattle.arena.specs.Owners.{owner_number}
use Rattle.solver.proofs.Rounds.{next_new, next_old, next_here, next_rest, pass_here}
use Rattle.solver.proofs.attract.Present.next_round.Goals as goal

pub loop-p-preserved : goal.loop-p-preserved
loop-p-preserved g c =
    let m = g.A.Arena.meaning c.args.self.now.arena.now in
    let side = owner_number c.args.side in
    let taken = c.args.self.now.taken.now in
    let w = c.args.ranks.now in
    let v = c.loop-p.ranks in
    let i = c.args.i in
    let p = c.loop-p.p in
    let here = c.loop-p.invariant.0 in
    let rest = c.loop-p.invariant.1 in
    let old = next_old m side i p taken w v here rest in
    let inside : c.loop-p.p < length c.loop-p.ranks = omega arith in
    elim c.if-ranks-p-eq0.branch [
      | goal.then-ranks-p-eq0+then-draws_in u ↦
          let d = next_new m side i p taken w v here rest u.if-ranks-p-eq0.true true u.if-draws_in.ensures in
          simp (u.ranks-is, u.more-is) (next_here m side i p taken w v here rest (i + 2) inside (sym d), next_rest m side i p taken w v here rest (i + 2), λ z. absurd (true≢false z))
      | goal.else-ranks-p-eq0 u ↦
          simp (u.ranks-is, u.more-is)
          (elim u.else-ranks-p-eq0.branch [
            | goal.else-ranks-p-eq0-via-then-ranks-p-eq0+else-draws_in x ↦
                let d = next_new m side i p taken w v here rest x.if-ranks-p-eq0.true false x.if-draws_in.ensures in
                (pass_here m side i p taken w v here rest (x.if-ranks-p-eq0.true ∙ sym d), λ k l. rest k (omega arith), c.loop-p.invariant.2)
            | goal.else-ranks-p-eq0-via-else-ranks-p-eq0 x ↦
                (pass_here m side i p taken w v here rest (old x.if-ranks-p-eq0.false), λ k l. rest k (omega arith), c.loop-p.invariant.2)
          ])
    ]
