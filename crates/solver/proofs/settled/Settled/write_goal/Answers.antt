use Rattle.std.proofs.Common.{◌≡◌, ◌<◌, ℕ, ◌+◌, ◌-◌, ◌*◌, List, get_or, length, ap, ◌∙◌, arith}
use Rattle.arena.specs.Certificate.{record_bytes}
use Rattle.solver.specs.Certificate.{entry}
use Rattle.solver.proofs.Parts.{rows_apart, rows_kept, rows_more}
use Rattle.solver.proofs.settled.Settled.write_goal.Goals as goal

pub slice_bounds-copy_from_slice-end : goal.slice_bounds-copy_from_slice-end
slice_bounds-copy_from_slice-end g c =
    let m = (g.A.Arena.meaning c.args.self.now.arena.now) in
    let e : c.from-in-loop-p.result * c.record_bytes-width.result ≡ c.loop-p.p * record_bytes (g.A.Arena.meaning c.args.self.now.arena.now) = cc in
    let below : c.loop-p.p < (g.A.Arena.meaning c.args.self.now.arena.now).size = omega arith in
    omega (arith, rows_apart c.loop-p.p m.size (record_bytes m) below, c.requires.records)

pub loop-p-preserved : goal.loop-p-preserved
loop-p-preserved g c =
    let m = (g.A.Arena.meaning c.args.self.now.arena.now) in
    let p = c.loop-p.p in
    let at = c.from-in-loop-p.result * c.record_bytes-width.result + (10 + 4 * c.from.result) in
    let place : c.from-in-loop-p.result * c.record_bytes-width.result + (10 + 4 * c.from.result) ≡ c.loop-p.p * record_bytes (g.A.Arena.meaning c.args.self.now.arena.now) + (10 + 4 * c.args.g) =
    (let e : c.from-in-loop-p.result * c.record_bytes-width.result ≡ c.loop-p.p * record_bytes (g.A.Arena.meaning c.args.self.now.arena.now) = cc in omega arith)
    in
    let four : length c.copy_from_slice.new.self ≡ 4 = omega (arith, c.copy_from_slice.ensures.len) in (
      rows_kept (entry m) (record_bytes m) m.size (10 + 4 * c.args.g) 4 p at (at + 4 - at) c.loop-p.records c.copy_from_slice.new.self (omega arith) (omega (arith, c.requires.records)) (omega arith) place (omega arith) four
          c.loop-p.invariant.0,
      rows_more (entry m) (record_bytes m) m.size (10 + 4 * c.args.g) 4 p at (at + 4 - at) c.loop-p.records c.copy_from_slice.new.self (omega arith) (omega (arith, c.requires.records)) (omega arith) place (omega arith) four
          c.loop-p.invariant.1 c.loop-p.invariant.0
          (λ i s. ap (λ (xs : List ℕ). get_or xs i 0) c.copy_from_slice.ensures.after ∙ c.goal-goal.ensures i s),
    )
