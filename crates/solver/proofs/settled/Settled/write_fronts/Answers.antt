use Rattle.std.proofs.Common.{◌≡◌, ◌<◌, ℕ, ◌+◌, ◌-◌, ◌*◌, List, get_or, ap, ◌∙◌, arith}
use Rattle.arena.specs.Certificate.{record_bytes}
use Rattle.solver.specs.Certificate.{entry}
use Rattle.solver.proofs.Parts.{rows_apart, rows_more}
use Rattle.solver.proofs.settled.Settled.write_fronts.Goals as goal

pub slice_bounds-copy_from_slice-end : goal.slice_bounds-copy_from_slice-end
slice_bounds-copy_from_slice-end g c =
    let m = (g.A.Arena.meaning c.args.self.now.arena.now) in
    let e : c.from.result * c.record_bytes-width.result ≡ c.loop-p.p * record_bytes (g.A.Arena.meaning c.args.self.now.arena.now) = cc in
    let below : c.loop-p.p < (g.A.Arena.meaning c.args.self.now.arena.now).size = omega arith in
    omega (arith, rows_apart c.loop-p.p m.size (record_bytes m) below, c.requires.records)

pub loop-p-preserved : goal.loop-p-preserved
loop-p-preserved g c q o h l =
    let m = (g.A.Arena.meaning c.args.self.now.arena.now) in
    let p = c.loop-p.p in
    let at = c.from.result * c.record_bytes-width.result in
    let place : c.from.result * c.record_bytes-width.result ≡ c.loop-p.p * record_bytes (g.A.Arena.meaning c.args.self.now.arena.now) + 0 =
    (let e : c.from.result * c.record_bytes-width.result ≡ c.loop-p.p * record_bytes (g.A.Arena.meaning c.args.self.now.arena.now) = cc in omega arith)
    in
    rows_more (entry m) (record_bytes m) m.size 0 10 p at (at + 10 - at) c.loop-p.records c.copy_from_slice.new.self (omega arith) (omega (arith, c.requires.records)) (omega arith) place (omega arith)
    (omega (arith, c.copy_from_slice.ensures.len))
    (λ r i b s. c.loop-p.invariant r i b (omega arith))
    (λ r i b s. absurd (omega arith))
    (λ i s. ap (λ (xs : List ℕ). get_or xs i 0) c.copy_from_slice.ensures.after ∙ c.front-front.ensures i s)
    q o h (omega arith)
