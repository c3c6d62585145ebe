use Rattle.std.proofs.Common.{◌≡◌, IfOk, string_bytes, sym, ap, ◌∙◌, subst}
use Rattle.solver.specs.Refused.{outcome}
use Rattle.planner.proofs.Solved.{planned}
use Rattle.planner.proofs.program.plan_in.Goals as goal

pub returns : goal.returns
returns g c =
    let m = g.A.Arena.meaning c.args.arena.now in
    let law = g.A.Arena.lawful c.args.arena.now in
    let pre = c.requires in
    let answer = ap outcome (sym c.unwrap-controlled.ensures) ∙ c.solve.ensures.answer in
    let same =
    planned m law pre.some pre.few pre.aimed pre.aims c.args.certificate.now c.args.work.now pre.fits pre.room
    c.unwrap-controlled.result.0 c.unwrap-controlled.result.1 c.solve.new.certificate answer c.solve.ensures.bytes
    in
    subst (λ text. IfOk c.plan.result (λ t. string_bytes t ≡ text)) same c.plan.ensures
