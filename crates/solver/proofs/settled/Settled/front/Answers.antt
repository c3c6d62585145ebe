use Rattle.std.proofs.Common.{◌≡◌, ℕ, List, get_or, sym, ap, ◌∙◌, false, arith}
use Rattle.solver.specs.Solution.{final}
use Rattle.solver.proofs.Choosing.{stage_of}
use Rattle.solver.proofs.Decisions.{given_up_small}
use Rattle.solver.proofs.Laid.{front_kept, front_taken}
use Rattle.solver.proofs.settled.Settled.front.Goals as goal

pub returns-then-is_kept : goal.returns-then-is_kept
returns-then-is_kept g c o l =
    ap (λ (xs : List ℕ). get_or xs o 0) c.front.ensures ∙ front_kept (g.A.Arena.meaning c.args.self.now.arena.now) c.args.p (sym c.if-is_kept.ensures) o l

pub overflow_cast-goal : goal.overflow_cast-goal
overflow_cast-goal g c =
    let m = (g.A.Arena.meaning c.args.self.now.arena.now) in
    let s = c.args.self.now.settled in
    let h = c.requires.inside in
    let z : final (g.A.Arena.meaning c.args.self.now.arena.now) c.args.p ≡ false = sym c.if-is_kept.ensures in
    let e = s.standing.goal_is c.args.p h z in
    let b = given_up_small m (g.A.Arena.lawful c.args.self.now.arena.now) c.args.p h z in
    let i = ap (λ i. get_or c.args.self.now.goals.now i 0) c.from-p.ensures in
    omega (arith, s.few)

pub returns : goal.returns
returns g c o l =
    let m = (g.A.Arena.meaning c.args.self.now.arena.now) in
    let law = (g.A.Arena.lawful c.args.self.now.arena.now) in
    let s = c.args.self.now.settled in
    let h = c.requires.inside in
    let z : final (g.A.Arena.meaning c.args.self.now.arena.now) c.args.p ≡ false = sym c.if-is_kept.ensures in
    ap (λ (xs : List ℕ). get_or xs o 0) c.front-2.ensures
    ∙ front_taken m c.args.p _ _ _ _ z
    (ap (λ i. get_or c.args.self.now.goals.now i 0) c.from-p.ensures ∙ s.standing.goal_is c.args.p h z)
    (ap (λ i. get_or c.args.self.now.taken.now i 0) c.from-p.ensures ∙ stage_of m law _ _ _ _ s c.args.p h z)
    (ap (λ i. get_or c.args.self.now.approaches.now i 0) c.from-p.ensures ∙ s.standing.approach_is c.args.p h z)
    (c.requires.told z) o l
