use Rattle.std.proofs.Common.{rules, tests}
use Rattle.arena.proofs.Chains.{all_left}
use Rattle.control.specs.Accept.{nearer_of}
use Rattle.control.proofs.record.Record.do_all_come_nearer.Goals as goal

pub returns : goal.returns
returns g c =
    all_left (nearer_of (g.A.Arena.meaning c.args.self.now.certificate.now.arena.now) c.args.self.now.certificate.now.bytes.now c.args.g c.args.self.now.position)
    c.moves.result c.all.new.self _ c.all.result _ c.all.ensures.ran c.moves.ensures (λ x b q k. search (rules, tests))
