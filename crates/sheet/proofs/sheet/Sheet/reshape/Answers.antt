use Rattle.std.proofs.Common.{ℕ, vec_len, sym, subst, arith}
use Rattle.sheet.specs.Slots.{Below, Marked}
use Rattle.sheet.proofs.Keeping.{empties_below, empties_marked}
use Rattle.sheet.proofs.Fitting.{fits}
use Rattle.sheet.proofs.sheet.Sheet.reshape.Goals as goal

pub invariant_of-self : goal.invariant_of-self
invariant_of-self c =
    let n : ℕ = vec_len c.fill_empty.new.slots in
    let few = c.requires.positions in
    let goals = c.requires.goals in
    let len = c.fill_empty.ensures.len in
    record {
      goaled = goals.0;
      bounded = goals.1;
      drawn = omega (arith, few.0, len);
      few = omega (arith, few.1, len);
      room = omega (arith, c.fill_empty.ensures.cap);
      below = subst (Below n) (sym c.fill_empty.ensures.drawn) (empties_below n c.args.n);
      marked = subst (Marked n c.args.k) (sym c.fill_empty.ensures.drawn) (empties_marked n c.args.n c.args.k);
    }

pub returns-clause-fits : goal.returns-clause-fits
returns-clause-fits c = fits _ (invariant_of-self c)
