use Rattle.std.proofs.Common.{◌≡◌, map, vec_items, vec_len, sym, ap, ◌∙◌, subst, arith, rules}
use Rattle.arena.specs.Sets.{upto}
use Rattle.strip.specs.Strip.{size, goals, row_read}
use Rattle.strip.specs.Faults.{sound}
use Rattle.strip.specs.RoundTrip.{Bytes}
use Rattle.sheet.specs.Sheets.{Sheet, all_in, strip_of}
use Rattle.sheet.specs.SheetModel.{sheet_of}
use Rattle.sheet.specs.Slots.{Below, Marked, rows_of}
use Rattle.sheet.proofs.Trips.{read, read_below, read_marked, read_writes}
use Rattle.sheet.proofs.Fitting.{fits}
use Rattle.sheet.proofs.sheet.Sheet.replace.Goals as goal

pub invariant_of-self : goal.invariant_of-self
invariant_of-self c =
    let bs = c.args.strip.now in
    let h = sound bs c.requires in
    let bytes : Bytes bs = λ i l. omega (arith, c.type_inv.strip i) in
    let drawn = rows_of (vec_items c.fill_read.new.slots) in
    let len : vec_len c.fill_read.new.slots ≡ size bs = c.fill_read.ensures.len ∙ c.number_at.ensures in
    let rows : drawn ≡ read bs bytes c.requires = c.fill_read.ensures.drawn ∙ ap (λ n. map (row_read bs) (upto n)) c.number_at.ensures in
    let k : c.number_at-self-inside.result ≡ goals bs = c.number_at-self-inside.ensures in
    record {
      goaled = omega (arith, h.goals_low, k);
      bounded = omega (arith, h.goals_high, k);
      drawn = omega (arith, h.size_low, len);
      few = omega (arith, h.size_high, len);
      room = omega (arith, c.fill_read.ensures.cap, c.self.invariant.room);
      below = subst (λ n. Below n drawn) (sym len) (subst (Below (size bs)) (sym rows) (read_below bs bytes c.requires));
      marked = subst (λ n. Marked n c.number_at-self-inside.result drawn) (sym len)
          (subst (λ g. Marked (size bs) g drawn) (sym k) (subst (Marked (size bs) (goals bs)) (sym rows) (read_marked bs bytes c.requires)));
    }

pub returns-clause-back : goal.returns-clause-back
returns-clause-back c =
    let bs = c.args.strip.now in
    let bytes : Bytes bs = λ i l. omega (arith, c.type_inv.strip i) in
    let same : ◌≡◌ {A = Sheet} (sheet_of (record { goals = c.number_at-self-inside.result; slots = c.fill_read.new.slots })) (all_in (size bs) (goals bs) (read bs bytes c.requires)) = search rules in
    ap strip_of same ∙ read_writes bs bytes c.requires

pub returns-clause-fits : goal.returns-clause-fits
returns-clause-fits c = fits _ (invariant_of-self c)
