use Rattle.std.proofs.Common.{take, drop, ap, ◌∙◌}
use Rattle.std.proofs.lemmas.List.{take_min, drop_min}
use Rattle.strip.proofs.reader.split.Goals as goal

pub returns-clause-front : goal.returns-clause-front
returns-clause-front c = let bs = c.args.bytes.now in c.split_at.ensures.front ∙ ap (λ n. take n bs) c.min.ensures ∙ take_min c.args.n bs

pub returns-clause-back : goal.returns-clause-back
returns-clause-back c = let bs = c.args.bytes.now in c.split_at.ensures.back ∙ ap (λ n. drop n bs) c.min.ensures ∙ drop_min c.args.n bs
