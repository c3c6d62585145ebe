use Rattle.std.proofs.Common.{subst}
use Rattle.sheet.specs.Fits.{Fits}
use Rattle.sheet.proofs.Fitting.{fits}
use Rattle.sheet.proofs.sheet.Sheet.size.Goals as goal

pub returns-clause-fits : goal.returns-clause-fits
returns-clause-fits c = subst Fits c.self.view_is (fits c.self.inside c.self.invariant)
