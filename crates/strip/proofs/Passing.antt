-- A strip's fault that a `?` hands on unchanged.
use Rattle.std.proofs.Common.{◌≡◌, IsErrAnd, Some, Result, ap, ◌∙◌}
use Rattle.std.proofs.lemmas.Result.{err_from_is_err_and}
use Rattle.strip.specs.declared.faults.StripFault.{StripFault}
use Rattle.strip.specs.Refusals.{place_of}

pub passed_on : (r : Result (Unit {0}) StripFault) (e : StripFault) → IsErrAnd r (λ f. f ≡ e) → place_of r ≡ Some e.place
passed_on r e h = let p = err_from_is_err_and r h in ap place_of p.1 ∙ ap (λ f. Some f.place) p.2
