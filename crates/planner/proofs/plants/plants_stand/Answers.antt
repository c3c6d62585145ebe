use Rattle.std.proofs.Common.{refl}
use Rattle.planner.proofs.plants.plants_stand.Goals as goal

pub returns : goal.returns
returns c =
    ((refl, refl, refl), (refl, refl, refl), (refl, refl, refl, refl), (refl, refl, refl, refl), (refl, refl), refl, refl, refl)
