-- The owners of the code by their numbers. Read after the refusals.
use Rattle.std.specs.Prelude.{◌≡◌, ℕ, ◌<◌, Result, MatchResult}
use Rattle.arena.specs.declared.owner.Owner.{Owner}
use Rattle.arena.specs.declared.owner.Owner.TheVariants.{Controller, Traffic}
use Rattle.arena.specs.declared.owner.NoOwner.{NoOwner}

-- an owner's number: 0 for the controller, 1 for the traffic
abbrev pub owner_number : Owner → ℕ
owner_number Controller = 0
owner_number Traffic = 1

-- a number names the owner whose number it is, or is above both
abbrev pub Names : ℕ → Result Owner NoOwner → Type 0
Names number r = MatchResult r (λ owner. owner_number owner ≡ number) (λ e. (e.0 ≡ number) × (1 < number))
