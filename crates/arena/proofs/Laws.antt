-- Two facts that follow from the laws of an arena and that all proofs of plays use.
use Rattle.std.proofs.Common.{◌≡◌, ℕ, zero, suc, ◌<◌, ◌⊎◌, refl, subst, inl, inr, arith}
use Rattle.arena.specs.Arena.{Meaning, Lawful}
use Rattle.arena.specs.Play.{Move}
use Rattle.arena.proofs.Basics.{in_at}

-- a move of a position of the arena leads to one
pub move_inside : (m : Meaning) → Lawful m → (p q : ℕ) → p < m.size → Move m p q → q < m.size
move_inside m law p q below mv =
    let r = in_at q (m.moves p) mv in
    subst (λ x. x < m.size) r.2 (law.below p r.0 below r.1)

-- an owner is one of two
pub owners : (m : Meaning) → Lawful m → (p : ℕ) → p < m.size → (m.owner p ≡ 0) ⊎ (m.owner p ≡ 1)
owners m law p below = go (m.owner p) (law.owned p below)
  where
    go : (o : ℕ) → o < 2 → (o ≡ 0) ⊎ (o ≡ 1)
    go zero h = inl refl
    go (suc zero) h = inr refl
    go (suc (suc o)) h = absurd (omega arith)
