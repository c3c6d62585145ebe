-- The sides of an accepted certificate are the winning sides: each side's table wins where the certificate gives it the
-- position, and no position is won by both.
use Rattle.std.proofs.Common.{◌≡◌, ℕ, zero, suc, ◌<◌, ◌↔◌, List, inl, inr, arith}
use Rattle.arena.specs.Arena.{Meaning, Lawful}
use Rattle.arena.specs.Play.{Wins}
use Rattle.control.specs.Promise.{Accepted, SidesWin}
use Rattle.arena.specs.Certificate.{side_of, goal_of, stage_of, approach_of, move_of, rank_of, goal_move_of}
use Rattle.control.proofs.Judge.{sides, holds, serves}
use Rattle.control.proofs.Hold.{hold_wins}
use Rattle.control.proofs.Serve.{serve_wins}
use Rattle.arena.proofs.Strategies.{never_both}

module _ (m : Meaning) (law : Lawful m) (bs : List ℕ) (acc : Accepted m bs) (p : ℕ) (below : p < m.size) where
  wins_zero : side_of m bs p ≡ 0 → Wins m 0 p
  wins_zero s = serve_wins m law (side_of m bs) (rank_of m bs) (goal_move_of m bs) (serves m bs acc) p s

  wins_one : side_of m bs p ≡ 1 → Wins m 1 p
  wins_one s = hold_wins m law (side_of m bs) (goal_of m bs) (stage_of m bs) (approach_of m bs) (move_of m bs) (holds m bs acc) p s

  clash : Wins m 0 p → Wins m 1 p → ⊥
  clash a b = never_both m law a.0 b.0 p below a.1 b.1

  by_side : (side : ℕ) → side < 2 → (side_of m bs p ≡ side) ↔ Wins m side p
  by_side zero lt = (wins_zero, λ w. elim (sides m bs acc p below) [ inl s ↦ s | inr s ↦ absurd (clash w (wins_one s)) ])
  by_side (suc zero) lt = (wins_one, λ w. elim (sides m bs acc p below) [ inl s ↦ absurd (clash (wins_zero s) w) | inr s ↦ s ])
  by_side (suc (suc s)) lt = absurd (omega arith)

pub sides_win : (m : Meaning) → Lawful m → (bs : List ℕ) → Accepted m bs → SidesWin m bs
sides_win m law bs acc p below side lt = by_side m law bs acc p below side lt
