-- Solving what open or close has answered: an arena is solved, and at a refusal, which is handed on, both memories stay.
use Rattle.std.proofs.Common.{◌≡◌, ℕ, List, [], ◌∷◌, sym, refl, ap, ◌∙◌, arith}
use Rattle.arena.specs.Refusals.{Outcome, accepted, refused, done, told}
use Rattle.arena.specs.Arena.{Meaning}
use Rattle.solver.specs.Solve.{solve, bytes_after, work_after}
use Rattle.sheet_faults.specs.Refusals.{close_refusal}
use Rattle.sheet_faults.specs.declared.faults.CloseFault.{CloseFault}
use Rattle.sheet_faults.specs.declared.faults.CloseFault.TheVariants as close
use Rattle.strip.specs.Refusals.{open_refusal}
use Rattle.strip.specs.declared.faults.OpenFault.{OpenFault}
use Rattle.strip.specs.declared.faults.OpenFault.TheVariants as open'
use Rattle.planner.specs.Solving.{solve_answered, answered_bytes, answered_work}

-- what solving then answers and leaves
pub record Gives (o : Outcome Meaning) (bytes work : List ℕ) (answered : Outcome (ℕ × ℕ)) (bytes' work' : List ℕ) : Type 0 where
  pub answer : answered ≡ solve_answered o bytes work
  pub bytes_are : bytes' ≡ answered_bytes o bytes work
  pub work_is : work' ≡ answered_work o bytes work

pub solved : (o : Outcome Meaning) (m m' : Meaning) (bytes work : List ℕ) → o ≡ accepted m → m' ≡ m
    → Gives o bytes work (solve m' bytes work) (bytes_after m' bytes work) (work_after m' bytes work)
solved o m m' bytes work e held =
    record {
      answer = ap (λ x. solve x bytes work) held ∙ sym (ap (λ y. solve_answered y bytes work) e);
      bytes_are = ap (λ x. bytes_after x bytes work) held ∙ sym (ap (λ y. answered_bytes y bytes work) e);
      work_is = ap (λ x. work_after x bytes work) held ∙ sym (ap (λ y. answered_work y bytes work) e);
    }

stays : (o : Outcome Meaning) (bytes work : List ℕ) (n : ℕ) (names : List ℕ) → refused n names ≡ told (λ _. done) o → Gives o bytes work (refused n names) bytes work
stays (accepted m) bytes work n names e = let z : ◌≡◌ {A = ℕ} 0 1 = cc in absurd (omega arith)
stays (refused n' names') bytes work n names e = record { answer = cc; bytes_are = refl; work_is = refl }

pub open_stays : (o : Outcome Meaning) (bytes work : List ℕ) (f : OpenFault) → open_refusal f ≡ told (λ _. done) o → Gives o bytes work (open_refusal f) bytes work
open_stays o bytes work (open'.Strip fault) e = stays o bytes work 13 (fault.place ∷ []) e
open_stays o bytes work (open'.NoMoves p) e = stays o bytes work 11 (p ∷ []) e

pub close_stays : (o : Outcome Meaning) (bytes work : List ℕ) (f : CloseFault) → close_refusal f ≡ told (λ _. done) o → Gives o bytes work (close_refusal f) bytes work
close_stays o bytes work (close.RowOut p) e = stays o bytes work 10 (p ∷ []) e
close_stays o bytes work (close.NoMoves p) e = stays o bytes work 11 (p ∷ []) e
