-- Solve, where all its tests pass: what the work memory then holds.
use Rattle.std.proofs.Common.{◌≡◌, ℕ, ◌≤◌, leb, List, ◌++◌, length, drop, replicate, sym, ap, ◌∙◌}
use Rattle.std.proofs.lemmas.Bool.{and_from, le-leb}
use Rattle.arena.specs.Refusals.{accepted, done, require, after}
use Rattle.arena.specs.Arena.{Meaning, sized}
use Rattle.arena.specs.Sets.{between}
use Rattle.arena.specs.Certificate.{certificate_bytes}
use Rattle.arena.proofs.Basics.{require_accepted}
use Rattle.solver.specs.Solution.{controlled, stages}
use Rattle.solver.specs.Solve.{work_numbers, solve, work_after}

module _ (m : Meaning) (b w : List ℕ) (passed : accepted done ≡ sized m (accepted done)) (bytes : certificate_bytes m ≤ length b) (numbers : work_numbers m ≤ length w) where
  solved : solve m b w ≡ accepted (controlled m, stages m)
  solved =
      let p = require_accepted (between 1 4096 m.size) 1 (require (between 1 8 m.goals) 2 (accepted done)) done (sym passed) in
      let q = require_accepted (between 1 8 m.goals) 2 (accepted done) done p.1 in
      let e = and_from (leb (certificate_bytes m) (length b)) (leb (work_numbers m) (length w)) (le-leb (certificate_bytes m) (length b) bytes) (le-leb (work_numbers m) (length w) numbers) in
      λ j. require (p.0 j) 1 (require (q.0 j) 2 (require (e j) 3 (accepted (controlled m, stages m))))

  -- what was used is zero, and the rest is as it was
  pub wiped : (u v : List ℕ) (used : ℕ) → used ≡ work_numbers m → u ≡ replicate used 0 ++ drop used v → drop (work_numbers m) v ≡ drop (work_numbers m) w → u ≡ work_after m b w
  wiped u v used e h same =
      h
      ∙ ap (λ n. replicate n 0 ++ drop n v) e
      ∙ ap (λ xs. replicate (work_numbers m) 0 ++ xs) same
      ∙ sym (ap (λ o. after o (replicate (work_numbers m) 0 ++ drop (work_numbers m) w) w) solved)
