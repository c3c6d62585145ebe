-- Solving in memories that are exactly as long as it takes.
use Rattle.std.proofs.Common.{◌≡◌, ℕ, ◌<◌, ◌≤◌, true, leb, List, ◌++◌, length, drop, ap, ◌∙◌, append-nil, arith}
use Rattle.std.proofs.lemmas.List.{drop_all}
use Rattle.std.proofs.lemmas.Bool.{and_from, le-leb}
use Rattle.arena.specs.Refusals.{accepted, after}
use Rattle.arena.specs.Arena.{Meaning, Lawful}
use Rattle.arena.specs.Certificate.{certificate_bytes}
use Rattle.arena.proofs.Basics.{accepted_injective}
use Rattle.report.specs.Plan.{plan_text}
use Rattle.solver.specs.Certificate.{certificate}
use Rattle.solver.specs.Solution.{controlled, stages}
use Rattle.solver.specs.Solve.{work_numbers, enough, solve, bytes_after}
use Rattle.solver.proofs.Accepting.{solved_is_accepted}
use Rattle.planner.specs.Answer.{planned_text}

module _ (m : Meaning) (law : Lawful m) (some : 0 < m.size) (few : m.size ≤ 4096) (aimed : 0 < m.goals) (aims : m.goals ≤ 8)
    (bytes work : List ℕ) (fits : length bytes ≡ certificate_bytes m) (room : length work ≡ work_numbers m) where
  exact : enough m bytes work ≡ true
  exact =
      and_from (leb (certificate_bytes m) (length bytes)) (leb (work_numbers m) (length work))
      (le-leb (certificate_bytes m) (length bytes) (omega arith)) (le-leb (work_numbers m) (length work) (omega arith))

  solves : solve m bytes work ≡ accepted (controlled m, stages m)
  solves = (solved_is_accepted m law some few aimed aims bytes work exact).0

  writes : bytes_after m bytes work ≡ certificate m
  writes =
      ap (λ o. after o (certificate m ++ drop (certificate_bytes m) bytes) bytes) solves
      ∙ ap (λ xs. certificate m ++ xs) (drop_all (certificate_bytes m) bytes (omega arith))
      ∙ append-nil (certificate m)

  -- the plan by what solve answers and writes
  pub planned : (c s : ℕ) (bs : List ℕ) → accepted (c, s) ≡ solve m bytes work → bs ≡ bytes_after m bytes work → plan_text m bs c s ≡ planned_text m
  planned c s bs answer written =
      let both = accepted_injective (c, s) (controlled m, stages m) (answer ∙ solves) in
      λ i. plan_text m ((written ∙ writes) i) (both i).0 (both i).1
