use Rattle.std.proofs.Common.{◌≡◌, ℕ, ◌<◌, Bool, drop, slice_index}
use Rattle.arena.specs.Arena.{moves_answer}
use Rattle.arena.specs.Certificate.{no_move}
use Rattle.arena.specs.Owners.{owner_number}
use Rattle.arena.specs.Sets.{first}
use Rattle.arena.proofs.Basics.{In}
use Rattle.solver.specs.Deciding.{StepsBelow, decision}
use Rattle.solver.proofs.decide.decide.Given as goal

abbrev pub invariant-loop-q : goal.invariant-loop-q
invariant-loop-q g l =
    (goal.iterator-loop-q g).can_next l.moves
    × (goal.iterator-loop-q g).is_finite l.moves
    × ((x : ℕ) → In x (drop l.moves.next (moves_answer (g.A.Arena.meaning l.moves.arena.now) l.moves.position)) → x < (g.A.Arena.meaning l.a).size)
    × ((test : ℕ → ℕ → Bool) → StepsBelow (g.A.Arena.meaning l.a).size (goal.F-post g l.is_qualified) test → first (test l.p) no_move (drop l.moves.next (moves_answer (g.A.Arena.meaning l.moves.arena.now) l.moves.position)) ≡ first (test l.p) no_move ((g.A.Arena.meaning l.a).moves l.p))

abbrev pub invariant-positions : goal.invariant-positions
invariant-positions g l =
    (test : ℕ → ℕ → Bool) → StepsBelow (g.A.Arena.meaning l.a).size (goal.F-post g l.is_qualified) test
    → (k : ℕ) → k < l.p → slice_index l.steps k ≡ decision (g.A.Arena.meaning l.a) (owner_number l.side) test k
