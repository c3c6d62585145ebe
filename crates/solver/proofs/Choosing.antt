-- Decisions: the lowest move that passes, found move by move, and what the columns say of it is what the solution says.
use Rattle.std.proofs.Common.{◌≡◌, ℕ, ◌+◌, ◌<◌, ◌≢◌, Bool, true, false, cond, not, ◌&&◌, eqb, ltb, List, [], ◌∷◌, length, get_or, set, sym, refl, ap, ◌∙◌, subst, below_more, arith}
use Rattle.std.proofs.lemmas.List.{get_or-set_same, get_or-set_other}
use Rattle.std.proofs.lemmas.Bool.{cond-true, cond-false, lt-ltb}
use Rattle.arena.specs.Arena.{Meaning, Lawful, moves_answer}
use Rattle.arena.specs.Sets.{first}
use Rattle.arena.specs.Certificate.{no_move}
use Rattle.arena.proofs.Basics.{In, in_head, in_tail}
use Rattle.arena.proofs.Laws.{move_inside}
use Rattle.solver.specs.Solution.{stages, final, stage, good_step, traffic_move}
use Rattle.solver.specs.Columns.{present}
use Rattle.solver.specs.Memory.{Settled}
use Rattle.solver.specs.Deciding.{decision}
use Rattle.solver.proofs.Dividing.{present_left}

pub moves_there : (m : Meaning) (p : ℕ) → p < m.size → moves_answer m p ≡ m.moves p
moves_there m p h = cond-true (ltb p m.size) (m.moves p) [] (lt-ltb p m.size h)

-- the moves from p on that are left, rest, in a search for the first that passes
module _ (m : Meaning) (law : Lawful m) (p : ℕ) (below : p < m.size) (rest : List ℕ) where
  pub left_all : rest ≡ moves_answer m p → (x : ℕ) → In x rest → x < m.size
  left_all e x i = move_inside m law p x below (subst (In x) (e ∙ moves_there m p below) i)

  pub left_first : rest ≡ moves_answer m p → (test : ℕ → Bool) → first test no_move rest ≡ first test no_move (m.moves p)
  left_first e test = ap (first test no_move) (e ∙ moves_there m p below)

  pub fewer_first : (q : ℕ) (after : List ℕ) (test : ℕ → Bool) → rest ≡ q ∷ after → test q ≡ false → first test no_move rest ≡ first test no_move (m.moves p) → first test no_move after ≡ first test no_move (m.moves p)
  fewer_first q after test e z f = sym (ap (first test no_move) e ∙ cond-false (test q) q (first test no_move after) z) ∙ f

  pub found_first : (q : ℕ) (after : List ℕ) (test : ℕ → Bool) → rest ≡ q ∷ after → test q ≡ true → first test no_move rest ≡ first test no_move (m.moves p) → q ≡ first test no_move (m.moves p)
  found_first q after test e y f = sym (ap (first test no_move) e ∙ cond-true (test q) q (first test no_move after) y) ∙ f

  pub none_first : (test : ℕ → Bool) → rest ≡ [] → first test no_move rest ≡ first test no_move (m.moves p) → no_move ≡ first test no_move (m.moves p)
  none_first test e f = sym (ap (first test no_move) e) ∙ f

-- one more decision
pub decided_more : (m : Meaning) (side : ℕ) (test : ℕ → ℕ → Bool) (p : ℕ) (steps : List ℕ) (x : ℕ) → p < length steps
    → ((k : ℕ) → k < p → get_or steps k 0 ≡ decision m side test k)
    → eqb (m.owner p) side ≡ true → x ≡ first (test p) no_move (m.moves p)
    → (k : ℕ) → k < p + 1 → get_or (set steps p x) k 0 ≡ decision m side test k
decided_more m side test p steps x h before own e =
    below_more _ p (λ k l. let ne : k ≢ p = omega arith in get_or-set_other steps p k x 0 ne ∙ before k l)
    (get_or-set_same steps p x 0 h ∙ e ∙ sym (cond-true (eqb (m.owner p) side) _ _ own))

-- the first that passes depends on the elements only
pub first_same : (f g : ℕ → Bool) (d : ℕ) (xs : List ℕ) → ((x : ℕ) → In x xs → f x ≡ g x) → first f d xs ≡ first g d xs
first_same f g d [] e = refl
first_same f g d (x ∷ xs) e =
    λ j. cond (e x (in_head x xs) j) x (first_same f g d xs (λ y i. e y (in_tail y x xs i)) j)

-- what the columns say after all stages is what the solution says
module _ (m : Meaning) (law : Lawful m) (taken goals approaches ranks : List ℕ) (s : Settled m taken goals approaches ranks) where
  pub present_final : present taken ≡ final m
  present_final = present_left m law (stages m) taken goals approaches s.taken_long s.standing

  pub stage_of : (p : ℕ) → p < m.size → final m p ≡ false → get_or taken p 0 ≡ stage m p
  stage_of p h z = s.standing.stage_is p h ∙ cond-false (final m p) 0 (stage m p) z

  -- the traffic's decision at its own positions
  pub traffic_decision : (p : ℕ) → final m p ≡ false → decision m 1 (λ p q. not (final m p) && good_step m p q) p ≡ traffic_move m p
  traffic_decision p z =
      ap (λ x. cond (eqb (m.owner p) 1) x no_move)
      (first_same (λ q. not (final m p) && good_step m p q) (good_step m p) no_move (m.moves p) (λ q i. ap (λ b. not b && good_step m p q) z))
