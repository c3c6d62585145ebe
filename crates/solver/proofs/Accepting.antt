-- What solve writes is accepted. The fields of the certificate are the solution's, each clause is a fact that the solution
-- has, and the certificate's length is what check asks; the bytes after it are as they were.
use Rattle.std.proofs.Common.{◌≡◌, ℕ, suc, ◌+◌, ◌<◌, ◌≤◌, Bool, true, false, cond, not, ◌&&◌, ◌||◌, eqb, ltb, ◌⊎◌, List, [], ◌∷◌, ◌++◌, length, take, drop, Some, None, sym, refl, ap, ◌∙◌, subst, inl, inr, arith}
use lib.Seq.{take-append_seam}
use Rattle.std.proofs.lemmas.Bool.{both_ways, not-true, not_from_false, eqb-true, eq-eqb, ne_eqb, lt-ltb, cases_Bool, and_parts, and_from, cond-true, cond-false}
use Rattle.arena.specs.Refusals.{Outcome, accepted, require, after}
use Rattle.arena.specs.Arena.{Meaning, Lawful}
use Rattle.arena.specs.Sets.{all, elem, upto}
use Rattle.solver.specs.Solution.{final, stage, given_up, approach, goal_rank, nearer, good_step, goal_move, traffic_move, controlled, stages}
use Rattle.arena.specs.Bytes.{byte, number}
use Rattle.arena.specs.Certificate.{record_start, side_of, goal_of, stage_of, approach_of, move_of, rank_of, goal_move_of, certificate_bytes, no_move}
use Rattle.solver.specs.Certificate.{certificate}
use Rattle.control.specs.Accept.{mark, fit, first_failing, failing, head_right, end_right, nearer_of, good_step_of, same, unheld, unserved, unserved_for, shaped, ranked, ranked_for, steered, steered_for, carried, carried_for, clauses, walk, ours, given, judged, checked}
use Rattle.solver.specs.Solve.{enough, solve, bytes_after}
use Rattle.solver.specs.Accepted.{SolvedIsAccepted}
use Rattle.arena.proofs.Basics.{In, Yes, No, Passed, unless, all_from, in_head, in_tail, upto_in, count_same, require_true, sized_passes}
use Rattle.arena.proofs.Laws.{move_inside}
use Rattle.solver.proofs.Decisions.{rank_small, rank_marked, marked_rank, all_nearer, goal_move_other, goal_move_own, all_good, given_up_small, given_up_unmarked, traffic_move_other, traffic_move_own}
use Rattle.solver.proofs.Bytes.{Reads, reads, Fields, fields}

-- a test of equal numbers is one test
same_two : (W : ℕ → ℕ → Bool) (a b c d : ℕ) → a ≡ c → b ≡ d → W a b ≡ W c d
same_two W a b c d e f = cc

same_six : (W : ℕ → ℕ → ℕ → ℕ → ℕ → ℕ → Bool) (a b c d e f a' b' c' d' e' f' : ℕ) → a ≡ a' → b ≡ b' → c ≡ c' → d ≡ d' → e ≡ e' → f ≡ f' → W a b c d e f ≡ W a' b' c' d' e' f'
same_six W a b c d e f a' b' c' d' e' f' g h i j k l = cc

same_true : (x b : Bool) → (x ≡ true → b ≡ true) → (b ≡ true → x ≡ true) → same x b ≡ true
same_true true b f g = f refl
same_true false true f g = absurd (both_ways false refl (g refl))
same_true false false f g = refl

none_failing : (i : ℕ) (cs : List Bool) → Passed cs → first_failing i cs ≡ None
none_failing i [] h = refl
none_failing i (b ∷ cs) h = cond-true b (first_failing (suc i) cs) (Some i) h.0 ∙ none_failing (suc i) cs h.1

failing_none : (p i : ℕ) (cs : List Bool) (next : Outcome ℕ) → Passed cs → failing p (first_failing i cs) next ≡ next
failing_none p i cs next h = ap (λ o. failing p o next) (none_failing i cs h)

-- a mark that is there
mark_true : (bs : List ℕ) (i second : ℕ) → byte bs i ≡ 0x43 → byte bs (i + 1) ≡ second → mark bs i second ≡ true
mark_true bs i second e f = and_from (eqb (byte bs i) 0x43) (eqb (byte bs (i + 1)) second) (eq-eqb (byte bs i) 0x43 e) (eq-eqb (byte bs (i + 1)) second f)

module _ (m : Meaning) (bs : List ℕ) where
  walk_through : (ps : List ℕ) (next : Outcome ℕ) → ((p : ℕ) → In p ps → Passed (clauses m bs p)) → walk m bs ps next ≡ next
  walk_through [] next h = refl
  walk_through (p ∷ ps) next h = failing_none p 3 (clauses m bs p) (walk m bs ps next) (h p (in_head p ps)) ∙ walk_through ps next (λ q i. h q (in_tail q p ps i))

module _ (m : Meaning) (law : Lawful m) (bs : List ℕ) (fs : (p : ℕ) → p < m.size → Fields m bs p) where
  given_to : (p : ℕ) → p < m.size → side_of m bs p ≡ 0 → Yes (final m) p
  given_to p b e = elim (cases_Bool (final m p)) [ inl y ↦ y | inr y ↦ absurd (let k = ((fs p b).traffics y).side in omega arith) ]

  taken_from : (p : ℕ) → p < m.size → side_of m bs p ≡ 1 → No (final m) p
  taken_from p b e = elim (cases_Bool (final m p)) [ inl y ↦ absurd (let k = ((fs p b).controllers y).side in omega arith) | inr y ↦ y ]

  nearer_read : (g p q : ℕ) → g < m.goals → p < m.size → Yes (final m) p → q < m.size → nearer m g p q ≡ true → nearer_of m bs g p q ≡ true
  nearer_read g p q l b y c h =
      let t = and_parts (final m q) _ h in
      let u = (fs q c).controllers t.0 in
      and_from (eqb (side_of m bs q) 0) _ (eq-eqb (side_of m bs q) 0 u.side)
      (same_two (λ i j. eqb i 0 || ltb j i) (rank_of m bs g p) (rank_of m bs g q) (goal_rank m g p) (goal_rank m g q) (((fs p b).controllers y).rank g l) (u.rank g l) ∙ t.1)

  good_read : (p q : ℕ) → p < m.size → No (final m) p → q < m.size → good_step m p q ≡ true → good_step_of m bs p q ≡ true
  good_read p q b y c h =
      let t = and_parts (not (final m q)) _ h in
      let u = (fs q c).traffics (not-true (final m q) t.0) in
      let v = (fs p b).traffics y in
      and_from (eqb (side_of m bs q) 1) _ (eq-eqb (side_of m bs q) 1 u.side)
      (same_six (λ sq sp gq gp aq a. ltb sq sp || (eqb sq sp && eqb gq gp && (ltb aq a || (eqb a 0 && eqb aq 0))))
      (stage_of m bs q) (stage_of m bs p) (goal_of m bs q) (goal_of m bs p) (approach_of m bs q) (approach_of m bs p)
      (stage m q) (stage m p) (given_up m q) (given_up m p) (approach m q) (approach m p)
      u.stage_is v.stage_is u.goal v.goal u.approach_is v.approach_is ∙ t.1)

  module _ (p : ℕ) (b : p < m.size) where
    is_shaped : shaped m bs p ≡ true
    is_shaped = and_from (mark bs (record_start m p) 0x50) _ (mark_true bs (record_start m p) 0x50 (fs p b).mark.0 (fs p b).mark.1) (go (cases_Bool (final m p)))
      where
        X : Bool
        X = unheld m bs p

        Y : Bool
        Y = eqb (side_of m bs p) 1 && ltb 0 (stage_of m bs p) && ltb (goal_of m bs p) m.goals && unserved m bs p

        go : (final m p ≡ true) ⊎ (final m p ≡ false) → cond (eqb (side_of m bs p) 0) X Y ≡ true
        go (inl y) =
            let c = (fs p b).controllers y in
            cond-true (eqb (side_of m bs p) 0) X Y (eq-eqb (side_of m bs p) 0 c.side)
            ∙ and_from (eqb (goal_of m bs p) 0 && eqb (stage_of m bs p) 0 && eqb (approach_of m bs p) 0) _
            (and_from (eqb (goal_of m bs p) 0 && eqb (stage_of m bs p) 0) _
            (and_from (eqb (goal_of m bs p) 0) (eqb (stage_of m bs p) 0) (eq-eqb (goal_of m bs p) 0 c.goal) (eq-eqb (stage_of m bs p) 0 c.stage))
            (eq-eqb (approach_of m bs p) 0 c.approach))
            (eq-eqb (move_of m bs p) 0 c.move)
        go (inr y) =
            let c = (fs p b).traffics y in
            let s : stage_of m bs p ≡ stage m p = c.stage_is in
            let d : goal_of m bs p ≡ given_up m p = c.goal in
            let k : given_up m p < m.goals = given_up_small m law p b y in
            let e : side_of m bs p ≡ 1 = c.side in
            cond-false (eqb (side_of m bs p) 0) X Y (ne_eqb (side_of m bs p) 0 (λ z. omega arith))
            ∙ and_from (eqb (side_of m bs p) 1 && ltb 0 (stage_of m bs p) && ltb (goal_of m bs p) m.goals) _
            (and_from (eqb (side_of m bs p) 1 && ltb 0 (stage_of m bs p)) _
            (and_from (eqb (side_of m bs p) 1) (ltb 0 (stage_of m bs p)) (eq-eqb (side_of m bs p) 1 e) (lt-ltb 0 (stage_of m bs p) (subst (λ x. 0 < x) (sym s) (omega arith))))
            (lt-ltb (goal_of m bs p) m.goals (subst (λ x. x < m.goals) (sym d) k)))
            (all_from (unserved_for m bs p) (upto m.goals) (λ g i. let l = upto_in m.goals g i in and_from (eqb (rank_of m bs g p) 0) _ (eq-eqb (rank_of m bs g p) 0 (c.rank g l)) (eq-eqb (goal_move_of m bs g p) 0 (c.goal_moves g l))))

    clause_rank : eqb (side_of m bs p) 0 ≡ true → ranked m bs p ≡ true
    clause_rank e = all_from (ranked_for m bs p) (upto m.goals) (λ g i. each g (upto_in m.goals g i))
      where
        y : Yes (final m) p
        y = given_to p b (eqb-true (side_of m bs p) 0 e)

        each : (g : ℕ) → g < m.goals → (ltb (rank_of m bs g p) m.size && same (eqb (rank_of m bs g p) 0) (m.marked p g)) ≡ true
        each g l =
            let q : rank_of m bs g p ≡ goal_rank m g p = ((fs p b).controllers y).rank g l in
            and_from (ltb (rank_of m bs g p) m.size) _
            (lt-ltb (rank_of m bs g p) m.size (subst (λ x. x < m.size) (sym q) (rank_small m law g l p y)))
            (same_true (eqb (rank_of m bs g p) 0) (m.marked p g)
            (λ z. rank_marked m law g l p y (sym q ∙ eqb-true (rank_of m bs g p) 0 z))
            (λ z. eq-eqb (rank_of m bs g p) 0 (q ∙ marked_rank m law g l p y z)))

    clause_own : (eqb (side_of m bs p) 0 && eqb (m.owner p) 0) ≡ true → steered m bs p ≡ true
    clause_own e = all_from (steered_for m bs p) (upto m.goals) (λ g i. each g (upto_in m.goals g i))
      where
        t : (eqb (side_of m bs p) 0 ≡ true) × (eqb (m.owner p) 0 ≡ true)
        t = and_parts (eqb (side_of m bs p) 0) (eqb (m.owner p) 0) e

        y : Yes (final m) p
        y = given_to p b (eqb-true (side_of m bs p) 0 t.0)

        each : (g : ℕ) → g < m.goals → (elem (goal_move_of m bs g p) (m.moves p) && nearer_of m bs g p (goal_move_of m bs g p)) ≡ true
        each g l =
            let q : goal_move_of m bs g p ≡ goal_move m g p = ((fs p b).controllers y).goal_moves g l in
            let r = goal_move_own m law g l p y (eqb-true (m.owner p) 0 t.1) in
            subst (λ x. (elem x (m.moves p) && nearer_of m bs g p x) ≡ true) (sym q)
            (and_from (elem (goal_move m g p) (m.moves p)) _ r.0 (nearer_read g p (goal_move m g p) l b y (move_inside m law p (goal_move m g p) b r.0) r.1))

    clause_other : (eqb (side_of m bs p) 0 && eqb (m.owner p) 1) ≡ true → carried m bs p ≡ true
    clause_other e = all_from (carried_for m bs p) (upto m.goals) (λ g i. each g (upto_in m.goals g i))
      where
        t : (eqb (side_of m bs p) 0 ≡ true) × (eqb (m.owner p) 1 ≡ true)
        t = and_parts (eqb (side_of m bs p) 0) (eqb (m.owner p) 1) e

        y : Yes (final m) p
        y = given_to p b (eqb-true (side_of m bs p) 0 t.0)

        o : m.owner p ≡ 1
        o = eqb-true (m.owner p) 1 t.1

        each : (g : ℕ) → g < m.goals → (eqb (goal_move_of m bs g p) no_move && all (nearer_of m bs g p) (m.moves p)) ≡ true
        each g l =
            and_from (eqb (goal_move_of m bs g p) no_move) _
            (eq-eqb (goal_move_of m bs g p) no_move (((fs p b).controllers y).goal_moves g l ∙ goal_move_other m law g l p o))
            (all_from (nearer_of m bs g p) (m.moves p) (λ q i. nearer_read g p q l b y (move_inside m law p q b i) (all_nearer m law g l p y o q i)))

    clause_unmarked : (eqb (side_of m bs p) 1 && eqb (approach_of m bs p) 0) ≡ true → not (m.marked p (goal_of m bs p)) ≡ true
    clause_unmarked e =
        let t = and_parts (eqb (side_of m bs p) 1) (eqb (approach_of m bs p) 0) e in
        let y = taken_from p b (eqb-true (side_of m bs p) 1 t.0) in
        let c = (fs p b).traffics y in
        not_from_false (m.marked p (goal_of m bs p))
        (ap (λ g. m.marked p g) c.goal ∙ given_up_unmarked m law p b y (sym c.approach_is ∙ eqb-true (approach_of m bs p) 0 t.1))

    clause_held : (eqb (side_of m bs p) 1 && eqb (m.owner p) 1) ≡ true → (elem (move_of m bs p) (m.moves p) && good_step_of m bs p (move_of m bs p)) ≡ true
    clause_held e =
        let t = and_parts (eqb (side_of m bs p) 1) (eqb (m.owner p) 1) e in
        let y = taken_from p b (eqb-true (side_of m bs p) 1 t.0) in
        let c = (fs p b).traffics y in
        let r = traffic_move_own m law p b y (eqb-true (m.owner p) 1 t.1) in
        subst (λ x. (elem x (m.moves p) && good_step_of m bs p x) ≡ true) (sym c.move)
        (and_from (elem (traffic_move m p) (m.moves p)) _ r.0 (good_read p (traffic_move m p) b y (move_inside m law p (traffic_move m p) b r.0) r.1))

    clause_kept : (eqb (side_of m bs p) 1 && eqb (m.owner p) 0) ≡ true → (eqb (move_of m bs p) no_move && all (good_step_of m bs p) (m.moves p)) ≡ true
    clause_kept e =
        let t = and_parts (eqb (side_of m bs p) 1) (eqb (m.owner p) 0) e in
        let y = taken_from p b (eqb-true (side_of m bs p) 1 t.0) in
        let o = eqb-true (m.owner p) 0 t.1 in
        let c = (fs p b).traffics y in
        and_from (eqb (move_of m bs p) no_move) _
        (eq-eqb (move_of m bs p) no_move (c.move ∙ traffic_move_other m law p o))
        (all_from (good_step_of m bs p) (m.moves p) (λ q i. good_read p q b y (move_inside m law p q b i) (all_good m law p b y o q i)))

    clauses_pass : Passed (clauses m bs p)
    clauses_pass = (
      is_shaped,
      (
        unless (eqb (side_of m bs p) 0) _ clause_rank,
        (
          unless (eqb (side_of m bs p) 0 && eqb (m.owner p) 0) _ clause_own,
          (
            unless (eqb (side_of m bs p) 0 && eqb (m.owner p) 1) _ clause_other,
            (
              unless (eqb (side_of m bs p) 1 && eqb (approach_of m bs p) 0) _ clause_unmarked,
              (
                unless (eqb (side_of m bs p) 1 && eqb (m.owner p) 1) _ clause_held,
                (unless (eqb (side_of m bs p) 1 && eqb (m.owner p) 0) _ clause_kept, tt),
              ),
            ),
          ),
        ),
      ),
    )

  given_controlled : given m bs ≡ controlled m
  given_controlled = count_same (ours m bs) (final m) (upto m.size) (λ p i. each p (upto_in m.size p i))
    where
      each : (p : ℕ) → p < m.size → eqb (side_of m bs p) 0 ≡ final m p
      each p b = go (cases_Bool (final m p))
        where
          go : (final m p ≡ true) ⊎ (final m p ≡ false) → eqb (side_of m bs p) 0 ≡ final m p
          go (inl y) = eq-eqb (side_of m bs p) 0 ((fs p b).controllers y).side ∙ sym y
          go (inr y) = ne_eqb (side_of m bs p) 0 (λ z. let k = ((fs p b).traffics y).side in omega arith) ∙ sym y

  walks : walk m bs (upto m.size) (accepted (given m bs)) ≡ accepted (controlled m)
  walks = walk_through m bs (upto m.size) (accepted (given m bs)) (λ p i. clauses_pass p (upto_in m.size p i)) ∙ ap accepted given_controlled

module _ (m : Meaning) (bs : List ℕ) (r : Reads m bs) where
  head_is_right : head_right m bs ≡ true
  head_is_right =
      let h = r.head in
      and_from (mark bs 0 0x48 && eqb (number bs 2) m.size) _
      (and_from (mark bs 0 0x48) (eqb (number bs 2) m.size) (mark_true bs 0 0x48 h.0 h.1) (eq-eqb (number bs 2) m.size h.2))
      (eq-eqb (number bs 4) m.goals h.3)

  end_is_right : end_right m bs ≡ true
  end_is_right =
      let h = r.end in
      let e : ℕ = record_start m m.size in
      and_from (mark bs e 0x45) _ (mark_true bs e 0x45 h.0 h.1) (eq-eqb (number bs (e + 2)) m.size h.2)

  read_accepted : Lawful m → 0 < m.size → m.size ≤ 4096 → 0 < m.goals → m.goals ≤ 8 → checked m bs ≡ accepted (controlled m)
  read_accepted law a b c d =
      sized_passes m (require (fit m bs) 3 (judged m bs)) a b c d
      ∙ require_true (fit m bs) 3 (judged m bs) (eq-eqb (length bs) (certificate_bytes m) r.long)
      ∙ failing_none 0 1 (head_right m bs ∷ end_right m bs ∷ []) (walk m bs (upto m.size) (accepted (given m bs))) (head_is_right, (end_is_right, tt))
      ∙ walks m law bs (fields m bs r)

pub solved_is_accepted : (m : Meaning) → Lawful m → SolvedIsAccepted m
solved_is_accepted m law a b c d bytes work room = (solves, ap (checked m) begins ∙ read_accepted m (certificate m) (reads m) law a b c d)
  where
    solves : solve m bytes work ≡ accepted (controlled m, stages m)
    solves = sized_passes m (require (enough m bytes work) 3 (accepted (controlled m, stages m))) a b c d ∙ require_true (enough m bytes work) 3 (accepted (controlled m, stages m)) room

    begins : take (certificate_bytes m) (bytes_after m bytes work) ≡ certificate m
    begins =
        ap (λ o. take (certificate_bytes m) (after o (certificate m ++ drop (certificate_bytes m) bytes) bytes)) solves
        ∙ ap (λ n. take n (certificate m ++ drop (certificate_bytes m) bytes)) (sym (reads m).long)
        ∙ take-append_seam (certificate m) (drop (certificate_bytes m) bytes)
