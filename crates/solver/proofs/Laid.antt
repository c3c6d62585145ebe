-- The certificate as it is laid out: what the columns give for a record's front and goals is what the certificate has, and
-- records that agree with it byte by byte are its.
use Rattle.std.proofs.Common.{◌≡◌, ℕ, zero, suc, ◌+◌, ◌-◌, ◌*◌, ◌<◌, ◌≤◌, Bool, true, false, cond, ◌&&◌, eqb, ◌⊎◌, List, [], ◌∷◌, length, get_or, sym, refl, ap, ◌∙◌, inl, inr, suc-mul, zero-mul, arith}
use Rattle.std.specs.List.{count_by}
use Rattle.std.proofs.lemmas.List.{ext_get_or, get_or_append_left}
use Rattle.std.proofs.lemmas.List.Sums.{sum_by-cons}
use Rattle.std.proofs.lemmas.Bool.{cases_lt, lt-ltb, cond-true, cond-false}
use Rattle.arena.specs.Arena.{Meaning, Lawful}
use Rattle.arena.specs.Sets.{from, upto, concat, count}
use Rattle.arena.specs.Certificate.{record_bytes}
use Rattle.solver.specs.Certificate.{goal_entry, controller_record, traffic_record, entry}
use Rattle.solver.specs.Solution.{controlled, final, stage, given_up, approach, goal_rank, goal_move, traffic_move}
use Rattle.solver.specs.Columns.{present}
use Rattle.solver.specs.Memory.{Settled}
use Rattle.solver.specs.Writing.{Field, Rows, front_bytes, goal_bytes}
use Rattle.solver.proofs.Records.{length_concat, concat_at}
use Rattle.solver.proofs.Bytes.{length_entry, goal_byte}
use Rattle.solver.proofs.Choosing.{present_final}

-- a place in the records is one of a record
row_split : (n w i : ℕ) → i < n * w → (p : ℕ) × (o : ℕ) × (p < n) × (o < w) × (i ≡ p * w + o)
row_split zero w i h = absurd (omega (arith, zero-mul w))
row_split (suc n) w i h = go (cases_lt i (n * w)) (row_split n w i)
  where
    go : (i < n * w) ⊎ (n * w ≤ i) → (i < n * w → (p : ℕ) × (o : ℕ) × (p < n) × (o < w) × (i ≡ p * w + o)) → (p : ℕ) × (o : ℕ) × (p < suc n) × (o < w) × (i ≡ p * w + o)
    go (inl l) ih = let r = ih l in (r.0, r.1, omega (arith, r.2), r.3, r.4)
    go (inr l) ih = (n, i - n * w, omega arith, omega (arith, suc-mul n w), omega arith)

module _ (m : Meaning) where
  -- a record's front and its goals, as bytes of the certificate
  pub entry_front : (p o : ℕ) → o < 10 → get_or (entry m p) o 0 ≡ get_or (cond (final m p) (front_bytes 0 0 0 0 0) (front_bytes 1 (given_up m p) (stage m p) (approach m p) (traffic_move m p))) o 0
  entry_front p o l = go (final m p)
    where
      go : (b : Bool) → get_or (cond b (controller_record m p) (traffic_record m p)) o 0 ≡ get_or (cond b (front_bytes 0 0 0 0 0) (front_bytes 1 (given_up m p) (stage m p) (approach m p) (traffic_move m p))) o 0
      go true = get_or_append_left (front_bytes 0 0 0 0 0) (concat (goal_entry m p) (upto m.goals)) 0 o l
      go false = get_or_append_left (front_bytes 1 (given_up m p) (stage m p) (approach m p) (traffic_move m p)) (concat (λ g. goal_bytes 0 0) (upto m.goals)) 0 o l

  pub entry_goal : (p g o : ℕ) → g < m.goals → o < 4 → get_or (entry m p) (10 + 4 * g + o) 0 ≡ get_or (cond (final m p) (goal_entry m p g) (goal_bytes 0 0)) o 0
  entry_goal p g o h l = go (final m p)
    where
      go : (b : Bool) → get_or (cond b (controller_record m p) (traffic_record m p)) (10 + 4 * g + o) 0 ≡ get_or (cond b (goal_entry m p g) (goal_bytes 0 0)) o 0
      go true = goal_byte (front_bytes 0 0 0 0 0) refl (goal_entry m p) (λ g. refl) m.goals g o h l (10 + 4 * g + o) refl
      go false = goal_byte (front_bytes 1 (given_up m p) (stage m p) (approach m p) (traffic_move m p)) refl (λ g. goal_bytes 0 0) (λ g. refl) m.goals g o h l (10 + 4 * g + o) refl

  -- records that agree with the certificate byte by byte
  pub records_are : (records : List ℕ) → length records ≡ m.size * record_bytes m → Rows m (record_bytes m) records → records ≡ concat (entry m) (upto m.size)
  records_are records long rows =
      ext_get_or 0 records (concat (entry m) (upto m.size)) (long ∙ sym (length_concat (entry m) (record_bytes m) (length_entry m) 0 m.size))
      (λ i h.
      let r = row_split m.size (record_bytes m) i (omega arith) in
      ap (λ j. get_or records j 0) r.4
      ∙ rows r.0 r.1 r.2 r.3
      ∙ sym (ap (λ j. get_or (concat (entry m) (upto m.size)) j 0) r.4 ∙ concat_at (entry m) (record_bytes m) (length_entry m) 0 m.size r.0 r.1 r.2 r.3 ∙ (let e : 0 + r.0 ≡ r.0 = omega arith in ap (λ j. get_or (entry m j) r.1 0) e)))

-- the fields of a record of either side
module _ (m : Meaning) (p : ℕ) where
  pub front_kept : final m p ≡ true → Field m p 0 10 (front_bytes 0 0 0 0 0)
  front_kept y o l =
      let e : o ≡ 0 + o = omega arith in
      sym (entry_front m p o l ∙ ap (λ (xs : List ℕ). get_or xs o 0) (cond-true (final m p) (front_bytes 0 0 0 0 0) _ y)) ∙ ap (λ i. get_or (entry m p) i 0) e

  pub front_taken : (goal stage' approach' move : ℕ) → final m p ≡ false → goal ≡ given_up m p → stage' ≡ stage m p → approach' ≡ approach m p → move ≡ traffic_move m p → Field m p 0 10 (front_bytes 1 goal stage' approach' move)
  front_taken goal stage' approach' move z a b c d o l =
      let e : o ≡ 0 + o = omega arith in
      (λ j. get_or (front_bytes 1 (a j) (b j) (c j) (d j)) o 0)
      ∙ sym (entry_front m p o l ∙ ap (λ (xs : List ℕ). get_or xs o 0) (cond-false (final m p) _ (front_bytes 1 (given_up m p) (stage m p) (approach m p) (traffic_move m p)) z))
      ∙ ap (λ i. get_or (entry m p) i 0) e

  pub goal_kept : (g rank move : ℕ) → g < m.goals → final m p ≡ true → rank ≡ goal_rank m g p → move ≡ goal_move m g p → Field m p (10 + 4 * g) 4 (goal_bytes rank move)
  goal_kept g rank move goal y a b o l =
      (λ j. get_or (goal_bytes (a j) (b j)) o 0)
      ∙ sym (entry_goal m p g o goal l ∙ ap (λ (xs : List ℕ). get_or xs o 0) (cond-true (final m p) (goal_entry m p g) (goal_bytes 0 0) y))

  pub goal_taken : (g : ℕ) → g < m.goals → final m p ≡ false → Field m p (10 + 4 * g) 4 (goal_bytes 0 0)
  goal_taken g goal z o l = sym (entry_goal m p g o goal l ∙ ap (λ (xs : List ℕ). get_or xs o 0) (cond-false (final m p) (goal_entry m p g) (goal_bytes 0 0) z))

-- as many positions are counted in the column as there are in the controller's part
pub counted : (m : Meaning) (law : Lawful m) (taken goals approaches ranks : List ℕ) → Settled m taken goals approaches ranks → count_by (λ stage. eqb stage 0) taken ≡ controlled m
counted m law taken goals approaches ranks s =
    sym (from_here taken 0 (present taken) (λ k h. let e : 0 + k ≡ k = omega arith in ap (present taken) e ∙ ap (λ b. b && eqb (get_or taken k 0) 0) (lt-ltb k (length taken) h)))
    ∙ (λ j. count (present_final m law taken goals approaches ranks s j) (upto (s.taken_long j)))
  where
    from_here : (xs : List ℕ) (i : ℕ) (f : ℕ → Bool) → ((k : ℕ) → k < length xs → f (i + k) ≡ eqb (get_or xs k 0) 0) → count f (from i (length xs)) ≡ count_by (λ stage. eqb stage 0) xs
    from_here [] i f same = refl
    from_here (x ∷ xs) i f same =
        let z : i + 0 ≡ i = omega arith in
        let e : f i ≡ eqb x 0 = ap f (sym z) ∙ same 0 (omega arith) in
        let r = from_here xs (i + 1) f (λ k h. let y : i + 1 + k ≡ i + suc k = omega arith in ap f y ∙ same (suc k) (omega arith)) in
        (λ j. cond (e j) (suc (r j)) (r j)) ∙ add (eqb x 0) (count_by (λ stage. eqb stage 0) xs) ∙ sym (sum_by-cons (λ stage. cond (eqb stage 0) 1 0) x xs)
      where
        add : (b : Bool) (n : ℕ) → cond b (suc n) n ≡ cond b 1 0 + n
        add true n = omega arith
        add false n = omega arith
