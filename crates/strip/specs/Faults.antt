-- What it says that a strip has no fault: every field is there and right, and no byte follows the end. Either way the list
-- of fields is gone through, and each field's test is a fact on the bytes there. These are proofs; they stand beside the
-- definitions since an opened strip carries the laws of an arena as a proof.
use Rattle.std.specs.Prelude.{◌≡◌, ℕ, zero, suc, ◌+◌, ◌-◌, ◌*◌, ◌^◌, ◌<◌, ◌≤◌, Bool, true, false, cond, ◌&&◌, ◌||◌, List, [], ◌∷◌, ◌++◌, map, length, Some, None, Option, ◌==◌, nat_le, nat_lt, refl}
use Rattle.std.proofs.Common.{sym, ◌∙◌, ap, subst, ⊎_elim, arith}
use Rattle.std.specs.List.{AllByRecursion}
use Rattle.std.proofs.ByRecursion.{All-append}
use Rattle.std.proofs.lemmas.Bool.{cases_eq, cases_lt, and_parts, and_from, or_cases, or_left, or_right, eqb-true, eq-eqb, ltb-true, lt-ltb, le-ltb, leb-true, le-leb, cond-true, cond-false}
use Rattle.arena.specs.Sets.{concat, from, upto}
use Rattle.arena.specs.Bytes.{byte, number}
use Rattle.arena.proofs.Basics.{between_parts}
use Rattle.strip.specs.Strip.{Field, or_else, stands, first_wrong, size, goals, row_at, move_at, moves_at, move_right, move_field, record_fields, row_fields, end_at, end_fields, fields, trailing, fault}

-- facts of all elements of lists put together
all_split : {X : Type 0} (P : X → Type 0) (xs ys : List X) → AllByRecursion P (xs ++ ys) → AllByRecursion P xs × AllByRecursion P ys
all_split P [] ys h = (tt, h)
all_split P (x ∷ xs) ys h = let r : AllByRecursion P xs × AllByRecursion P ys = all_split P xs ys h.1 in ((h.0, r.0), r.1)

pub all_concat : {X : Type 0} (P : X → Type 0) (f : ℕ → List X) (i c : ℕ) → ((p : ℕ) → i ≤ p → p < i + c → AllByRecursion P (f p)) → AllByRecursion P (concat f (from i c))
all_concat P f i zero h = tt
all_concat P f i (suc c) h = All-append P (f i) (concat f (from (i + 1) c)) (h i (omega arith) (omega arith)) (all_concat P f (i + 1) c (λ p a b. h p (omega arith) (omega arith)))

all_concat_at : {X : Type 0} (P : X → Type 0) (f : ℕ → List X) (i c : ℕ) → AllByRecursion P (concat f (from i c)) → (p : ℕ) → i ≤ p → p < i + c → AllByRecursion P (f p)
all_concat_at P f i zero h p a b = absurd (omega arith)
all_concat_at P f i (suc c) h p a b =
    let r : AllByRecursion P (f i) × AllByRecursion P (concat f (from (i + 1) c)) = all_split P (f i) (concat f (from (i + 1) c)) h in
    ⊎_elim
    (λ (e : i ≡ p). subst (λ (z : ℕ). AllByRecursion P (f z)) e r.0)
    (λ (ne : i ≡ p → ⊥). all_concat_at P f (i + 1) c r.1 p (omega arith) (omega arith))
    (cases_eq i p)

all_map_from : {X : Type 0} (P : X → Type 0) (f : ℕ → X) (i c : ℕ) → ((p : ℕ) → i ≤ p → p < i + c → P (f p)) → AllByRecursion P (map f (from i c))
all_map_from P f i zero h = tt
all_map_from P f i (suc c) h = (h i (omega arith) (omega arith), all_map_from P f (i + 1) c (λ p a b. h p (omega arith) (omega arith)))

all_map_from_at : {X : Type 0} (P : X → Type 0) (f : ℕ → X) (i c : ℕ) → AllByRecursion P (map f (from i c)) → (p : ℕ) → i ≤ p → p < i + c → P (f p)
all_map_from_at P f i zero h p a b = absurd (omega arith)
all_map_from_at P f i (suc c) h p a b =
    ⊎_elim
    (λ (e : i ≡ p). subst (λ (z : ℕ). P (f z)) e h.0)
    (λ (ne : i ≡ p → ⊥). all_map_from_at P f (i + 1) c h.1 p (omega arith) (omega arith))
    (cases_eq i p)

-- a field is there and right
abbrev pub Right : List ℕ → Field → Type 0
Right bs f = (f.offset + f.width ≤ length bs) × (f.right ≡ true)

module _ (bs : List ℕ) where
  none_right : (fs : List Field) → first_wrong bs fs ≡ None → AllByRecursion (Right bs) fs
  none_right [] e = tt
  none_right (f ∷ fs) e = none_step f fs (stands bs f) refl e (none_right fs)
    where
      none_step : (f : Field) (fs : List Field) (b : Bool) → stands bs f ≡ b → cond b (first_wrong bs fs) (Some f.offset) ≡ None
          → (first_wrong bs fs ≡ None → AllByRecursion (Right bs) fs) → AllByRecursion (Right bs) (f ∷ fs)
      none_step f fs true q e r =
          let a : (nat_le (f.offset + f.width) (length bs) ≡ true) × (f.right ≡ true) = and_parts (nat_le (f.offset + f.width) (length bs)) f.right q in
          ((leb-true (f.offset + f.width) (length bs) a.0, a.1), r e)
      none_step f fs false q e r = let z : ◌≡◌ {A = ℕ} 0 1 = cc in absurd (omega arith)

  right_none : (fs : List Field) → AllByRecursion (Right bs) fs → first_wrong bs fs ≡ None
  right_none [] h = refl
  right_none (f ∷ fs) h =
      cond-true (stands bs f) (first_wrong bs fs) (Some f.offset)
      (and_from (nat_le (f.offset + f.width) (length bs)) f.right (le-leb (f.offset + f.width) (length bs) h.0.0) h.0.1)
      ∙ right_none fs h.1

  none_trailing : trailing bs ≡ None → length bs ≤ end_at bs + 4
  none_trailing e =
      ⊎_elim
      (λ (h : end_at bs + 4 < length bs).
      let k : Some (end_at bs + 4) ≡ None = sym (cond-true (nat_lt (end_at bs + 4) (length bs)) (Some (end_at bs + 4)) None (lt-ltb (end_at bs + 4) (length bs) h)) ∙ e in
      let z : ◌≡◌ {A = ℕ} 0 1 = cc in
      absurd (omega arith))
      (λ h. h)
      (cases_lt (end_at bs + 4) (length bs))

-- the fields of the record at offset o, in a strip of n positions and k goals, in plain words
pub record RowRight (bs : List ℕ) (n k o : ℕ) : Type 0 where
  pub mark_0 : byte bs o ≡ 0x47
  pub mark_1 : byte bs (o + 1) ≡ 0x50
  pub owned : byte bs (o + 2) ≤ 1
  pub marks : byte bs (o + 3) < 2 ^ k
  pub few : moves_at bs o ≤ 16
  pub below : (j : ℕ) → j < 16 → j < moves_at bs o → number bs (move_at o j) < n
  pub rising : (j : ℕ) → j < 16 → j < moves_at bs o → 0 < j → number bs (move_at o j - 2) < number bs (move_at o j)
  pub rest : (j : ℕ) → j < 16 → moves_at bs o ≤ j → number bs (move_at o j) ≡ 0

-- a strip without a fault, in plain words
pub record Sound (bs : List ℕ) : Type 0 where
  pub long : length bs ≡ 6 + 38 * size bs + 4
  pub mark_0 : byte bs 0 ≡ 0x47
  pub mark_1 : byte bs 1 ≡ 0x48
  pub size_low : 0 < size bs
  pub size_high : size bs ≤ 512
  pub goals_low : 0 < goals bs
  pub goals_high : goals bs ≤ 8
  pub rows : (p : ℕ) → p < size bs → RowRight bs (size bs) (goals bs) (row_at p)
  pub end_0 : byte bs (end_at bs) ≡ 0x47
  pub end_1 : byte bs (end_at bs + 1) ≡ 0x45
  pub again : number bs (end_at bs + 2) ≡ size bs

module _ (bs : List ℕ) (n k o : ℕ) where
  -- the two tests of a move that is used, and the one of a move that is not
  abbrev rises : ℕ → Bool
  rises j = j == 0 || nat_lt (number bs (move_at o j - 2)) (number bs (move_at o j))

  abbrev used : ℕ → Bool
  used j = nat_lt (number bs (move_at o j)) n && rises j

  abbrev unused : ℕ → Bool
  unused j = number bs (move_at o j) == 0

  move_below : (j : ℕ) → move_right bs n o j ≡ true → j < moves_at bs o
      → (number bs (move_at o j) < n) × (0 < j → number bs (move_at o j - 2) < number bs (move_at o j))
  move_below j e l =
      let a : used j ≡ true = sym (cond-true (nat_lt j (moves_at bs o)) (used j) (unused j) (lt-ltb j (moves_at bs o) l)) ∙ e in
      let b : (nat_lt (number bs (move_at o j)) n ≡ true) × (rises j ≡ true) = and_parts (nat_lt (number bs (move_at o j)) n) (rises j) a in (
        ltb-true (number bs (move_at o j)) n b.0,
        λ pos.
            ⊎_elim
            (λ (z : j == 0 ≡ true). let zz : j ≡ 0 = eqb-true j 0 z in absurd (omega arith))
            (λ (z : nat_lt (number bs (move_at o j - 2)) (number bs (move_at o j)) ≡ true). ltb-true (number bs (move_at o j - 2)) (number bs (move_at o j)) z)
            (or_cases (j == 0) (nat_lt (number bs (move_at o j - 2)) (number bs (move_at o j))) b.1),
      )

  move_rest : (j : ℕ) → move_right bs n o j ≡ true → moves_at bs o ≤ j → number bs (move_at o j) ≡ 0
  move_rest j e l =
      eqb-true (number bs (move_at o j)) 0 (sym (cond-false (nat_lt j (moves_at bs o)) (used j) (unused j) (le-ltb j (moves_at bs o) l)) ∙ e)

  move_is_right : (j : ℕ) → (j < moves_at bs o → number bs (move_at o j) < n)
      → (j < moves_at bs o → 0 < j → number bs (move_at o j - 2) < number bs (move_at o j))
      → (moves_at bs o ≤ j → number bs (move_at o j) ≡ 0) → move_right bs n o j ≡ true
  move_is_right j f g h =
      ⊎_elim
      (λ (l : j < moves_at bs o).
      cond-true (nat_lt j (moves_at bs o)) (used j) (unused j) (lt-ltb j (moves_at bs o) l)
      ∙ and_from (nat_lt (number bs (move_at o j)) n) (rises j) (lt-ltb (number bs (move_at o j)) n (f l))
      (⊎_elim
      (λ (z : j < 1). or_left (j == 0) (nat_lt (number bs (move_at o j - 2)) (number bs (move_at o j))) (eq-eqb j 0 (omega arith)))
      (λ (z : 1 ≤ j).
      or_right (j == 0) (nat_lt (number bs (move_at o j - 2)) (number bs (move_at o j)))
      (lt-ltb (number bs (move_at o j - 2)) (number bs (move_at o j)) (g l z)))
      (cases_lt j 1)))
      (λ (l : moves_at bs o ≤ j).
      cond-false (nat_lt j (moves_at bs o)) (used j) (unused j) (le-ltb j (moves_at bs o) l) ∙ eq-eqb (number bs (move_at o j)) 0 (h l))
      (cases_lt j (moves_at bs o))

  row_right : AllByRecursion (Right bs) (record_fields bs n k o) → RowRight bs n k o
  row_right h =
      let m : ((byte bs o == 0x47) ≡ true) × ((byte bs (o + 1) == 0x50) ≡ true) = and_parts (byte bs o == 0x47) (byte bs (o + 1) == 0x50) h.0.1 in
      let each : (j : ℕ) → j < 16 → move_right bs n o j ≡ true =
      λ j l. (all_map_from_at (Right bs) (move_field bs n o) 0 16 h.1.1.1.1 j (omega arith) (omega arith)).1 in
      record {
        mark_0 = eqb-true (byte bs o) 0x47 m.0;
        mark_1 = eqb-true (byte bs (o + 1)) 0x50 m.1;
        owned = leb-true (byte bs (o + 2)) 1 h.1.0.1;
        marks = ltb-true (byte bs (o + 3)) (2 ^ k) h.1.1.0.1;
        few = leb-true (moves_at bs o) 16 h.1.1.1.0.1;
        below = λ j l m. (move_below j (each j l) m).0;
        rising = λ j l m pos. (move_below j (each j l) m).1 pos;
        rest = λ j l m. move_rest j (each j l) m;
      }

  pub record_right : first_wrong bs (record_fields bs n k o) ≡ None → RowRight bs n k o
  record_right e = row_right (none_right bs (record_fields bs n k o) e)

  right_row : o + 38 ≤ length bs → RowRight bs n k o → AllByRecursion (Right bs) (record_fields bs n k o)
  right_row room h = (
    (omega arith, and_from (byte bs o == 0x47) (byte bs (o + 1) == 0x50) (eq-eqb (byte bs o) 0x47 h.mark_0) (eq-eqb (byte bs (o + 1)) 0x50 h.mark_1)),
    (
      (omega arith, le-leb (byte bs (o + 2)) 1 h.owned),
      (
        (omega arith, lt-ltb (byte bs (o + 3)) (2 ^ k) h.marks),
        (
          (omega arith, le-leb (moves_at bs o) 16 h.few),
          all_map_from (Right bs) (move_field bs n o) 0 16
              (λ j a b. (omega arith, move_is_right j (h.below j (omega arith)) (h.rising j (omega arith)) (h.rest j (omega arith)))),
        ),
      ),
    ),
  )

  -- a record whose fields are all right, and all there
  pub sound_record : o + 38 ≤ length bs → RowRight bs n k o → first_wrong bs (record_fields bs n k o) ≡ None
  sound_record room h = right_none bs (record_fields bs n k o) (right_row room h)

-- what two searches found, one after the other, is nothing only if neither found anything
pub none_of_two : (x y : Option ℕ) → or_else x y ≡ None → (x ≡ None) × (y ≡ None)
none_of_two None y e = (refl, e)
none_of_two (Some place) y e = let z : ◌≡◌ {A = ℕ} 0 1 = cc in absurd (omega arith)

module _ (bs : List ℕ) where
  pub sound : fault bs ≡ None → Sound bs
  sound e =
      let parts : (first_wrong bs (fields bs) ≡ None) × (trailing bs ≡ None) = none_of_two (first_wrong bs (fields bs)) (trailing bs) e in
      let h : AllByRecursion (Right bs) (fields bs) = none_right bs (fields bs) parts.0 in
      let s : AllByRecursion (Right bs) (concat (row_fields bs) (upto (size bs))) × AllByRecursion (Right bs) (end_fields bs) =
      all_split (Right bs) (concat (row_fields bs) (upto (size bs))) (end_fields bs) h.1.1.1 in
      let m : ((byte bs 0 == 0x47) ≡ true) × ((byte bs 1 == 0x48) ≡ true) = and_parts (byte bs 0 == 0x47) (byte bs 1 == 0x48) h.0.1 in
      let n = between_parts 1 512 (size bs) h.1.0.1 in
      let k = between_parts 1 8 (goals bs) h.1.1.0.1 in
      let t : ((byte bs (end_at bs) == 0x47) ≡ true) × ((byte bs (end_at bs + 1) == 0x45) ≡ true) =
      and_parts (byte bs (end_at bs) == 0x47) (byte bs (end_at bs + 1) == 0x45) s.1.0.1 in
      let low : end_at bs + 2 + 2 ≤ length bs = s.1.1.0.0 in
      let high : length bs ≤ end_at bs + 4 = none_trailing bs parts.1 in
      record {
        long = omega (arith, low, high);
        mark_0 = eqb-true (byte bs 0) 0x47 m.0;
        mark_1 = eqb-true (byte bs 1) 0x48 m.1;
        size_low = n.0;
        size_high = n.1;
        goals_low = k.0;
        goals_high = k.1;
        rows = λ p l. row_right bs (size bs) (goals bs) (row_at p) (all_concat_at (Right bs) (row_fields bs) 0 (size bs) s.0 p (omega arith) (omega arith));
        end_0 = eqb-true (byte bs (end_at bs)) 0x47 t.0;
        end_1 = eqb-true (byte bs (end_at bs + 1)) 0x45 t.1;
        again = eqb-true (number bs (end_at bs + 2)) (size bs) s.1.1.0.1;
      }

  all_right : Sound bs → AllByRecursion (Right bs) (fields bs)
  all_right h =
      let long : length bs ≡ 6 + 38 * size bs + 4 = h.long in (
        (omega (arith, long), and_from (byte bs 0 == 0x47) (byte bs 1 == 0x48) (eq-eqb (byte bs 0) 0x47 h.mark_0) (eq-eqb (byte bs 1) 0x48 h.mark_1)),
        (
          (omega (arith, long), and_from (nat_le 1 (size bs)) (nat_le (size bs) 512) (le-leb 1 (size bs) h.size_low) (le-leb (size bs) 512 h.size_high)),
          (
            (omega (arith, long), and_from (nat_le 1 (goals bs)) (nat_le (goals bs) 8) (le-leb 1 (goals bs) h.goals_low) (le-leb (goals bs) 8 h.goals_high)),
            All-append (Right bs) (concat (row_fields bs) (upto (size bs))) (end_fields bs)
                (all_concat (Right bs) (row_fields bs) 0 (size bs)
                (λ p a b. right_row bs (size bs) (goals bs) (row_at p) (omega (arith, long)) (h.rows p (omega arith)))) (
                  (
                    omega (arith, long),
                    and_from (byte bs (end_at bs) == 0x47) (byte bs (end_at bs + 1) == 0x45) (eq-eqb (byte bs (end_at bs)) 0x47 h.end_0) (eq-eqb (byte bs (end_at bs + 1)) 0x45 h.end_1),
                  ),
                  ((omega (arith, long), eq-eqb (number bs (end_at bs + 2)) (size bs) h.again), tt),
                ),
          ),
        ),
      )

  pub no_fault : Sound bs → fault bs ≡ None
  no_fault h =
      let none : first_wrong bs (fields bs) ≡ None = right_none bs (fields bs) (all_right h) in
      let last : trailing bs ≡ None = cond-false (nat_lt (end_at bs + 4) (length bs)) (Some (end_at bs + 4)) None (le-ltb (end_at bs + 4) (length bs) (omega (arith, h.long))) in
      ap (λ x. or_else x (trailing bs)) none ∙ last
