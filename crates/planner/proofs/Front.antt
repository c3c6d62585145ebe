-- A strip's fault is found within as many bytes as the longest strip has and one more: what follows is not looked at.
use Rattle.std.proofs.Common.{◌≡◌, ℕ, zero, suc, ◌+◌, ◌-◌, ◌<◌, ◌≤◌, Bool, true, false, cond, ◌&&◌, eqb, ltb, leb, List, [], ◌∷◌, ◌++◌, map, length, Some, None, Option, sym, refl, ap, ◌∙◌, ⊎_elim, arith}
use Rattle.std.specs.List.{AllByRecursion}
use Rattle.std.proofs.ByRecursion.{All-append}
use Rattle.std.proofs.lemmas.Bool.{and_right, cases_lt, cond-true, le-leb, lt-leb, lt-ltb}
use Rattle.std.proofs.lemmas.List.{length-append, get_or_append_left}
use Rattle.arena.specs.Bytes.{byte, number}
use Rattle.arena.specs.Refusals.{Outcome, require_none, accepted}
use Rattle.arena.specs.Sets.{from, upto, concat, between, least}
use Rattle.strip.specs.Strip.{Field, first_wrong, or_else, size, goals, row_at, move_at, move_field, front_fields, record_fields, row_fields, head_fields, end_at, end_fields, fields, trailing, fault, bare, drawn}
use Rattle.strip.specs.Parts.{rows_wrong, fault_parts}
use Rattle.strip.specs.Faults.{sound, all_concat}
use Rattle.planner.specs.Answer.{deciding, answer_text, RestUnread}

-- lists of equal things are equal
same_map : {X : Type 0} (f g : ℕ → X) (i c : ℕ) → ((j : ℕ) → i ≤ j → j < i + c → f j ≡ g j) → map f (from i c) ≡ map g (from i c)
same_map f g i zero h = refl
same_map f g i (suc c) h =
    let first = h i (omega arith) (omega arith) in
    let rest = same_map f g (i + 1) c (λ j a b. h j (omega arith) (omega arith)) in
    cc

same_concat : {X : Type 0} (f g : ℕ → List X) (i c : ℕ) → ((j : ℕ) → i ≤ j → j < i + c → f j ≡ g j) → concat f (from i c) ≡ concat g (from i c)
same_concat f g i zero h = refl
same_concat f g i (suc c) h =
    let first = h i (omega arith) (omega arith) in
    let rest = same_concat f g (i + 1) c (λ j a b. h j (omega arith) (omega arith)) in
    cc

all_map : {X : Type 0} (P : X → Type 0) (f : ℕ → X) (i c : ℕ) → ((j : ℕ) → i ≤ j → j < i + c → P (f j)) → AllByRecursion P (map f (from i c))
all_map P f i zero h = tt
all_map P f i (suc c) h = (h i (omega arith) (omega arith), all_map P f (i + 1) c (λ j a b. h j (omega arith) (omega arith)))

-- what is looked at after the head
abbrev past_head : List ℕ → Option ℕ
past_head bs = or_else (rows_wrong bs 0) (or_else (first_wrong bs (end_fields bs)) (trailing bs))

module _ (bs more : List ℕ) (long : deciding ≤ length bs) where
  abbrev whole : List ℕ
  whole = bs ++ more

  same_byte : (i : ℕ) → i < deciding → byte whole i ≡ byte bs i
  same_byte i l = get_or_append_left bs more 0 i (omega arith)

  same_number : (i : ℕ) → i + 1 < deciding → number whole i ≡ number bs i
  same_number i l = let a = same_byte i (omega arith) in let b = same_byte (i + 1) l in cc

  -- a field that lies in front
  abbrev Front : Field → Type 0
  Front f = f.offset + f.width ≤ deciding

  same_wrong : (fs : List Field) → AllByRecursion Front fs → first_wrong whole fs ≡ first_wrong bs fs
  same_wrong [] h = refl
  same_wrong (f ∷ fs) h =
      let rest = same_wrong fs h.1 in
      let l : f.offset + f.width ≤ deciding = h.0 in
      let more' = length-append bs more in
      let a = le-leb (f.offset + f.width) (length whole) (omega arith) in
      let b = le-leb (f.offset + f.width) (length bs) (omega arith) in
      cc

  same_size : size whole ≡ size bs
  same_size = same_number 2 (omega arith)

  same_goals : goals whole ≡ goals bs
  same_goals = same_number 4 (omega arith)

  same_head : head_fields whole ≡ head_fields bs
  same_head =
      let a = same_byte 0 (omega arith) in
      let b = same_byte 1 (omega arith) in
      let n = same_size in
      let k = same_goals in
      cc

  -- the fields of a strip of at most 512 positions lie in front
  module _ (few : size bs ≤ 512) where
    same_move : (o : ℕ) → o + 38 ≤ deciding → (j : ℕ) → 0 ≤ j → j < 0 + 16 → move_field whole (size bs) o j ≡ move_field bs (size bs) o j
    same_move o l j a b =
        let count = same_number (o + 4) (omega arith) in
        let here = same_number (move_at o j) (omega arith) in
        let last = same_number (move_at o j - 2) (omega arith) in
        cc

    same_front : (o : ℕ) → o + 38 ≤ deciding → front_fields whole (goals bs) o ≡ front_fields bs (goals bs) o
    same_front o l =
        let a = same_byte o (omega arith) in
        let b = same_byte (o + 1) (omega arith) in
        let c = same_byte (o + 2) (omega arith) in
        let d = same_byte (o + 3) (omega arith) in
        let e = same_number (o + 4) (omega arith) in
        cc

    same_record : (o : ℕ) → o + 38 ≤ deciding → record_fields whole (size bs) (goals bs) o ≡ record_fields bs (size bs) (goals bs) o
    same_record o l =
        let a = same_front o l in
        let b = same_map (move_field whole (size bs) o) (move_field bs (size bs) o) 0 16 (same_move o l) in
        ap (λ xs. xs ++ map (move_field whole (size bs) o) (upto 16)) a ∙ ap (λ xs. front_fields bs (goals bs) o ++ xs) b

    same_row : (p : ℕ) → 0 ≤ p → p < 0 + size bs → row_fields whole p ≡ row_fields bs p
    same_row p a b =
        ap (λ n. record_fields whole n (goals whole) (row_at p)) same_size
        ∙ ap (λ k. record_fields whole (size bs) k (row_at p)) same_goals
        ∙ same_record (row_at p) (omega arith)

    same_end : end_fields whole ≡ end_fields bs
    same_end =
        let n = same_size in
        let a = same_byte (end_at bs) (omega arith) in
        let b = same_byte (end_at bs + 1) (omega arith) in
        let c = same_number (end_at bs + 2) (omega arith) in
        cc

    same_fields : fields whole ≡ fields bs
    same_fields =
        let rows = same_concat (row_fields whole) (row_fields bs) 0 (size bs) same_row in
        ap (λ xs. xs ++ (concat (row_fields whole) (upto (size whole)) ++ end_fields whole)) same_head
        ∙ ap (λ xs. head_fields bs ++ (concat (row_fields whole) (upto (size whole)) ++ xs)) same_end
        ∙ ap (λ n. head_fields bs ++ (concat (row_fields whole) (upto n) ++ end_fields bs)) same_size
        ∙ ap (λ xs. head_fields bs ++ (xs ++ end_fields bs)) rows

    in_front : AllByRecursion Front (fields bs)
    in_front = (
      omega arith,
      (
        omega arith,
        (
          omega arith,
          All-append Front (concat (row_fields bs) (upto (size bs))) (end_fields bs)
              (all_concat Front (row_fields bs) 0 (size bs)
              (λ p a b. (
                omega arith,
                (omega arith, (omega arith, (omega arith, all_map Front (move_field bs (size bs) (row_at p)) 0 16 (λ j c d. omega arith)))),
              )))
              (omega arith, (omega arith, tt)),
        ),
      ),
    )

    same_trailing : trailing whole ≡ trailing bs
    same_trailing =
        let n = same_size in
        let l = length-append bs more in
        let a = lt-ltb (end_at whole + 4) (length whole) (omega arith) in
        let b = lt-ltb (end_at bs + 4) (length bs) (omega arith) in
        let c = cond-true (ltb (end_at whole + 4) (length whole)) (Some (end_at whole + 4)) None a in
        let d = cond-true (ltb (end_at bs + 4) (length bs)) (Some (end_at bs + 4)) None b in
        cc

    same_fault : fault whole ≡ fault bs
    same_fault =
        ap (λ fs. or_else (first_wrong whole fs) (trailing whole)) same_fields
        ∙ ap (λ x. or_else x (trailing whole)) (same_wrong (fields bs) in_front)
        ∙ ap (or_else (first_wrong bs (fields bs))) same_trailing

  -- a head with more positions is wrong, in the mark or in that number
  head_in_front : AllByRecursion Front (head_fields bs)
  head_in_front = (omega arith, (omega arith, (omega arith, tt)))

  too_many : 512 < size bs → (place : ℕ) × (first_wrong bs (head_fields bs) ≡ Some place)
  too_many l =
      let b = and_right (leb 4 (length bs)) (between 1 512 (size bs)) (and_right (leb 1 (size bs)) (leb (size bs) 512) (lt-leb (size bs) 512 l)) in
      let goals-field : Option ℕ = first_wrong bs ((record { offset = 4; width = 2; right = between 1 8 (goals bs) }) ∷ []) in
      go (leb 2 (length bs) && (eqb (byte bs 0) 0x47 && eqb (byte bs 1) 0x48)) (leb 4 (length bs) && between 1 512 (size bs)) goals-field b
    where
      go : (a b : Bool) (rest : Option ℕ) → b ≡ false → (place : ℕ) × (cond a (cond b rest (Some 2)) (Some 0) ≡ Some place)
      go true true rest e = let z : ◌≡◌ {A = ℕ} 0 1 = cc in absurd (omega arith)
      go true false rest e = (2, refl)
      go false b rest e = (0, refl)

  decided : (x y z : Option ℕ) (place : ℕ) → x ≡ Some place → or_else x y ≡ or_else x z
  decided x y z place e = ap (λ o. or_else o y) e ∙ sym (ap (λ o. or_else o z) e)

  same_fault_always : fault whole ≡ fault bs
  same_fault_always =
      ⊎_elim
      (λ (l : 512 < size bs).
      let head = ap (first_wrong whole) same_head ∙ same_wrong (head_fields bs) head_in_front in
      let r = too_many l in
      fault_parts whole
      ∙ ap (λ x. or_else x (past_head whole)) head
      ∙ decided (first_wrong bs (head_fields bs)) (past_head whole) (past_head bs) r.0 r.1
      ∙ sym (fault_parts bs))
      (λ (l : size bs ≤ 512). same_fault l)
      (cases_lt 512 (size bs))

  -- so long an input has a fault
  has_fault : fault bs ≡ None → ⊥
  has_fault e = let s = sound bs e in omega (arith, s.long, s.size_high)

refused_alike : {A : Type 0} (x y : Option ℕ) (next last : Outcome A) → x ≡ y → (y ≡ None → ⊥) → require_none x 13 next ≡ require_none y 13 last
refused_alike x None next last e h = absurd (h refl)
refused_alike x (Some place) next last e h = ap (λ o. require_none o 13 next) e

pub rest_unread : (bs : List ℕ) → RestUnread bs
rest_unread bs long more =
    ap answer_text
    (refused_alike (fault (bs ++ more)) (fault bs) (require_none (least (bare (bs ++ more)) (size (bs ++ more))) 11 (accepted (drawn (bs ++ more)))) (require_none (least (bare bs) (size bs)) 11 (accepted (drawn bs)))
    (same_fault_always bs more long) (has_fault bs more long))
