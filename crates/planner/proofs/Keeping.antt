-- What a sheet keeps over a succession of calls with solve among them. The rows are of the code's type, so those that a
-- sheet holds have few and rising moves, and an accepted put has asked that they lead to its positions: where the sheet
-- closes, the rows draw an arena.
use Rattle.std.proofs.Common.{◌≡◌, ℕ, zero, suc, ◌^◌, ◌<◌, ◌≤◌, Bool, true, ltb, ◌⊎◌, List, [], ◌∷◌, ◌++◌, length, get_or, drop, set, replicate, None, sym, refl, ap, ◌∙◌, subst, inl, inr, ⊎_elim, arith}
use Rattle.std.proofs.lemmas.Bool.{and_parts, ltb-true, eqb-false, cases_lt}
use Rattle.arena.specs.Refusals.{Outcome, accepted, refused, Done, done, require, require_none, after, told}
use Rattle.arena.specs.Arena.{Meaning, Lawful}
use Rattle.arena.specs.Sets.{all}
use Rattle.arena.proofs.Basics.{not_refused, accepted_injective, require_accepted, require_none_accepted, least_none, get_or_all}
use Rattle.row.specs.Rows as rows
use Rattle.row.specs.Rows.{empty, meaning_of}
use Rattle.row.specs.RowModel.{row_of}
use Rattle.arena.specs.Owners.{owner_number}
use Rattle.row.specs.declared.row.Row.{Row}
use Rattle.arena.specs.declared.owner.Owner.{Owner}
use Rattle.arena.specs.declared.owner.Owner.TheVariants.{Controller, Traffic}
use Rattle.row.proofs.Moves.{Rises, moves_rise}
use Rattle.sheet.specs.Sheets.{Sheet, new, row_on, is_out, is_bare, out_to, lowest_out, lowest_bare, lent, stored, take_answer, put_answer, let_go_answer, arena_of, close_answer}
use Rattle.sheet.specs.Succession.{Call, take, put, let_go, rows_out, asked, Event, events, next, sheet_after, last_put, lent_out}
use Rattle.sheet.proofs.Successions.{Kept, kept, keeps}
use Rattle.arena.specs.Certificate.{certificate_bytes}
use Rattle.solver.specs.Certificate.{certificate}
use Rattle.solver.specs.Solve.{work_numbers, solve, bytes_after, work_after}
use Rattle.planner.specs.Solving.{answered_bytes, answered_work}
use Rattle.planner.specs.Promise.{Memories, Solved, reply_of, solve_reply, Drafted, AllDrafted, SolveIsRight, SheetsKeep}

-- a row that a sheet of n positions may hold
record Fine (n : ℕ) (r : rows.Row) : Type 0 where
  owned : r.owner < 2
  below : (j : ℕ) → j < length r.moves → get_or r.moves j 0 < n
  rising : Rises r.moves

fine_empty : (n : ℕ) → Fine n empty
fine_empty n = record { owned = omega arith; below = λ j l. absurd (omega arith); rising = λ i j l m. absurd (omega arith) }

owner_low : (o : Owner) → owner_number o < 2
owner_low Controller = omega arith
owner_low Traffic = omega arith

all_at : (f : ℕ → Bool) (xs : List ℕ) (j : ℕ) → all f xs ≡ true → j < length xs → f (get_or xs j 0) ≡ true
all_at f [] j h l = absurd (omega arith)
all_at f (x ∷ xs) zero h l = (and_parts (f x) (all f xs) h).0
all_at f (x ∷ xs) (suc j) h l = all_at f xs j (and_parts (f x) (all f xs) h).1 (omega arith)

fine_draft : (n : ℕ) (d : Row) → all (λ q. ltb q n) (row_of d).moves ≡ true → Fine n (row_of d)
fine_draft n d h =
    record {
      owned = owner_low d.owner;
      below = λ j l. ltb-true (get_or (row_of d).moves j 0) n (all_at (λ q. ltb q n) (row_of d).moves j h l);
      rising = moves_rise d;
    }

set_either : {A : Type 0} (xs : List A) (q : ℕ) (x : A) (p : ℕ) (d : A) → (get_or (set xs q x) p d ≡ x) ⊎ (get_or (set xs q x) p d ≡ get_or xs p d)
set_either [] q x p d = inr refl
set_either (y ∷ ys) zero x zero d = inl refl
set_either (y ∷ ys) zero x (suc p) d = inr refl
set_either (y ∷ ys) (suc q) x zero d = inr refl
set_either (y ∷ ys) (suc q) x (suc p) d = set_either ys q x p d

-- every row of a sheet is one that it may hold
abbrev AllFine : Sheet → Type 0
AllFine s = (p : ℕ) → Fine s.size (row_on s p)

module _ (s : Sheet) (h : AllFine s) where
  fine_lent : {A : Type 0} (o : Outcome A) (p seat : ℕ) → AllFine (after o (lent s p seat) s)
  fine_lent (accepted t) p seat = h
  fine_lent (refused n names) p seat = h

  fine_put : (seat q : ℕ) (d : Row) (o : Outcome Done) → put_answer s seat q (row_of d) ≡ o → AllFine (after o (stored s q (row_of d)) s)
  fine_put seat q d (refused n names) e = h
  fine_put seat q d (accepted t) e = λ p.
      let r = row_of d in
      let a = require_accepted (out_to s seat q) 7 (require (all (λ x. ltb x s.size) r.moves) 8 (require (ltb r.marks (2 ^ s.goals)) 9 (accepted done))) t e in
      let b = require_accepted (all (λ x. ltb x s.size) r.moves) 8 (require (ltb r.marks (2 ^ s.goals)) 9 (accepted done)) t a.1 in
      ⊎_elim
      (λ (z : get_or (set s.rows q r) p empty ≡ r). subst (Fine s.size) (sym z) (fine_draft s.size d b.0))
      (λ (z : get_or (set s.rows q r) p empty ≡ get_or s.rows p empty). subst (Fine s.size) (sym z) (h p))
      (set_either s.rows q r p empty)

  fine_next : (c : Call Memories) → Drafted c → AllFine (next s c)
  fine_next (take seat p) d = fine_lent (take_answer s seat p) p seat
  fine_next (put seat p r) d =
      subst (λ (x : rows.Row). AllFine (after (put_answer s seat p x) (stored s p x) s)) d.1 (fine_put seat p d.0 (put_answer s seat p (row_of d.0)) refl)
  fine_next (let_go seat p) d = fine_lent (let_go_answer s seat p) p 0
  fine_next rows_out d = h
  fine_next (asked memories) d = h

fine_after : (s : Sheet) (calls : List (Call Memories)) → AllDrafted calls → AllFine s → AllFine (sheet_after s calls)
fine_after s [] d h = h
fine_after s (c ∷ cs) d h = fine_after (next s c) cs d.1 (fine_next s h c d.0)

fine_new : (n k : ℕ) → AllFine (new n k)
fine_new n k = λ p. subst (Fine n) (sym (get_or_all n p empty)) (fine_empty n)

-- a sheet that closes draws an arena
lawful_closed : (s : Sheet) → AllFine s → lowest_bare s ≡ None → Lawful (arena_of s)
lawful_closed s h e =
    record {
      owned = λ p l. (h p).owned;
      some = λ p l.
          let bare = eqb-false (length (row_on s p).moves) 0 (least_none (is_bare s) s.size e p l) in
          ⊎_elim (λ (z : 0 < length (row_on s p).moves). z) (λ (z : length (row_on s p).moves ≤ 0). absurd (bare (omega arith))) (cases_lt 0 (length (row_on s p).moves));
      below = λ p j l m. (h p).below j m;
      rising = λ p i j l m n. (h p).rising i j m n;
    }

-- what an accepted solve says of what it solved
record Says (o : Outcome Meaning) (memories : Memories) (r : Solved) : Type 0 where
  arena : Meaning
  is : o ≡ accepted arena
  answers : solve arena memories.bytes memories.work ≡ accepted (r.controlled, r.stages)
  bytes_are : r.bytes ≡ bytes_after arena memories.bytes memories.work
  work_is : r.work ≡ work_after arena memories.bytes memories.work

says : (o : Outcome Meaning) (memories : Memories) (r : Solved) → reply_of o memories ≡ accepted r → Says o memories r
says (refused n names) memories r e = absurd (not_refused n names r e)
says (accepted m) memories r e = go (solve m memories.bytes memories.work) refl e
  where
    b : List ℕ
    b = bytes_after m memories.bytes memories.work

    w : List ℕ
    w = work_after m memories.bytes memories.work

    go : (a : Outcome (ℕ × ℕ)) → solve m memories.bytes memories.work ≡ a
        → told (λ x. record { controlled = x.0; stages = x.1; bytes = b; work = w }) a ≡ accepted r → Says (accepted m) memories r
    go (refused n names) f q = absurd (not_refused n names r q)
    go (accepted x) f q =
        let same = accepted_injective (record { controlled = x.0; stages = x.1; bytes = b; work = w }) r q in
        record {
          arena = m;
          is = refl;
          answers = f ∙ (λ i. accepted ((same i).controlled, (same i).stages));
          bytes_are = ap (λ (y : Solved). y.bytes) (sym same);
          work_is = ap (λ (y : Solved). y.work) (sym same);
        }

left_alone : (f : ℕ × ℕ → Solved) (new old new' old' : List ℕ) (cause : ℕ) (names : List ℕ) (a : Outcome (ℕ × ℕ)) → told f a ≡ refused cause names
    → (after a new old ≡ old) × (after a new' old' ≡ old')
left_alone f new old new' old' cause names (refused n names') q = (refl, refl)
left_alone f new old new' old' cause names (accepted x) q = absurd (not_refused cause names (f x) (sym q))

refused_leaves : (o : Outcome Meaning) (memories : Memories) (cause : ℕ) (names : List ℕ) → reply_of o memories ≡ refused cause names
    → (answered_bytes o memories.bytes memories.work ≡ memories.bytes) × (answered_work o memories.bytes memories.work ≡ memories.work)
refused_leaves (refused n names') memories cause names e = (refl, refl)
refused_leaves (accepted m) memories cause names e =
    left_alone (λ x. record { controlled = x.0; stages = x.1; bytes = bytes_after m memories.bytes memories.work; work = work_after m memories.bytes memories.work })
    (certificate m ++ drop (certificate_bytes m) memories.bytes) memories.bytes
    (replicate (work_numbers m) 0 ++ drop (work_numbers m) memories.work) memories.work
    cause names (solve m memories.bytes memories.work) e

module _ (n k : ℕ) (s : Sheet) (es : List (Event Memories Solved)) (h : Kept n k s (last_put es) (lent_out es)) (fine : AllFine s) where
  same_arena : arena_of s ≡ meaning_of n k (last_put es)
  same_arena = λ i. meaning_of (h.size i) (h.goals i) (λ p. h.same_row p i)

  solve_right : SolveIsRight n k s es
  solve_right memories r e =
      let d = says (close_answer s) memories r e in
      let a = require_none_accepted (lowest_out s) 10 (require_none (lowest_bare s) 11 (accepted (arena_of s))) d.arena d.is in
      let b = require_none_accepted (lowest_bare s) 11 (accepted (arena_of s)) d.arena a.1 in
      let path = sym (accepted_injective (arena_of s) d.arena b.1) ∙ same_arena in
      record {
        none_out = λ p l. sym (h.same_out p) ∙ least_none (is_out s) s.size a.0 p (omega (arith, h.size));
        lawful = subst Lawful same_arena (lawful_closed s fine b.0);
        answers = ap (λ m. solve m memories.bytes memories.work) (sym path) ∙ d.answers;
        bytes_are = d.bytes_are ∙ ap (λ m. bytes_after m memories.bytes memories.work) path;
        work_is = d.work_is ∙ ap (λ m. work_after m memories.bytes memories.work) path;
      }

pub sheets_keep : SheetsKeep
sheets_keep n k n-low n-high k-low k-high calls drafted =
    let s : Sheet = sheet_after (new n k) calls in
    let es : List (Event Memories Solved) = events solve_reply (new n k) calls in
    let h = kept solve_reply n k calls in
    let law = keeps solve_reply n k n-low n-high k-low k-high calls in
    (law.0, law.1, solve_right n k s es h (fine_after (new n k) calls drafted (fine_new n k)), refused_leaves (close_answer s))
