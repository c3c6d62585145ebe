-- What a sheet keeps over a succession of calls: its rows are those that the answers say were last put, and the rows out are
-- those that the answers say were lent. Each call keeps this, since an accepted one sets a single place of a list.
use Rattle.std.proofs.Common.{◌≡◌, ℕ, ◌^◌, ◌<◌, Bool, true, false, cond, not, ◌&&◌, eqb, ltb, List, [], ◌∷◌, length, get_or, set, sym, refl, ap, ◌∙◌, subst, ⊎_elim, arith, length-set}
use lib.ListN.{length-replicate}
use Rattle.std.proofs.lemmas.Bool.{cases_eq, and_parts, ltb-true, ne_eqb, eq-eqb, cond-true, cond-false}
use Rattle.std.proofs.lemmas.List.{get_or-set_same, get_or-set_other}
use Rattle.arena.specs.Refusals.{Outcome, accepted, refused, Done, done, require, after, told}
use Rattle.arena.specs.Sets.{between, count, upto, all}
use Rattle.arena.proofs.Basics.{get_or_all, require_accepted, between_parts}
use Rattle.row.specs.Rows.{Row, empty}
use Rattle.sheet.specs.Sheets.{Sheet, new, row_on, is_out, out_to, lent, stored, take_answer, put_answer, let_go_answer}
use Rattle.sheet.specs.Succession.{Call, take, put, let_go, rows_out, asked, Told, nothing, copied, answer, next, sheet_after, events, row_then, row_since, last_put, out_then, out_since, lent_out, Keeps, SheetsKeep}

-- the sheet holds these rows, and these rows are out
pub record Kept (n k : ℕ) (s : Sheet) (row : ℕ → Row) (out : ℕ → Bool) : Type 0 where
  pub size : s.size ≡ n
  pub goals : s.goals ≡ k
  pub row_count : length s.rows ≡ n
  pub out_count : length s.out ≡ n
  pub same_row : (p : ℕ) → row_on s p ≡ row p
  pub same_out : (p : ℕ) → is_out s p ≡ out p

-- a list that is changed at one place, read at any
at_set : {A : Type 0} (xs : List A) (q : ℕ) (x : A) (p : ℕ) (d : A) → q < length xs → get_or (set xs q x) p d ≡ cond (eqb q p) x (get_or xs p d)
at_set xs q x p d h =
    ⊎_elim
    (λ (e : q ≡ p). subst (λ (z : ℕ). get_or (set xs q x) z d ≡ cond (eqb q z) x (get_or xs z d)) e (get_or-set_same xs q x d h ∙ sym (cond-true (eqb q q) x (get_or xs q d) (eq-eqb q q refl))))
    (λ (ne : q ≡ p → ⊥). get_or-set_other xs q p x d (λ e. ne (sym e)) ∙ sym (cond-false (eqb q p) x (get_or xs p d) (ne_eqb q p ne)))
    (cases_eq q p)

kept_new : (n k : ℕ) → Kept n k (new n k) (λ p. empty) (λ p. false)
kept_new n k =
    record {
      size = refl;
      goals = refl;
      row_count = length-replicate n empty;
      out_count = length-replicate n 0;
      same_row = λ p. get_or_all n p empty;
      same_out = λ p. ap (λ (x : ℕ). not (eqb x 0)) (get_or_all n p 0);
    }

out_of_cond : (b c : Bool) (x y : ℕ) → not (eqb x 0) ≡ c → not (eqb (cond b x y) 0) ≡ cond b c (not (eqb y 0))
out_of_cond true c x y e = e
out_of_cond false c x y e = refl

module _ (n k : ℕ) (s : Sheet) (row : ℕ → Row) (out : ℕ → Bool) (h : Kept n k s row out) where
  kept_lent : (q seat : ℕ) (b : Bool) → q < n → not (eqb seat 0) ≡ b → Kept n k (lent s q seat) row (λ p. cond (eqb q p) b (out p))
  kept_lent q seat b l e =
      record {
        size = h.size;
        goals = h.goals;
        row_count = h.row_count;
        out_count = length-set s.out q seat ∙ h.out_count;
        same_row = h.same_row;
        same_out = λ p.
            ap (λ (x : ℕ). not (eqb x 0)) (at_set s.out q seat p 0 (omega (arith, h.out_count)))
            ∙ out_of_cond (eqb q p) b seat (get_or s.out p 0) e
            ∙ ap (λ (x : Bool). cond (eqb q p) b x) (h.same_out p);
      }

  out_inside : (seat q : ℕ) → out_to s seat q ≡ true → q < n
  out_inside seat q e =
      let a = and_parts (ltb q s.size && ltb 0 seat) (eqb (get_or s.out q 0) seat) e in
      omega (arith, ltb-true q s.size (and_parts (ltb q s.size) (ltb 0 seat) a.0).0, h.size)

module _ (Question Reply : Type 0) (n k : ℕ) (s : Sheet) (row : ℕ → Row) (out : ℕ → Bool) (h : Kept n k s row out) where
  -- the rows and the rows out that an answer leaves
  abbrev Then : Call Question → Sheet → Outcome (Told Reply) → Type 0
  Then c t o = Kept n k t (λ p. row_then p c o (row p)) (λ p. out_then p c o (out p))

  kept_take : (seat q : ℕ) (o : Outcome Row) → take_answer s seat q ≡ o → Then (take seat q) (after o (lent s q seat) s) (told copied o)
  kept_take seat q (refused r names) e = h
  kept_take seat q (accepted t) e =
      let a = require_accepted (between 1 16 seat) 5 (require (ltb q s.size) 4 (require (not (is_out s q)) 6 (accepted (row_on s q)))) t e in
      let b = require_accepted (ltb q s.size) 4 (require (not (is_out s q)) 6 (accepted (row_on s q))) t a.1 in
      let seated = (between_parts 1 16 seat a.0).0 in
      kept_lent n k s row out h q seat true (omega (arith, ltb-true q s.size b.0, h.size)) (ap not (ne_eqb seat 0 (λ z. omega arith)))

  kept_put : (seat q : ℕ) (r : Row) (o : Outcome Done) → put_answer s seat q r ≡ o → Then (put seat q r) (after o (stored s q r) s) (told (λ _. nothing) o)
  kept_put seat q r (refused c names) e = h
  kept_put seat q r (accepted t) e =
      let a = require_accepted (out_to s seat q) 7 (require (all (λ x. ltb x s.size) r.moves) 8 (require (ltb r.marks (2 ^ s.goals)) 9 (accepted done))) t e in
      let inside : q < n = out_inside n k s row out h seat q a.0 in
      let back = kept_lent n k s row out h q 0 false inside refl in
      record {
        size = h.size;
        goals = h.goals;
        row_count = length-set s.rows q r ∙ h.row_count;
        out_count = back.out_count;
        same_row = λ p. at_set s.rows q r p empty (omega (arith, h.row_count)) ∙ ap (λ (x : Row). cond (eqb q p) r x) (h.same_row p);
        same_out = back.same_out;
      }

  kept_let_go : (seat q : ℕ) (o : Outcome Done) → let_go_answer s seat q ≡ o → Then (let_go seat q) (after o (lent s q 0) s) (told (λ _. nothing) o)
  kept_let_go seat q (refused r names) e = h
  kept_let_go seat q (accepted t) e = kept_lent n k s row out h q 0 false (out_inside n k s row out h seat q (require_accepted (out_to s seat q) 7 (accepted done) t e).0) refl

  kept_asked : (q : Question) (o : Outcome (Told Reply)) → Then (asked q) s o
  kept_asked q (refused r names) = h
  kept_asked q (accepted t) = h

module _ {Question Reply : Type 0} (reply : Sheet → Question → Outcome Reply) where
  kept_step : (n k : ℕ) (s : Sheet) (row : ℕ → Row) (out : ℕ → Bool) → Kept n k s row out → (c : Call Question)
      → Kept n k (next s c) (λ p. row_then p c (answer reply s c) (row p)) (λ p. out_then p c (answer reply s c) (out p))
  kept_step n k s row out h (take seat q) = kept_take Question Reply n k s row out h seat q (take_answer s seat q) refl
  kept_step n k s row out h (put seat q r) = kept_put Question Reply n k s row out h seat q r (put_answer s seat q r) refl
  kept_step n k s row out h (let_go seat q) = kept_let_go Question Reply n k s row out h seat q (let_go_answer s seat q) refl
  kept_step n k s row out h rows_out = h
  kept_step n k s row out h (asked q) = kept_asked Question Reply n k s row out h q (answer reply s (asked q))

  kept_all : (n k : ℕ) (s : Sheet) (row : ℕ → Row) (out : ℕ → Bool) (calls : List (Call Question)) → Kept n k s row out
      → Kept n k (sheet_after s calls) (λ p. row_since (events reply s calls) p (row p)) (λ p. out_since (events reply s calls) p (out p))
  kept_all n k s row out [] h = h
  kept_all n k s row out (c ∷ cs) h =
      kept_all n k (next s c) (λ p. row_then p c (answer reply s c) (row p)) (λ p. out_then p c (answer reply s c) (out p)) cs (kept_step n k s row out h c)

  -- after any calls on a new sheet
  pub kept : (n k : ℕ) (calls : List (Call Question)) → Kept n k (sheet_after (new n k) calls) (last_put (events reply (new n k) calls)) (lent_out (events reply (new n k) calls))
  kept n k calls = kept_all n k (new n k) (λ p. empty) (λ p. false) calls (kept_new n k)

  pub keeps : Keeps reply
  keeps n k n-low n-high k-low k-high calls =
      let h = kept n k calls in
      ((λ p l. h.same_row p), λ i. count (λ p. h.same_out p i) (upto (h.size i)))

pub sheets_keep : SheetsKeep
sheets_keep = keeps {Question = ⊥} {Reply = ⊥} (λ s q. absurd q)
