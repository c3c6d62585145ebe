-- A succession of calls on one sheet, with what each answered, and what the answers alone say of the rows and of the rows
-- out. Read after the sheet.
--
-- Questions of further kinds may stand among the calls: each leaves the sheet as it is and is answered by the sheet alone.
-- What they are and what they are told is left open here, for those who ask them to say.
use Rattle.std.specs.Prelude.{◌≡◌, ℕ, ◌<◌, ◌≤◌, Bool, true, false, cond, List, [], ◌∷◌, ◌==◌}
use Rattle.arena.specs.Refusals.{Outcome, accepted, refused, told}
use Rattle.arena.specs.Sets.{count, upto}
use Rattle.row.specs.Rows.{Row, empty}
use Rattle.sheet.specs.Sheets.{Sheet, new, row_on, take_answer, take_after, put_answer, put_after, let_go_answer, let_go_after, count_answer}

-- Take, put and let go name a seat and a position.
pub data Call (Question : Type 0) : Type 0 where
  take : ℕ → ℕ → Call Question
  put : ℕ → ℕ → Row → Call Question
  let_go : ℕ → ℕ → Call Question
  rows_out : Call Question
  asked : Question → Call Question

-- what an accepted call tells
pub data Told (Reply : Type 0) : Type 0 where
  nothing : Told Reply
  copied : Row → Told Reply
  number : ℕ → Told Reply
  replied : Reply → Told Reply

-- a call with its answer
abbrev pub Event : Type 0 → Type 0 → Type 0
Event Question Reply = Call Question × Outcome (Told Reply)

module _ {Question : Type 0} where
  -- the sheet that a call leaves
  abbrev pub next : Sheet → Call Question → Sheet
  next s (take seat p) = take_after s seat p
  next s (put seat p r) = put_after s seat p r
  next s (let_go seat p) = let_go_after s seat p
  next s rows_out = s
  next s (asked q) = s

  -- the sheet after calls in their order
  abbrev pub sheet_after : Sheet → List (Call Question) → Sheet
  sheet_after s [] = s
  sheet_after s (c ∷ cs) = sheet_after (next s c) cs

module _ {Question Reply : Type 0} where
  -- what one call does to row p: an accepted put stores its draft, no other call changes the row
  abbrev pub row_then : ℕ → Call Question → Outcome (Told Reply) → Row → Row
  row_then p c (refused n names) row = row
  row_then p (put seat q r) (accepted t) row = cond (q == p) r row
  row_then p (take seat q) (accepted t) row = row
  row_then p (let_go seat q) (accepted t) row = row
  row_then p rows_out (accepted t) row = row
  row_then p (asked q) (accepted t) row = row

  -- the row given, after events in their order
  abbrev pub row_since : List (Event Question Reply) → ℕ → Row → Row
  row_since [] p row = row
  row_since (e ∷ es) p row = row_since es p (row_then p e.0 e.1 row)

  -- the draft of the last accepted put of row p; the empty row where there is none
  abbrev pub last_put : List (Event Question Reply) → ℕ → Row
  last_put es p = row_since es p empty

  -- whether row p is out after one call: an accepted take of it lends it, an accepted put or let go of it brings it back
  abbrev pub out_then : ℕ → Call Question → Outcome (Told Reply) → Bool → Bool
  out_then p c (refused n names) out = out
  out_then p (put seat q r) (accepted t) out = cond (q == p) false out
  out_then p (take seat q) (accepted t) out = cond (q == p) true out
  out_then p (let_go seat q) (accepted t) out = cond (q == p) false out
  out_then p rows_out (accepted t) out = out
  out_then p (asked q) (accepted t) out = out

  -- and after events in their order
  abbrev pub out_since : List (Event Question Reply) → ℕ → Bool → Bool
  out_since [] p out = out
  out_since (e ∷ es) p out = out_since es p (out_then p e.0 e.1 out)

  -- row p is out: by an accepted take that no accepted put or let go of it has followed
  abbrev pub lent_out : List (Event Question Reply) → ℕ → Bool
  lent_out es p = out_since es p false

  -- Every row is the draft of its last accepted put, or empty.
  abbrev pub RowsAreLastPut : ℕ → Sheet → List (Event Question Reply) → Type 0
  RowsAreLastPut n s es = (p : ℕ) → p < n → row_on s p ≡ last_put es p

  -- Count tells how many rows are out.
  abbrev pub CountIsRight : ℕ → Sheet → List (Event Question Reply) → Type 0
  CountIsRight n s es = count_answer s ≡ count (lent_out es) (upto n)

module _ {Question Reply : Type 0} (reply : Sheet → Question → Outcome Reply) where
  -- what a call answers
  abbrev pub answer : Sheet → Call Question → Outcome (Told Reply)
  answer s (take seat p) = told copied (take_answer s seat p)
  answer s (put seat p r) = told (λ _. nothing) (put_answer s seat p r)
  answer s (let_go seat p) = told (λ _. nothing) (let_go_answer s seat p)
  answer s rows_out = accepted (number (count_answer s))
  answer s (asked q) = told replied (reply s q)

  -- the calls with their answers, in their order
  abbrev pub events : Sheet → List (Call Question) → List (Event Question Reply)
  events s [] = []
  events s (c ∷ cs) = (c, answer s c) ∷ events (next s c) cs

  -- After any succession of calls on a new sheet, the rows and the count are right by what the calls answered.
  abbrev pub Keeps : Type 0
  Keeps =
      (n k : ℕ) → 0 < n → n ≤ 512 → 0 < k → k ≤ 8 → (calls : List (Call Question)) →
      let s : Sheet = sheet_after (new n k) calls in
      let es : List (Event Question Reply) = events (new n k) calls in
      RowsAreLastPut n s es × CountIsRight n s es

-- The law over take, put, let go and count, with no question of a further kind.
abbrev pub SheetsKeep : Type 0
SheetsKeep = Keeps {Question = ⊥} {Reply = ⊥} (λ s q. absurd q)
