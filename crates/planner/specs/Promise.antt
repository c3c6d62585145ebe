-- What the planner promises, whole. Read the last definition first, and then its three parts in turn. An arena is any
-- meaning with the laws of one, and a certificate any bytes.
use Rattle.std.specs.Prelude.{◌≡◌, ℕ, ◌<◌, ◌≤◌, false, List, [], ◌∷◌}
use Rattle.arena.specs.Refusals.{Outcome, accepted, refused, told}
use Rattle.arena.specs.Arena.{Meaning, Lawful}
use Rattle.control.specs.Promise.{Accepted, RunsVisitAll, TrafficHolds, SidesWin}
use Rattle.row.specs.Rows.{meaning_of}
use Rattle.row.specs.RowModel.{row_of}
use Rattle.row.specs.declared.row.Row.{Row}
use Rattle.sheet.specs.Sheets.{Sheet, new, close_answer}
use Rattle.sheet.specs.Succession.{Call, take, put, let_go, rows_out, asked, Event, events, sheet_after, last_put, lent_out, RowsAreLastPut, CountIsRight}
use Rattle.solver.specs.Accepted.{SolvedIsAccepted}
use Rattle.solver.specs.Solve.{solve, bytes_after, work_after}
use Rattle.planner.specs.Solving.{solve_answered, answered_bytes, answered_work}

-- Under an accepted certificate any k × n positions in a row of a run contain every goal, whatever calls make the run,
-- refused ones too; and in no play from a position that went to the traffic, with its table obeyed, are there n stretches
-- without overlap that each contain every goal.
abbrev pub TablesWork : Type 0
TablesWork = (m : Meaning) → Lawful m → (bs : List ℕ) → Accepted m bs → RunsVisitAll m bs × TrafficHolds m bs

-- Every arena of 1 to 4,096 positions and 1 to 8 goals is solved where memory suffices, and check accepts what was written.
-- Whatever certificate is accepted gives each position to the side that has a winning strategy there, and to no other.
abbrev pub CertificatesDecide : Type 0
CertificatesDecide =
    ((m : Meaning) → Lawful m → SolvedIsAccepted m)
    × ((m : Meaning) → Lawful m → (bs : List ℕ) → Accepted m bs → SidesWin m bs)

-- Solve on a sheet is a question among the other calls: it is lent a certificate memory and a work memory, and leaves the
-- sheet as it is.
pub record Memories : Type 0 where
  pub bytes : List ℕ
  pub work : List ℕ

-- what an accepted solve tells: how many positions are the controller's, how many stages there were, and both memories
pub record Solved : Type 0 where
  pub controlled : ℕ
  pub stages : ℕ
  pub bytes : List ℕ
  pub work : List ℕ

-- solving the arena that a call has answered
abbrev pub reply_of : Outcome Meaning → Memories → Outcome Solved
reply_of o lent =
    told
    (λ r.
    record {
      controlled = r.0;
      stages = r.1;
      bytes = answered_bytes o lent.bytes lent.work;
      work = answered_work o lent.bytes lent.work;
    })
    (solve_answered o lent.bytes lent.work)

-- solve on a sheet
abbrev pub solve_reply : Sheet → Memories → Outcome Solved
solve_reply s lent = reply_of (close_answer s) lent

-- a draft is a row of the code's type
abbrev pub Drafted : Call Memories → Type 0
Drafted (take seat p) = Unit {0}
Drafted (put seat p r) = (d : Row) × (row_of d ≡ r)
Drafted (let_go seat p) = Unit {0}
Drafted rows_out = Unit {0}
Drafted (asked lent) = Unit {0}

-- so is every draft of a list of calls
abbrev pub AllDrafted : List (Call Memories) → Type 0
AllDrafted [] = Unit {0}
AllDrafted (c ∷ cs) = Drafted c × AllDrafted cs

-- An accepted solve finds no row out; the rows last put draw an arena; and the answer and both memories are those of
-- solving that arena.
pub record Solves (n : ℕ) (m : Meaning) (es : List (Event Memories Solved)) (lent : Memories) (r : Solved) : Type 0 where
  pub none_out : (p : ℕ) → p < n → lent_out es p ≡ false
  pub lawful : Lawful m
  pub answers : solve m lent.bytes lent.work ≡ accepted (r.controlled, r.stages)
  pub bytes_are : r.bytes ≡ bytes_after m lent.bytes lent.work
  pub work_is : r.work ≡ work_after m lent.bytes lent.work

abbrev pub SolveIsRight : ℕ → ℕ → Sheet → List (Event Memories Solved) → Type 0
SolveIsRight n k s es = (lent : Memories) (r : Solved) → solve_reply s lent ≡ accepted r → Solves n (meaning_of n k (last_put es)) es lent r

-- A refused solve leaves both memories as they were lent.
abbrev pub RefusedLeavesMemories : Sheet → Type 0
RefusedLeavesMemories s =
    (lent : Memories) (cause : ℕ) (names : List ℕ) → solve_reply s lent ≡ refused cause names →
    (answered_bytes (close_answer s) lent.bytes lent.work ≡ lent.bytes)
    × (answered_work (close_answer s) lent.bytes lent.work ≡ lent.work)

-- After any take, put, let go, count and solve calls on a new sheet that nothing else changes, each row is the draft of its
-- last accepted put or empty, count is the number of rows out, and solve answers and writes what is defined for those rows.
abbrev pub SheetsKeep : Type 0
SheetsKeep =
    (n k : ℕ) → 0 < n → n ≤ 512 → 0 < k → k ≤ 8 → (calls : List (Call Memories)) → AllDrafted calls →
    let s : Sheet = sheet_after (new n k) calls in
    let es : List (Event Memories Solved) = events solve_reply (new n k) calls in
    RowsAreLastPut n s es × CountIsRight n s es × SolveIsRight n k s es × RefusedLeavesMemories s

-- The promise: the tables of an accepted certificate work, certificates decide who wins, and sheets keep what was put.
pub record Promise : Type 0 where
  pub tables : TablesWork
  pub certificates : CertificatesDecide
  pub sheets : SheetsKeep
