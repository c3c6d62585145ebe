-- The round trip on sheets: what a sheet writes is read back into its rows, and a strip that is loaded is what the sheet then
-- writes. Both come from the round trip on strips, since a strip is made of the rows below its number of positions.
use Rattle.std.proofs.Common.{◌≡◌, ℕ, zero, suc, ◌+◌, ◌^◌, ◌<◌, ◌≤◌, List, ◌∷◌, ◌++◌, map, length, get_or, take, None, sym, refl, ap, ◌∙◌, subst, arith}
use Rattle.std.proofs.lemmas.List.{take_at}
use Rattle.std.proofs.lemmas.List.FromFn.{fill_by_all, get_or-map-range_with_len}
use Rattle.arena.specs.Refusals.{accepted, done, after, require_none}
use Rattle.arena.specs.Sets.{concat, from, upto}
use Rattle.row.specs.Rows.{Row, empty}
use Rattle.row.specs.Records.{record_of}
use Rattle.strip.specs.Strip.{size, goals, fault, row_read}
use Rattle.strip.specs.Writing.{strip, strip_bytes, head_of, end_of}
use Rattle.strip.specs.RoundTrip.{Good, Bytes}
use Rattle.strip.specs.RoundTrip as strips
use Rattle.strip.proofs.Strips.{length_strip}
use Rattle.strip.proofs.ReadBack.{round_trip}
use Rattle.sheet.specs.Sheets.{Sheet, all_in, row_on, lowest_out, load_answer, load_after, strip_of, ReadsBack, WritesBack}
use Rattle.sheet.specs.Slots.{row_at, Below, Marked}

-- rows listed by a function, and functions that agree on what is listed
listed_at : (f : ℕ → Row) (n p : ℕ) → p < n → row_at (map f (upto n)) p ≡ f p
listed_at f n p l = get_or-map-range_with_len f 0 n p p empty l (omega arith)

same_map : (f g : ℕ → Row) (i c : ℕ) → ((p : ℕ) → i ≤ p → p < i + c → f p ≡ g p) → map f (from i c) ≡ map g (from i c)
same_map f g i zero h = refl
same_map f g i (suc c) h =
    let here : f i ≡ g i = h i (omega arith) (omega arith) in
    let rest : map f (from (i + 1) c) ≡ map g (from (i + 1) c) = same_map f g (i + 1) c (λ p a b. h p (omega arith) (omega arith)) in
    λ t. here t ∷ rest t

same_concat : (f g : ℕ → List ℕ) (i c : ℕ) → ((p : ℕ) → i ≤ p → p < i + c → f p ≡ g p) → concat f (from i c) ≡ concat g (from i c)
same_concat f g i zero h = refl
same_concat f g i (suc c) h =
    let here : f i ≡ g i = h i (omega arith) (omega arith) in
    let rest : concat f (from (i + 1) c) ≡ concat g (from (i + 1) c) = same_concat f g (i + 1) c (λ p a b. h p (omega arith) (omega arith)) in
    λ t. here t ++ rest t

all_listed : (rs : List Row) → map (λ p. get_or rs p empty) (upto (length rs)) ≡ rs
all_listed rs = sym (fill_by_all (λ p. get_or rs p empty) rs (length rs) empty refl (λ k l. refl))

-- the strip of rows that are the same below n
same_strip : (n k : ℕ) (f g : ℕ → Row) → ((p : ℕ) → p < n → f p ≡ g p) → strip n k f ≡ strip n k g
same_strip n k f g h = ap (λ xs. head_of n k ++ (xs ++ end_of n)) (same_concat (λ p. record_of (f p)) (λ p. record_of (g p)) 0 n (λ p a b. ap record_of (h p (omega arith))))

-- a strip without a fault
module _ (bs : List ℕ) (bytes : Bytes bs) (none : fault bs ≡ None) where
  abbrev pub read : List Row
  read = map (row_read bs) (upto (size bs))

  back : strips.WritesBack bs
  back = round_trip.1 bs bytes none

  read_at : (p : ℕ) → p < size bs → row_at read p ≡ row_read bs p
  read_at p l = listed_at (row_read bs) (size bs) p l

  pub read_below : Below (size bs) read
  read_below p j l m =
      let here : row_at read p ≡ row_read bs p = read_at p l in
      let inside : j < length (row_read bs p).moves = subst (λ (r : Row). j < length r.moves) here m in
      subst (λ (r : Row). get_or r.moves j 0 < size bs) (sym here) ((back.good p l).below j inside)

  pub read_marked : Marked (size bs) (goals bs) read
  read_marked p l = subst (λ (r : Row). r.marks < 2 ^ goals bs) (sym (read_at p l)) (back.good p l).goals

  pub read_writes : WritesBack (all_in (size bs) (goals bs) read) bs
  read_writes = same_strip (size bs) (goals bs) (row_at read) (row_read bs) read_at ∙ sym back.same_bytes

-- a sheet that writes
module _ (s : Sheet) (n-low : 0 < s.size) (n-high : s.size ≤ 512) (k-low : 0 < s.goals) (k-high : s.goals ≤ 8)
    (long : length s.rows ≡ s.size) (good : (p : ℕ) → p < s.size → Good s.size s.goals (row_on s p)) where
  reads : strips.ReadsBack s.size s.goals (row_on s)
  reads = round_trip.0 s.size s.goals (row_on s) n-low n-high k-low k-high good

  abbrev whole : List ℕ
  whole = strip_of s

  rows_back : map (row_read whole) (upto (size whole)) ≡ s.rows
  rows_back =
      ap (λ n. map (row_read whole) (upto n)) reads.same_size
      ∙ same_map (row_read whole) (row_on s) 0 s.size (λ p a b. reads.same_rows p (omega arith))
      ∙ ap (λ n. map (row_on s) (upto n)) (sym long)
      ∙ all_listed s.rows

  loads : (t : Sheet) → lowest_out t ≡ None → (load_answer t whole ≡ accepted done) × (load_after t whole ≡ all_in s.size s.goals s.rows)
  loads t none =
      let answer : load_answer t whole ≡ accepted done = λ i. require_none (none i) 10 (require_none (reads.no_fault i) 13 (accepted done)) in
      let stored : Sheet = all_in (size whole) (goals whole) (map (row_read whole) (upto (size whole))) in
      (answer, ap (λ o. after o stored t) answer ∙ (λ i. all_in (reads.same_size i) (reads.same_goals i) (rows_back i)))

  pub write_reads : (bytes rest : List ℕ) → bytes ≡ strip_of s ++ rest → ReadsBack s bytes
  write_reads bytes rest e =
      let front : take (strip_bytes s.size) bytes ≡ whole = ap (take (strip_bytes s.size)) e ∙ take_at whole rest (strip_bytes s.size) (length_strip s.size s.goals (row_on s)) in
      λ t none. subst (λ (w : List ℕ). (load_answer t w ≡ accepted done) × (load_after t w ≡ all_in s.size s.goals s.rows)) (sym front) (loads t none)
