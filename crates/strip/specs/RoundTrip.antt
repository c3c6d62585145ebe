-- A strip and the rows that it stores give each other back, both ways. Read after the strip.
use Rattle.std.specs.Prelude.{◌≡◌, ℕ, ◌^◌, ◌<◌, ◌≤◌, List, length, None, slice_index}
use Rattle.arena.specs.Bytes.{byte}
use Rattle.row.specs.Rows.{Row}
use Rattle.strip.specs.Strip.{size, goals, fault, row_read}
use Rattle.strip.specs.Writing.{strip, strip_bytes}

-- a row that a sheet of n positions and k goals may hold
pub record Good (n k : ℕ) (r : Row) : Type 0 where
  pub owned : r.owner ≤ 1
  pub goals : r.marks < 2 ^ k
  pub few : length r.moves ≤ 16
  pub below : (j : ℕ) → j < length r.moves → slice_index r.moves j < n
  pub rising : (i j : ℕ) → i < j → j < length r.moves → slice_index r.moves i < slice_index r.moves j

-- bytes are below 256
abbrev pub Bytes : List ℕ → Type 0
Bytes bs = (i : ℕ) → i < length bs → byte bs i < 256

-- the strip of these rows is of bytes, is as long as it should be, has no fault, and is read back
pub record ReadsBack (n k : ℕ) (row : ℕ → Row) : Type 0 where
  pub no_fault : fault (strip n k row) ≡ None
  pub same_size : size (strip n k row) ≡ n
  pub same_goals : goals (strip n k row) ≡ k
  pub same_rows : (p : ℕ) → p < n → row_read (strip n k row) p ≡ row p
  pub bytes : Bytes (strip n k row)
  pub long : length (strip n k row) ≡ strip_bytes n

-- these bytes are the strip of the rows that are read from them, and those are rows that a sheet may hold
pub record WritesBack (bs : List ℕ) : Type 0 where
  pub same_bytes : bs ≡ strip (size bs) (goals bs) (row_read bs)
  pub size_low : 0 < size bs
  pub size_high : size bs ≤ 512
  pub goals_low : 0 < goals bs
  pub goals_high : goals bs ≤ 8
  pub good : (p : ℕ) → p < size bs → Good (size bs) (goals bs) (row_read bs p)

-- What is written has no fault and is read back.
abbrev pub WrittenReadsBack : Type 0
WrittenReadsBack =
    (n k : ℕ) (row : ℕ → Row) → 0 < n → n ≤ 512 → 0 < k → k ≤ 8 → ((p : ℕ) → p < n → Good n k (row p)) → ReadsBack n k row

-- What has no fault is what would be written of the rows that it stores.
abbrev pub ReadWritesBack : Type 0
ReadWritesBack = (bs : List ℕ) → Bytes bs → fault bs ≡ None → WritesBack bs

-- Both ways.
abbrev pub RoundTrip : Type 0
RoundTrip = WrittenReadsBack × ReadWritesBack
