-- A written strip byte by byte: the records are laid out one after another.
use Rattle.std.proofs.Common.{◌≡◌, ℕ, ◌+◌, ◌*◌, ◌<◌, length, ap, ◌∙◌, arith}
use Rattle.arena.specs.Bytes.{byte}
use Rattle.row.specs.Rows.{Row}
use Rattle.row.specs.Records.{record_of}
use Rattle.row.proofs.RecordBytes.{length_record}
use Rattle.strip.specs.Writing.{strip, strip_bytes, head_of, end_of}
use Rattle.strip.proofs.InRecords.{whole_length, whole_end, whole_at}

module _ (n k : ℕ) (row : ℕ → Row) where
  pub length_strip : length (strip n k row) ≡ strip_bytes n
  length_strip = omega (arith, whole_length (λ p. record_of (row p)) 38 (λ p. length_record (row p)) (head_of n k) (end_of n) n)

  pub strip_row : (i p j : ℕ) → p < n → j < 38 → i ≡ 6 + 38 * p + j → byte (strip n k row) i ≡ byte (record_of (row p)) j
  strip_row i p j l h e =
      let e' : i ≡ 6 + (p * 38 + j) = omega arith in
      ap (byte (strip n k row)) e' ∙ whole_at (λ p. record_of (row p)) 38 (λ p. length_record (row p)) (head_of n k) (end_of n) n p j l h

  pub strip_end : (i j : ℕ) → i ≡ 6 + 38 * n + j → byte (strip n k row) i ≡ byte (end_of n) j
  strip_end i j e =
      let e' : i ≡ 6 + (n * 38 + j) = omega arith in
      ap (byte (strip n k row)) e' ∙ whole_end (λ p. record_of (row p)) 38 (λ p. length_record (row p)) (head_of n k) (end_of n) n j
