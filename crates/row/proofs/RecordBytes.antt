-- A row's record: sixteen moves of two bytes each make its last 32.
use Rattle.std.proofs.Common.{◌≡◌, ℕ, zero, suc, ◌+◌, ◌-◌, ◌*◌, ◌/◌, ◌%◌, ◌<◌, ◌≤◌, List, [], ◌∷◌, ◌++◌, length, get_or, take, replicate, sym, refl, ap, ◌∙◌, ⊎_elim, arith, append_assoc, length-append, length-take}
use lib.ListN.{length-replicate}
use Rattle.std.proofs.lemmas.Bool.{cases_lt}
use Rattle.std.proofs.lemmas.Grind.{flat_map-append, take_at_read}
use Rattle.std.proofs.lemmas.List.{get_or_append_left, get_or-append_right, get_or-take, get_or_past, replicate-append-replicate, take_at}
use Rattle.arena.specs.Bytes.{byte, two}
use Rattle.arena.specs.Owners.{owner_number}
use Rattle.arena.proofs.Basics.{get_or_all}
use Rattle.row.specs.Rows.{Row}
use Rattle.row.specs.RowModel.{row_of}
use Rattle.row.specs.Records.{padded, pairs, record_of}
use Rattle.row.specs.declared.row.Row.{Row as Drawn}
use Rattle.row.proofs.Moves.{listed, moves_count, moves_then_zeros}

-- pairs of bytes
length_pairs : (xs : List ℕ) → length (pairs xs) ≡ 2 * length xs
length_pairs [] = refl
length_pairs (x ∷ xs) = omega (arith, length_pairs xs)

pairs_high : (xs : List ℕ) (j : ℕ) → j < length xs → get_or (pairs xs) (2 * j) 0 ≡ get_or xs j 0 / 256
pairs_high [] j l = absurd (omega arith)
pairs_high (x ∷ xs) zero l = refl
pairs_high (x ∷ xs) (suc j) l =
    let e : 2 * suc j ≡ suc (suc (2 * j)) = omega arith in
    ap (λ (z : ℕ). get_or (pairs (x ∷ xs)) z 0) e ∙ pairs_high xs j (omega arith)

pairs_low : (xs : List ℕ) (j : ℕ) → j < length xs → get_or (pairs xs) (suc (2 * j)) 0 ≡ get_or xs j 0 % 256
pairs_low [] j l = absurd (omega arith)
pairs_low (x ∷ xs) zero l = refl
pairs_low (x ∷ xs) (suc j) l =
    let e : suc (2 * suc j) ≡ suc (suc (suc (2 * j))) = omega arith in
    ap (λ (z : ℕ). get_or (pairs (x ∷ xs)) z 0) e ∙ pairs_low xs j (omega arith)

pub pairs_more : (xs : List ℕ) (j : ℕ) → j < length xs → pairs (take (j + 1) xs) ≡ pairs (take j xs) ++ two (get_or xs j 0)
pairs_more xs j l = ap pairs (take_at_read xs j 0 l).1 ∙ flat_map-append two (take j xs) (get_or xs j 0 ∷ [])

-- sixteen moves, the rest of them 0
length_padded : (xs : List ℕ) → length (padded xs) ≡ 16
length_padded xs = omega (arith, length-take 16 (xs ++ replicate 16 0), length-append xs (replicate 16 0), length-replicate {A = ℕ} 16 0)

get_or_padded : (xs : List ℕ) (j : ℕ) → j < 16 → get_or (padded xs) j 0 ≡ get_or xs j 0
get_or_padded xs j l =
    get_or-take 16 (xs ++ replicate 16 0) j 0 l
    ∙ ⊎_elim
    (λ (h : j < length xs). get_or_append_left xs (replicate 16 0) 0 j h)
    (λ (h : length xs ≤ j). get_or-append_right xs (replicate 16 0) (length xs) j 0 refl h ∙ get_or_all 16 (j - length xs) 0 ∙ sym (get_or_past xs j 0 h))
    (cases_lt j (length xs))

-- the array of a row is its moves so filled up
padded_listed : (r : Drawn) → padded (listed r) ≡ r.moves
padded_listed r =
    let zs : List ℕ = replicate (16 - r.count) 0 in
    let all : 16 - r.count + r.count ≡ 16 = omega (arith, r.few) in
    let split : zs ++ replicate r.count 0 ≡ replicate 16 0 = replicate-append-replicate (16 - r.count) r.count 0 ∙ ap (λ (k : ℕ). replicate {A = ℕ} k 0) all in
    let whole : listed r ++ replicate 16 0 ≡ r.moves ++ replicate r.count 0 =
    ap (λ t. listed r ++ t) (sym split) ∙ sym (append_assoc (listed r) zs (replicate r.count 0)) ∙ ap (λ m. m ++ replicate r.count 0) (sym (moves_then_zeros r)) in
    ap (take 16) whole ∙ take_at r.moves (replicate r.count 0) 16 r.wide

-- the record of a row, from its fields
pub record_is : (r : Drawn) → record_of (row_of r) ≡ 0x47 ∷ 0x50 ∷ owner_number r.owner ∷ r.marks ∷ 0 ∷ r.count ∷ pairs r.moves
record_is r =
    let none : length (listed r) / 256 ≡ 0 = omega (arith, moves_count r, r.few) in
    let few : length (listed r) % 256 ≡ r.count = omega (arith, moves_count r, r.few) in
    rw (none, few, padded_listed r) refl

-- a record's bytes
pub length_record : (r : Row) → length (record_of r) ≡ 38
length_record r = omega (arith, length_pairs (padded r.moves), length_padded r.moves)

pub record_high : (r : Row) (j : ℕ) → j < 16 → byte (record_of r) (6 + 2 * j) ≡ get_or r.moves j 0 / 256
record_high r j l =
    let e : 6 + 2 * j ≡ suc (suc (suc (suc (suc (suc (2 * j)))))) = omega arith in
    ap (λ (z : ℕ). byte (record_of r) z) e ∙ pairs_high (padded r.moves) j (omega (arith, length_padded r.moves)) ∙ ap (λ (z : ℕ). z / 256) (get_or_padded r.moves j l)

pub record_low : (r : Row) (j : ℕ) → j < 16 → byte (record_of r) (7 + 2 * j) ≡ get_or r.moves j 0 % 256
record_low r j l =
    let e : 7 + 2 * j ≡ suc (suc (suc (suc (suc (suc (suc (2 * j))))))) = omega arith in
    ap (λ (z : ℕ). byte (record_of r) z) e ∙ pairs_low (padded r.moves) j (omega (arith, length_padded r.moves)) ∙ ap (λ (z : ℕ). z % 256) (get_or_padded r.moves j l)
