-- Moves in rising order: what a search finds among them, and what setting one in or striking one out leaves.
use Rattle.std.proofs.Common.{◌≡◌, ℕ, zero, suc, ◌+◌, ◌-◌, ◌<◌, ◌≤◌, true, false, not, eqb, ltb, ◌⊎◌, List, [], ◌∷◌, ◌++◌, length, get_or, take, replicate, sym, refl, ap, ◌∙◌, subst, inl, inr, arith, append_assoc, length-append, nat_cmp, Ok, Err}
use Rattle.std.specs.List.{insert as inserted, remove}
use Rattle.std.specs.List.Sorted.{IsBinarySearchResult}
use Rattle.std.proofs.lemmas.List.Sorted.{searched}
use Rattle.std.proofs.lemmas.Bool.{cases_Bool, cases_order, cases_lt, lt-ltb, le-ltb, eq-eqb, ne_eqb, cond-true, cond-false, or_parts}
use Rattle.std.proofs.lemmas.List.{ext_get_or, get_or_append_left, get_or-append_right, get_or_past, get_or-replicate, get_or-take, length-replicate, length-take-le, replicate_more, take_at}
use Rattle.std.proofs.lemmas.List.Edits.{length-insert, get_or-insert_below, get_or-insert_at, get_or-insert_above, insert-append_left, length-remove, get_or-remove_below, get_or-remove_above, remove-append_left}
use Rattle.arena.specs.Sets.{elem, keep}
use Rattle.arena.proofs.Basics.{In, in_at, in_head, in_tail}
use Rattle.row.specs.Drafts.{insert}
use Rattle.row.specs.declared.row.Row.{Row}

-- a list rises
abbrev pub Rises : List ℕ → Type 0
Rises xs = (i j : ℕ) → i < j → j < length xs → get_or xs i 0 < get_or xs j 0

-- zeros, also past their end
zeros : (k j : ℕ) → get_or {A = ℕ} (replicate k 0) j 0 ≡ 0
zeros k j =
    elim (cases_lt j k) [
      | inl l ↦ get_or-replicate k j 0 0 l
      | inr l ↦ get_or_past (replicate k 0) j 0 (omega (arith, length-replicate {A = ℕ} k 0))
    ]

-- the moves of a row, as a list
module _ (r : Row) where
  abbrev pub listed : List ℕ
  listed = take r.count r.moves

  pub moves_count : length listed ≡ r.count
  moves_count = length-take-le r.count r.moves (omega (arith, r.wide, r.few))

  pub moves_rise : Rises listed
  moves_rise i j l m =
      let inside : j < r.count = omega (arith, moves_count) in
      let up : get_or r.moves i 0 < get_or r.moves j 0 = r.rising i j l inside in
      let a : get_or listed i 0 ≡ get_or r.moves i 0 = get_or-take r.count r.moves i 0 (omega arith) in
      let b : get_or listed j 0 ≡ get_or r.moves j 0 = get_or-take r.count r.moves j 0 inside in
      omega arith

  -- the sixteen are the moves and then zeros
  pub moves_then_zeros : r.moves ≡ listed ++ replicate (16 - r.count) 0
  moves_then_zeros =
      let zs : List ℕ = replicate (16 - r.count) 0 in
      let long : length r.moves ≡ length (listed ++ zs) = omega (arith, r.wide, r.few, moves_count, length-append listed zs, length-replicate {A = ℕ} (16 - r.count) 0) in
      ext_get_or 0 r.moves (listed ++ zs) long
      (λ j _.
      elim (cases_lt j r.count) [
        | inl l ↦ let inside : j < length listed = omega (arith, moves_count) in sym (get_or_append_left listed zs 0 j inside ∙ get_or-take r.count r.moves j 0 l)
        | inr l ↦ let past : length listed ≤ j = omega (arith, moves_count) in
            r.unused j l ∙ sym (get_or-append_right listed zs (length listed) j 0 refl past ∙ zeros (16 - r.count) (j - length listed))
      ])

-- an element of a list, by its place
in_there : (xs : List ℕ) (j : ℕ) → j < length xs → In (get_or xs j 0) xs
in_there [] j l = absurd (omega arith)
in_there (x ∷ xs) zero l = in_head x xs
in_there (x ∷ xs) (suc j) l = in_tail (get_or xs j 0) x xs (in_there xs j (omega arith))

found : (xs : List ℕ) (q at : ℕ) → at < length xs → get_or xs at 0 ≡ q → elem q xs ≡ true
found xs q at l e = let i : In (get_or xs at 0) xs = in_there xs at l in ap (λ x. elem x xs) (sym e) ∙ i

-- where a move stands that a search has found
pub record There (xs : List ℕ) (q at : ℕ) : Type 0 where
  pub inside : at < length xs
  pub here : get_or xs at 0 ≡ q
  pub known : elem q xs ≡ true

-- where a move would stand that a search has not found
pub record Gap (xs : List ℕ) (q at : ℕ) : Type 0 where
  pub within : at ≤ length xs
  pub below : (k : ℕ) → k < at → get_or xs k 0 < q
  pub above : (k : ℕ) → at ≤ k → k < length xs → q < get_or xs k 0

-- it is not there
pub absent : (xs : List ℕ) (q at : ℕ) → Gap xs q at → elem q xs ≡ false
absent xs q at h = elim (cases_Bool (elem q xs)) [ inl e ↦ absurd (never (in_at q xs e)) | inr e ↦ e ]
  where
    never : (j : ℕ) × (j < length xs) × (get_or xs j 0 ≡ q) → ⊥
    never w =
        elim (cases_lt w.0 at) [
          | inl l ↦ let low : get_or xs w.0 0 < q = h.below w.0 l in omega (arith, w.2)
          | inr l ↦ let high : q < get_or xs w.0 0 = h.above w.0 l w.1 in omega (arith, w.2)
        ]

-- setting in before the first larger element is setting in at the place
insert_placed : (q at : ℕ) (xs : List ℕ) → at ≤ length xs → ((j : ℕ) → j < at → get_or xs j 0 < q) → (at < length xs → q < get_or xs at 0) → insert q xs ≡ inserted xs at q
insert_placed q zero [] l low high = refl
insert_placed q (suc at) [] l low high = absurd (omega arith)
insert_placed q zero (x ∷ xs) l low high = cond-true (ltb q x) (q ∷ x ∷ xs) (x ∷ insert q xs) (lt-ltb q x (high (omega arith)))
insert_placed q (suc at) (x ∷ xs) l low high =
    let first : x < q = low 0 (omega arith) in
    cond-false (ltb q x) (q ∷ x ∷ xs) (x ∷ insert q xs) (le-ltb q x (omega arith))
    ∙ ap (λ ys. x ∷ ys) (insert_placed q at xs (omega arith) (λ j k. low (suc j) (omega arith)) (λ k. high (omega arith)))

-- keeping all but a move that is not there keeps all
keep_absent : (q : ℕ) (xs : List ℕ) → elem q xs ≡ false → keep (λ x. not (eqb x q)) xs ≡ xs
keep_absent q [] e = refl
keep_absent q (x ∷ xs) e =
    let p : (eqb x q ≡ false) × (elem q xs ≡ false) = or_parts (eqb x q) (elem q xs) e in
    cond-true (not (eqb x q)) (x ∷ keep (λ y. not (eqb y q)) xs) (keep (λ y. not (eqb y q)) xs) (ap not p.0)
    ∙ ap (λ ys. x ∷ ys) (keep_absent q xs p.1)

tail_rises : (x : ℕ) (xs : List ℕ) → Rises (x ∷ xs) → Rises xs
tail_rises x xs up i j l m = up (suc i) (suc j) (omega arith) (omega arith)

head_absent : (x : ℕ) (xs : List ℕ) → Rises (x ∷ xs) → elem x xs ≡ false
head_absent x xs up =
    elim (cases_Bool (elem x xs)) [
      | inl e ↦ absurd (let w = in_at x xs e in let r : x < get_or xs w.0 0 = up 0 (suc w.0) (omega arith) (omega (arith, w.1)) in let s : get_or xs w.0 0 ≡ x = w.2 in omega arith)
      | inr e ↦ e
    ]

-- keeping all but a move strikes it out at its place
keep_there : (q at : ℕ) (xs : List ℕ) → Rises xs → at < length xs → get_or xs at 0 ≡ q → keep (λ x. not (eqb x q)) xs ≡ remove xs at
keep_there q at [] up l e = absurd (omega arith)
keep_there q zero (x ∷ xs) up l e =
    let none : elem q xs ≡ false = ap (λ y. elem y xs) (sym e) ∙ head_absent x xs up in
    cond-false (not (eqb x q)) (x ∷ keep (λ y. not (eqb y q)) xs) (keep (λ y. not (eqb y q)) xs) (ap not (eq-eqb x q e))
    ∙ keep_absent q xs none
keep_there q (suc at) (x ∷ xs) up l e =
    let low : x < get_or xs at 0 = up 0 (suc at) (omega arith) l in
    cond-true (not (eqb x q)) (x ∷ keep (λ y. not (eqb y q)) xs) (keep (λ y. not (eqb y q)) xs) (ap not (ne_eqb x q (λ s. omega arith)))
    ∙ ap (λ ys. x ∷ ys) (keep_there q at xs (tail_rises x xs up) (omega arith) e)

module _ (xs : List ℕ) (q at : ℕ) (up : Rises xs) (h : Gap xs q at) where
  pub insert_is : insert q xs ≡ inserted xs at q
  insert_is = insert_placed q at xs h.within h.below (λ l. h.above at (omega arith) l)

  abbrev set_in : List ℕ
  set_in = inserted xs at q

  -- what stands at a place once q is set in
  value : (k : ℕ) → ((k < at) × (get_or set_in k 0 ≡ get_or xs k 0)) ⊎ (((k ≡ at) × (get_or set_in k 0 ≡ q)) ⊎ ((at < k) × (get_or set_in k 0 ≡ get_or xs (k - 1) 0)))
  value k =
      let within : at ≤ length xs = h.within in
      elim (cases_order k at) [
        | inl e ↦ inr (inl (e, ap (λ i. get_or set_in i 0) e ∙ get_or-insert_at xs at q 0 within))
        | inr o ↦ elim o [
          | inl l ↦ inl (l, get_or-insert_below xs at q 0 k l within)
          | inr l ↦ let e : k ≡ k - 1 + 1 = omega arith in inr (inr (l, ap (λ i. get_or set_in i 0) e ∙ get_or-insert_above xs at q 0 (k - 1) (omega arith) within))
        ]
      ]

  pub insert_rises : Rises set_in
  insert_rises i j l m =
      let long : length set_in ≡ length xs + 1 = length-insert xs at q h.within in
      let low : i < at → get_or xs i 0 < q = h.below i in
      let high : at ≤ j - 1 → j - 1 < length xs → q < get_or xs (j - 1) 0 = h.above (j - 1) in
      let both_below : j < length xs → get_or xs i 0 < get_or xs j 0 = λ k. up i j l k in
      let across : i < j - 1 → j - 1 < length xs → get_or xs i 0 < get_or xs (j - 1) 0 = λ k n. up i (j - 1) k n in
      let both_above : i - 1 < j - 1 → j - 1 < length xs → get_or xs (i - 1) 0 < get_or xs (j - 1) 0 = λ k n. up (i - 1) (j - 1) k n in
      grind (arith, value i, value j)

module _ (xs : List ℕ) (q : ℕ) where
  pub strike_none : elem q xs ≡ false → keep (λ x. not (eqb x q)) xs ≡ xs
  strike_none = keep_absent q xs

  module _ (at : ℕ) (up : Rises xs) (l : at < length xs) where
    pub strike_is : get_or xs at 0 ≡ q → keep (λ x. not (eqb x q)) xs ≡ remove xs at
    strike_is e = keep_there q at xs up l e

    value_left : (k : ℕ) → ((k < at) × (get_or (remove xs at) k 0 ≡ get_or xs k 0)) ⊎ ((at ≤ k) × (get_or (remove xs at) k 0 ≡ get_or xs (k + 1) 0))
    value_left k =
        elim (cases_lt k at) [
          | inl s ↦ inl (s, get_or-remove_below xs at 0 k s l)
          | inr s ↦ inr (s, get_or-remove_above xs at 0 k s l)
        ]

    pub strike_rises : Rises (remove xs at)
    strike_rises i j s m =
        let long : length (remove xs at) + 1 ≡ length xs = length-remove xs at l in
        let both_below : get_or xs i 0 < get_or xs j 0 = up i j s (omega arith) in
        let across : get_or xs i 0 < get_or xs (j + 1) 0 = up i (j + 1) (omega arith) (omega arith) in
        let both_above : get_or xs (i + 1) 0 < get_or xs (j + 1) 0 = up (i + 1) (j + 1) (omega arith) (omega arith) in
        grind (arith, value_left i, value_left j)

-- a row's moves in an array of sixteen: so many are used and rise, and the others are zero
pub record Drawn (m moves : List ℕ) (count : ℕ) : Type 0 where
  pub wide : length m ≡ 16
  pub few : count ≤ 16
  pub rising : (i j : ℕ) → i < j → j < count → get_or m i 0 < get_or m j 0
  pub unused : (j : ℕ) → count ≤ j → get_or m j 0 ≡ 0
  pub listed_as : take count m ≡ moves

drawn : (ys : List ℕ) (count k : ℕ) → count ≡ length ys → count + k ≡ 16 → Rises ys → Drawn (ys ++ replicate k 0) ys count
drawn ys count k e all up =
    record {
      wide = omega (arith, length-append ys (replicate k 0), length-replicate {A = ℕ} k 0);
      few = omega arith;
      rising = λ i j l m.
          let a : get_or (ys ++ replicate k 0) i 0 ≡ get_or ys i 0 = get_or_append_left ys (replicate k 0) 0 i (omega arith) in
          let b : get_or (ys ++ replicate k 0) j 0 ≡ get_or ys j 0 = get_or_append_left ys (replicate k 0) 0 j (omega arith) in
          omega (arith, up i j l (omega arith));
      unused = λ j l. get_or-append_right ys (replicate k 0) (length ys) j 0 refl (omega arith) ∙ zeros k (j - length ys);
      listed_as = take_at ys (replicate k 0) count (sym e);
    }

-- the moves of a row with one set in, and with one struck out
module _ (r : Row) (q at : ℕ) where
  abbrev zs : List ℕ
  zs = replicate (16 - r.count) 0

  pub added : Gap (listed r) q at → r.count < 16 → (m : List ℕ) → m ≡ take (length r.moves) (inserted r.moves at q) → Drawn m (insert q (listed r)) (r.count + 1)
  added h room m e =
      let xs : List ℕ = listed r in
      let ys : List ℕ = inserted xs at q in
      let fewer : List ℕ = replicate (15 - r.count) 0 in
      let more : length ys ≡ length xs + 1 = length-insert xs at q h.within in
      let one : 15 - r.count + 1 ≡ 16 - r.count = omega arith in
      let tail : fewer ++ 0 ∷ [] ≡ zs = replicate_more {X = ℕ} (15 - r.count) 0 ∙ ap (λ (k : ℕ). replicate {A = ℕ} k 0) one in
      let whole : inserted r.moves at q ≡ (ys ++ fewer) ++ 0 ∷ [] =
      ap (λ m. inserted m at q) (moves_then_zeros r) ∙ insert-append_left xs zs at q h.within ∙ ap (λ t. ys ++ t) (sym tail) ∙ sym (append_assoc ys fewer (0 ∷ [])) in
      let long : length (ys ++ fewer) ≡ length r.moves = omega (arith, length-append ys fewer, length-replicate {A = ℕ} (15 - r.count) 0, moves_count r, r.wide) in
      let is : ys ++ fewer ≡ m = sym (e ∙ ap (take (length r.moves)) whole ∙ take_at (ys ++ fewer) (0 ∷ []) (length r.moves) long) in
      subst (λ zs. Drawn m zs (r.count + 1)) (sym (insert_is xs q at (moves_rise r) h))
      (subst (λ m. Drawn m ys (r.count + 1)) is
      (drawn ys (r.count + 1) (15 - r.count) (omega (arith, moves_count r)) (omega arith) (insert_rises xs q at (moves_rise r) h)))

  pub struck : There (listed r) q at → (m : List ℕ) → m ≡ remove r.moves at ++ 0 ∷ [] → Drawn m (keep (λ x. not (eqb x q)) (listed r)) (r.count - 1)
  struck h m e =
      let xs : List ℕ = listed r in
      let ys : List ℕ = remove xs at in
      let less : length ys + 1 ≡ length xs = length-remove xs at h.inside in
      let k : ℕ = 16 - r.count + 1 in
      let is : ys ++ replicate k 0 ≡ m =
      sym
      (e
      ∙ ap (λ m. remove m at ++ 0 ∷ []) (moves_then_zeros r)
      ∙ ap (λ m. m ++ 0 ∷ []) (remove-append_left xs zs at h.inside)
      ∙ append_assoc ys zs (0 ∷ [])
      ∙ ap (λ t. ys ++ t) (replicate_more (16 - r.count) 0)) in
      subst (λ zs. Drawn m zs (r.count - 1)) (sym (strike_is xs q at (moves_rise r) h.inside h.here))
      (subst (λ m. Drawn m ys (r.count - 1)) is
      (drawn ys (r.count - 1) k (omega (arith, moves_count r)) (omega (arith, moves_count r, r.few)) (strike_rises xs q at (moves_rise r) h.inside)))

-- what a binary search for a move of a row says: that it is there, or else where it would stand
module _ (r : Row) (q at : ℕ) (xs : List ℕ) (is : xs ≡ listed r) where
  not_falling : (i j : ℕ) → i ≤ j → j < length (listed r) → get_or (listed r) i 0 ≤ get_or (listed r) j 0
  not_falling i j l m =
      elim (cases_lt i j) [
        | inl s ↦ omega (arith, moves_rise r i j s m)
        | inr s ↦ let e : i ≡ j = omega arith in omega (arith, ap (λ k. get_or (listed r) k 0) e)
      ]

  pub there : IsBinarySearchResult (λ y. nat_cmp y q) xs (Ok at) → There (listed r) q at
  there h =
      let s = searched (listed r) q (Ok at) (subst (λ ys. IsBinarySearchResult (λ y. nat_cmp y q) ys (Ok at)) is h) not_falling in
      record { inside = s.0; here = s.1; known = found (listed r) q at s.0 s.1 }

  pub gap : IsBinarySearchResult (λ y. nat_cmp y q) xs (Err at) → Gap (listed r) q at
  gap h =
      let s = searched (listed r) q (Err at) (subst (λ ys. IsBinarySearchResult (λ y. nat_cmp y q) ys (Err at)) is h) not_falling in
      record { within = s.0; below = s.1; above = s.2 }
