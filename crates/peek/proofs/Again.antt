-- A row that is taken and let go by the same seat leaves the sheet as it was.
use Rattle.std.proofs.Common.{◌≡◌, ℕ, ◌<◌, true, not, ◌&&◌, eqb, ltb, length, get_or, set, sym, refl, inl, inr, ap, ◌∙◌, arith}
use Rattle.std.proofs.lemmas.Bool.{and_from, cases_lt, lt-ltb, eq-eqb, eqb-true, not-true, not-false}
use Rattle.std.proofs.lemmas.List.{get_or-set_same, set-set, set-get_or, set_past}
use Rattle.arena.specs.Refusals.{Outcome, accepted, refused, done, require, after, told}
use Rattle.arena.specs.Sets.{between}
use Rattle.arena.proofs.Basics.{require_accepted, between_parts, accepted_injective, not_refused}
use Rattle.row.specs.Rows.{Row}
use Rattle.sheet.specs.Sheets.{Sheet, row_on, is_out, out_to, lent, take_answer, take_after, let_go_answer, let_go_after}

either_way : {A B : Type 0} (o : Outcome A) (x : B) → after o x x ≡ x
either_way (accepted value) x = refl
either_way (refused number names) x = refl

module _ (s : Sheet) (seat p : ℕ) (row : Row) (taken : take_answer s seat p ≡ accepted row) where
  first : (between 1 16 seat ≡ true) × (require (ltb p s.size) 4 (require (not (is_out s p)) 6 (accepted (row_on s p))) ≡ accepted row)
  first = require_accepted (between 1 16 seat) 5 (require (ltb p s.size) 4 (require (not (is_out s p)) 6 (accepted (row_on s p)))) row taken

  second : (ltb p s.size ≡ true) × (require (not (is_out s p)) 6 (accepted (row_on s p)) ≡ accepted row)
  second = require_accepted (ltb p s.size) 4 (require (not (is_out s p)) 6 (accepted (row_on s p))) row first.1

  third : (not (is_out s p) ≡ true) × (accepted (row_on s p) ≡ accepted row)
  third = require_accepted (not (is_out s p)) 6 (accepted (row_on s p)) row second.1

  was_in : get_or s.out p 0 ≡ 0
  was_in = eqb-true (get_or s.out p 0) 0 (not-false (eqb (get_or s.out p 0) 0) (not-true (not (eqb (get_or s.out p 0) 0)) third.0))

  is_held : p < length s.out → out_to (lent s p seat) seat p ≡ true
  is_held inside =
      let seated = (between_parts 1 16 seat first.0).0 in
      and_from (ltb p s.size && ltb 0 seat) (eqb (get_or (set s.out p seat) p 0) seat)
      (and_from (ltb p s.size) (ltb 0 seat) second.0 (lt-ltb 0 seat (omega arith)))
      (eq-eqb (get_or (set s.out p seat) p 0) seat (get_or-set_same s.out p seat 0 inside))

  same_out : set (set s.out p seat) p 0 ≡ s.out
  same_out = set-set s.out p seat 0 ∙ ap (set s.out p) (sym was_in) ∙ set-get_or s.out p 0

  let_go_again : let_go_after (lent s p seat) seat p ≡ s
  let_go_again =
      elim (cases_lt p (length s.out)) [
        | inl inside ↦
            ap (λ b. after (require b 7 (accepted done)) (lent (lent s p seat) p 0) (lent s p seat)) (is_held inside)
            ∙ (λ i. record { size = s.size; goals = s.goals; rows = s.rows; out = same_out i })
        | inr past ↦
            let as_was : lent s p seat ≡ s = λ i. record { size = s.size; goals = s.goals; rows = s.rows; out = set_past s.out p seat past i } in
            let still : lent s p 0 ≡ s = λ i. record { size = s.size; goals = s.goals; rows = s.rows; out = set_past s.out p 0 past i } in
            ap (λ t. let_go_after t seat p) as_was ∙ ap (λ t. after (let_go_answer s seat p) t s) still ∙ either_way (let_go_answer s seat p) s
      ]

  pub taken_and_let_go : let_go_after (take_after s seat p) seat p ≡ s
  taken_and_let_go = ap (λ t. let_go_after t seat p) (ap (λ o. after o (lent s p seat) s) taken) ∙ let_go_again

-- an accepted answer told in other words was accepted
pub told_accepted : {A B : Type 0} (f : A → B) (o : Outcome A) (b : B) → accepted b ≡ told f o → (a : A) × (o ≡ accepted a) × (b ≡ f a)
told_accepted f (accepted a) b e = (a, refl, accepted_injective b (f a) e)
told_accepted f (refused number names) b e = absurd (not_refused number names b (sym e))
