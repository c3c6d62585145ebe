-- What a chain over the moves of a position answers. The iterator gives the list that is left of the moves; a closure that
-- computes a test makes `any` and `all` the tests of that list.
use Rattle.std.proofs.Common.{◌≡◌, ℕ, Bool, true, false, List, Option}
use Rattle.std.specs.Fn.{Called}
use Rattle.std.specs.Iterator.{YieldsFirst, YieldsThen}
use Rattle.std.specs.List.{FoldsTo}
use Rattle.std.specs.Option.{MatchOption}
use Rattle.std.proofs.lemmas.Iterator.Consumers.{YieldsList-from_first}
use Rattle.std.proofs.lemmas.Iterator.Search.{any_from_yields_List, all_from_yields_List}
use denote.Param.Members.{Mut}
use Rattle.arena.specs.Sets.{any, all}

module _ {S F : Type 0} {rest : S → List ℕ} {g : Mut F (ℕ × Unit {0}) Bool} (test : ℕ → Bool) (s u : S) (f : F) (r : Bool) (xs : List ℕ) where
  pub any_left :
      (ys : List ℕ) × (o : Option ℕ) × (j : F) × YieldsThen (YieldsFirst rest) s ys o u × FoldsTo (λ p x q. Called g p (x, tt) false q) f ys j × MatchOption o (r ≡ false) (λ x. (r ≡ true) × ((h : F) × Called g j (x, tt) true h)) →
      rest s ≡ xs → ((x : ℕ) (b : Bool) (q : F) → Called g f (x, tt) b q → (q ≡ f) × (b ≡ test x)) → r ≡ any test xs
  any_left ran e c = any_from_yields_List test u f r ran (YieldsList-from_first (λ x. x) rest {s = s} xs e) c

  pub all_left :
      (ys : List ℕ) × (o : Option ℕ) × (j : F) × YieldsThen (YieldsFirst rest) s ys o u × FoldsTo (λ p x q. Called g p (x, tt) true q) f ys j × MatchOption o (r ≡ true) (λ x. (r ≡ false) × ((h : F) × Called g j (x, tt) false h)) →
      rest s ≡ xs → ((x : ℕ) (b : Bool) (q : F) → Called g f (x, tt) b q → (q ≡ f) × (b ≡ test x)) → r ≡ all test xs
  all_left ran e c = all_from_yields_List test u f r ran (YieldsList-from_first (λ x. x) rest {s = s} xs e) c
