-- A number that falls where a pair of numbers falls, the first before the second: how many positions have a smaller pair.
-- What is below q is below p too where q's pair is no larger, and q itself counts where it is smaller.
use Rattle.std.proofs.Common.{◌≡◌, ℕ, ◌<◌, ◌≤◌, Bool, true, false, ◌&&◌, ◌||◌, eqb, ltb, ◌⊎◌, refl, inl, inr, arith}
use Rattle.std.proofs.lemmas.Bool.{and_parts, and_from, or_cases, or_left, or_right, eqb-true, eq-eqb, ltb-true, lt-ltb, cases_Bool}
use Rattle.arena.specs.Sets.{upto, count}
use Rattle.arena.proofs.Basics.{count_mono, count_upto_more, count_every}

-- the pair at q is below the pair at p
unfoldable pub under : (ℕ → ℕ) → (ℕ → ℕ) → ℕ → ℕ → Bool
under s a p q = ltb (s q) (s p) || (eqb (s q) (s p) && ltb (a q) (a p))

-- how many numbers below n are below p
unfoldable pub depth : (ℕ → ℕ) → (ℕ → ℕ) → ℕ → ℕ → ℕ
depth s a n p = count (under s a p) (upto n)

module _ (s a : ℕ → ℕ) where
  pub under_says : (p q : ℕ) → under s a p q ≡ true → (s q < s p) ⊎ ((s q ≡ s p) × (a q < a p))
  unfolding under
  under_says p q h =
      elim (or_cases (ltb (s q) (s p)) (eqb (s q) (s p) && ltb (a q) (a p)) h) [
        | inl x ↦ inl (ltb-true (s q) (s p) x)
        | inr y ↦ inr (eqb-true (s q) (s p) (and_parts (eqb (s q) (s p)) (ltb (a q) (a p)) y).0, ltb-true (a q) (a p) (and_parts (eqb (s q) (s p)) (ltb (a q) (a p)) y).1)
      ]

  pub under_from : (p q : ℕ) → (s q < s p) ⊎ ((s q ≡ s p) × (a q < a p)) → under s a p q ≡ true
  unfolding under
  under_from p q (inl x) = or_left (ltb (s q) (s p)) (eqb (s q) (s p) && ltb (a q) (a p)) (lt-ltb (s q) (s p) x)
  under_from p q (inr y) = or_right (ltb (s q) (s p)) (eqb (s q) (s p) && ltb (a q) (a p)) (and_from (eqb (s q) (s p)) (ltb (a q) (a p)) (eq-eqb (s q) (s p) y.0) (lt-ltb (a q) (a p) y.1))

  under_self : (p : ℕ) → under s a p p ≡ false
  under_self p =
      elim (cases_Bool (under s a p p)) [
        | inl h ↦ absurd (let d : (s p < s p) ⊎ ((s p ≡ s p) × (a p < a p)) = under_says p p h in omega arith)
        | inr h ↦ h
      ]

  under_down : (p q : ℕ) → (s q < s p) ⊎ ((s q ≡ s p) × (a q ≤ a p)) → (x : ℕ) → under s a q x ≡ true → under s a p x ≡ true
  under_down p q (inl e) x h =
      under_from p x (inl (let d : (s x < s q) ⊎ ((s x ≡ s q) × (a x < a q)) = under_says q x h in omega arith))
  under_down p q (inr e) x h =
      elim (under_says q x h) [
        | inl d ↦ under_from p x (inl (omega arith))
        | inr d ↦ under_from p x (inr (omega arith, omega arith))
      ]

  pub depth_le : (n p q : ℕ) → (s q < s p) ⊎ ((s q ≡ s p) × (a q ≤ a p)) → depth s a n q ≤ depth s a n p
  unfolding depth
  depth_le n p q e = count_mono (under s a q) (under s a p) (upto n) (under_down p q e)

  pub depth_lt : (n p q : ℕ) → q < n → (s q < s p) ⊎ ((s q ≡ s p) × (a q < a p)) → depth s a n q < depth s a n p
  unfolding depth
  depth_lt n p q below e =
      count_upto_more (under s a q) (under s a p) n (under_down p q (weak e)) q below (under_self q) (under_from p q e)
    where
      weak : (s q < s p) ⊎ ((s q ≡ s p) × (a q < a p)) → (s q < s p) ⊎ ((s q ≡ s p) × (a q ≤ a p))
      weak (inl x) = inl x
      weak (inr y) = inr (y.0, omega arith)

  pub depth_top : (n p : ℕ) → p < n → depth s a n p < n
  unfolding depth
  depth_top n p below =
      let e : count (λ x. true) (upto n) ≡ n = count_every 0 n in
      let h : count (under s a p) (upto n) < count (λ x. true) (upto n) = count_upto_more (under s a p) (λ x. true) n (λ x _. refl) p below (under_self p) refl in
      omega arith
