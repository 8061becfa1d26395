-- a walk over the numbers that pass a test, and lists with places
use Rattle.std.proofs.Common.{ℕ, zero, suc, ◌≡◌, ◌+◌, ◌-◌, ◌<◌, ◌≤◌, ◌⊎◌, inl, inr, Bool, true, false, List, [], ◌∷◌, filter, refl, sym, ap, ◌∙◌, arith}
use Rattle.std.specs.List.{range_with_len}

-- the next number of the walk, and what is left behind it
pub record IsNext (p : ℕ → Bool) (a n x : ℕ) (rest : List ℕ) : Type 0 where
  pub from : a ≤ x
  pub below : x < n
  pub passes : p x ≡ true
  pub skipped : (j : ℕ) → a ≤ j → j < x → p j ≡ false
  pub left : rest ≡ filter p (range_with_len (x + 1) (n - (x + 1)))

apart : (a b : ℕ) → a ≤ b → (a < b) ⊎ (a ≡ b)
apart a b h = grind arith

tested : (b : Bool) → (b ≡ true) ⊎ (b ≡ false)
tested true = inl refl
tested false = inr refl

module _ (p : ℕ → Bool) where
  first_in : (a : ℕ) (k : ℕ) → p a ≡ true → filter p (range_with_len a (suc k)) ≡ a ∷ filter p (range_with_len (a + 1) k)
  first_in a k here = rw here refl

  first_out : (a : ℕ) (k : ℕ) → p a ≡ false → filter p (range_with_len a (suc k)) ≡ filter p (range_with_len (a + 1) k)
  first_out a k here = rw here refl

  skip_one : (j a x : ℕ) → a ≤ j → j < x → p a ≡ false → ((i : ℕ) → a + 1 ≤ i → i < x → p i ≡ false) → p j ≡ false
  skip_one j a x low high here others = elim (apart a j low) [
    | inl less ↦ others j (omega (arith, less)) high
    | inr same ↦ ap p (sym same) ∙ here
  ]

  pub next_is : (k a n x : ℕ) (rest : List ℕ) → a + k ≡ n → filter p (range_with_len a k) ≡ x ∷ rest → IsNext p a n x rest
  next_is zero a n x rest count is = absurd cc
  next_is (suc k) a n x rest count is = elim (tested (p a)) [
    | inl here ↦
        let both = sym (first_in a k here) ∙ is in
        let first : a ≡ x = cc in
        let others : filter p (range_with_len (a + 1) k) ≡ rest = cc in
        let behind : n - (x + 1) ≡ k = omega (arith, count, first) in
        record {
          from = omega (arith, first);
          below = omega (arith, first, count);
          passes = ap p (sym first) ∙ here;
          skipped = λ j low high. absurd (omega (arith, low, high, first));
          left = sym others ∙ ap (λ z. filter p (range_with_len (z + 1) k)) first ∙ ap (λ z. filter p (range_with_len (x + 1) z)) (sym behind);
        }
    | inr here ↦
        let next = next_is k (a + 1) n x rest (omega (arith, count)) (sym (first_out a k here) ∙ is) in
        record {
          from = omega (arith, next.from);
          below = next.below;
          passes = next.passes;
          skipped = λ j low high. skip_one j a x low high here next.skipped;
          left = next.left;
        }
  ]

  -- where none is left
  pub none_left : (k a : ℕ) → filter p (range_with_len a k) ≡ [] → (j : ℕ) → a ≤ j → j < a + k → p j ≡ false
  none_left zero a is j low high = absurd (omega (arith, low, high))
  none_left (suc k) a is j low high = elim (tested (p a)) [
    | inl here ↦ absurd (let both = sym (first_in a k here) ∙ is in cc)
    | inr here ↦ elim (apart a j low) [
      | inl less ↦ none_left k (a + 1) (sym (first_out a k here) ∙ is) j (omega (arith, less)) (omega (arith, high))
      | inr same ↦ ap p (sym same) ∙ here
    ]
  ]
