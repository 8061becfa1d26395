-- counts of the first events of a list, and of one more
use Rattle.std.proofs.Common.{ℕ, zero, suc, ◌≡◌, ◌+◌, ◌^◌, ◌<◌, ◌≤◌, List, [], ◌∷◌, Bool, true, false, length, take, get_or, ap, ◌∙◌, arith}
use Rattle.std.proofs.lemmas.List.{take_more}
use Rattle.ultra_model.specs.Balance.{count, weight}
use Rattle.ultra_model.proofs.Counting.{count-append}

weight_small : (b : Bool) → weight b ≤ 1
weight_small true = omega arith
weight_small false = omega arith

module _ {X : Type 0} (t : X → Bool) where
  pub count_small : (xs : List X) → count t xs ≤ length xs
  count_small [] = omega arith
  count_small (x ∷ xs) = omega (arith, count_small xs, weight_small (t x))

  take_short : (n : ℕ) (xs : List X) → length (take n xs) ≤ n
  take_short zero xs = omega arith
  take_short (suc n) [] = omega arith
  take_short (suc n) (x ∷ xs) = omega (arith, take_short n xs)

  pub count_first : (n : ℕ) (xs : List X) → count t (take n xs) ≤ n
  count_first n xs = omega (arith, count_small (take n xs), take_short n xs)

  pub count_more : (n : ℕ) (xs : List X) (d : X) → n < length xs → count t (take (n + 1) xs) ≡ count t (take n xs) + weight (t (get_or xs n d))
  count_more n xs d here =
      ap (count t) (take_more xs n d here) ∙ count-append t (take n xs) (get_or xs n d ∷ []) ∙ ap (λ y. count t (take n xs) + y) (let e : weight (t (get_or xs n d)) + 0 ≡ weight (t (get_or xs n d)) = omega arith in e)

  -- what a count comes to goes on
  pub goes_on : (xs : List X) (n : ℕ) (d : X) (o : ℕ) {a b : ℕ} → n < length xs → a ≡ o + count t (take n xs) → b ≡ a + weight (t (get_or xs n d)) → b ≡ o + count t (take (n + 1) xs)
  goes_on xs n d o here before more = omega (arith, before, more, count_more n xs d here)

  -- before the next event a sum that can take 2^32 can take one more
  pub has_room : (xs : List X) (n : ℕ) (o : ℕ) {a : ℕ} → length xs < 2 ^ 32 → n < length xs → a ≡ o + count t (take n xs) → o + 2 ^ 32 < 2 ^ 64 → a + 1 < 2 ^ 64
  has_room xs n o few here before room = omega (arith, few, here, before, room, count_first n xs)
