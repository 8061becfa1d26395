-- sums and maxima: of the numbers below a bound, and of a list of numbers
use Rattle.std.proofs.Common.{ℕ, zero, suc, ◌≡◌, ◌+◌, ◌*◌, ◌<◌, List, [], ◌∷◌, ◌++◌, Bool, false, max, refl, sym, ◌∙◌, ap, arith}
use Rattle.std.specs.List.{filter, range_with_len}
use Rattle.ultra_model.specs.Balance.{total}
use Rattle.ultra_measure.specs.Window.{greatest}

-- an operation under which 0 changes nothing
module _ (op : ℕ → ℕ → ℕ) where
  -- of f 0, f 1, .. f (n - 1)
  abbrev pub upto : ℕ → (ℕ → ℕ) → ℕ
  upto zero f = 0
  upto (suc n) f = op (upto n f) (f n)

  -- of the values of a list
  abbrev pub along : (ℕ → ℕ) → List ℕ → ℕ
  along f [] = 0
  along f (x ∷ xs) = op (f x) (along f xs)

  pub upto_same : (n : ℕ) (f g : ℕ → ℕ) → ((k : ℕ) → k < n → f k ≡ g k) → upto n f ≡ upto n g
  upto_same zero f g same = refl
  upto_same (suc n) f g same = let rest = upto_same n f g (λ k h. same k (omega arith)) in let here = same n (omega arith) in rw (rest, here) refl

  module _ (left : (x : ℕ) → op 0 x ≡ x) (right : (x : ℕ) → op x 0 ≡ x) (assoc : (x y z : ℕ) → op (op x y) z ≡ op x (op y z)) where
    pub along_append : (f : ℕ → ℕ) (xs ys : List ℕ) → along f (xs ++ ys) ≡ op (along f xs) (along f ys)
    along_append f [] ys = sym (left (along f ys))
    along_append f (x ∷ xs) ys = ap (op (f x)) (along_append f xs ys) ∙ sym (assoc (f x) (along f xs) (along f ys))

    -- one more at the end
    pub along_last : (f : ℕ → ℕ) (xs : List ℕ) (x : ℕ) → along f (xs ++ x ∷ []) ≡ op (along f xs) (f x)
    along_last f xs x = along_append f xs (x ∷ []) ∙ ap (op (along f xs)) (right (f x))

    upto_front : (n : ℕ) (f : ℕ → ℕ) → upto (suc n) f ≡ op (f 0) (upto n (λ k. f (k + 1)))
    upto_front zero f = left (f 0) ∙ sym (right (f 0))
    upto_front (suc n) f =
        let same : f (suc n) ≡ f (n + 1) = ap f (omega arith) in
        rw same (ap (λ x. op x (f (n + 1))) (upto_front n f) ∙ assoc (f 0) (upto n (λ k. f (k + 1))) (f (n + 1)))

    pub along_range : (f : ℕ → ℕ) (a n : ℕ) → along f (range_with_len a n) ≡ upto n (λ k. f (a + k))
    along_range f a zero = refl
    along_range f a (suc n) =
        let first : f a ≡ f (a + 0) = ap f (omega arith) in
        let rest = along_range f (a + 1) n in
        let same = upto_same n (λ k. f (a + 1 + k)) (λ k. f (a + (k + 1))) (λ k h. ap f (omega arith)) in
        rw (rest, same, first) (sym (upto_front n (λ k. f (a + k))))

    -- those that pass a test, where the others are 0
    pub along_skipped : (p : ℕ → Bool) (f : ℕ → ℕ) (a n : ℕ) → ((k : ℕ) → k < a + n → p k ≡ false → f k ≡ 0) → along f (filter p (range_with_len a n)) ≡ along f (range_with_len a n)
    along_skipped p f a zero none = refl
    along_skipped p f a (suc n) none =
        let rest = along_skipped p f (a + 1) n (λ k h. none k (omega arith)) in
        let here = none a (omega arith) in
        let zeros = left (along f (range_with_len (a + 1) n)) in
        grind arith

    -- two at a time
    pub upto_pairs : (n m : ℕ) (f : ℕ → ℕ) → m ≡ 2 * n → upto m f ≡ upto n (λ k. op (f (2 * k)) (f (2 * k + 1)))
    upto_pairs zero zero f e = refl
    upto_pairs zero (suc m) f e = absurd (omega (arith, e))
    upto_pairs (suc n) zero f e = absurd (omega (arith, e))
    upto_pairs (suc n) (suc zero) f e = absurd (omega (arith, e))
    upto_pairs (suc n) (suc (suc m)) f e =
        let even : m ≡ 2 * n = omega (arith, e) in
        let first : f m ≡ f (2 * n) = ap f even in
        let second : f (suc m) ≡ f (2 * n + 1) = ap f (omega (arith, even)) in
        rw (first, second, upto_pairs n m f even) (assoc (upto n (λ k. op (f (2 * k)) (f (2 * k + 1)))) (f (2 * n)) (f (2 * n + 1)))

-- ---- sums and maxima are such
pub total_upto : (n : ℕ) (f : ℕ → ℕ) → total n f ≡ upto (λ x y. x + y) n f
unfolding total
total_upto zero f = refl
total_upto (suc n) f = ap (λ x. x + f n) (total_upto n f)

pub greatest_upto : (n : ℕ) (f : ℕ → ℕ) → greatest n f ≡ upto max n f
unfolding greatest
greatest_upto zero f = refl
greatest_upto (suc n) f = ap (λ x. max x (f n)) (greatest_upto n f)

abbrev pub added : (ℕ → ℕ) → List ℕ → ℕ
added f xs = along (λ x y. x + y) f xs

abbrev pub topmost : (ℕ → ℕ) → List ℕ → ℕ
topmost f xs = along max f xs

plus_left : (x : ℕ) → 0 + x ≡ x
plus_left x = omega arith

plus_right : (x : ℕ) → x + 0 ≡ x
plus_right x = omega arith

plus_assoc : (x y z : ℕ) → x + y + z ≡ x + (y + z)
plus_assoc x y z = omega arith

max_left : (x : ℕ) → max 0 x ≡ x
max_left x = omega arith

max_right : (x : ℕ) → max x 0 ≡ x
max_right x = omega arith

max_assoc : (x y z : ℕ) → max (max x y) z ≡ max x (max y z)
max_assoc x y z = omega arith

abbrev plus : ℕ → ℕ → ℕ
plus x y = x + y

-- one more at the end
pub added_last : (f : ℕ → ℕ) (xs : List ℕ) (x : ℕ) → added f (xs ++ x ∷ []) ≡ added f xs + f x
added_last f xs x = along_last plus plus_left plus_right plus_assoc f xs x

pub topmost_last : (f : ℕ → ℕ) (xs : List ℕ) (x : ℕ) → topmost f (xs ++ x ∷ []) ≡ max (topmost f xs) (f x)
topmost_last f xs x = along_last max max_left max_right max_assoc f xs x

-- of the values of m places, two at a time, of those pairs that pass a test, where the others are 0
module _ (p : ℕ → Bool) (n m : ℕ) (f : ℕ → ℕ) (even : m ≡ 2 * n) where
  pub added_pairs : ((k : ℕ) → k < n → p k ≡ false → f (2 * k) + f (2 * k + 1) ≡ 0) → added (λ k. f (2 * k) + f (2 * k + 1)) (filter p (range_with_len 0 n)) ≡ total m f
  added_pairs none =
      let pair : ℕ → ℕ = λ k. f (2 * k) + f (2 * k + 1) in
      along_skipped plus plus_left plus_right plus_assoc p pair 0 n (λ k h. none k (omega arith))
      ∙ along_range plus plus_left plus_right plus_assoc pair 0 n
      ∙ upto_same plus n (λ k. pair (0 + k)) pair (λ k h. ap pair (omega arith))
      ∙ sym (upto_pairs plus plus_left plus_right plus_assoc n m f even)
      ∙ sym (total_upto m f)

  pub topmost_pairs : ((k : ℕ) → k < n → p k ≡ false → max (f (2 * k)) (f (2 * k + 1)) ≡ 0) → topmost (λ k. max (f (2 * k)) (f (2 * k + 1))) (filter p (range_with_len 0 n)) ≡ greatest m f
  topmost_pairs none =
      let pair : ℕ → ℕ = λ k. max (f (2 * k)) (f (2 * k + 1)) in
      along_skipped max max_left max_right max_assoc p pair 0 n (λ k h. none k (omega arith))
      ∙ along_range max max_left max_right max_assoc pair 0 n
      ∙ upto_same max n (λ k. pair (0 + k)) pair (λ k h. ap pair (omega arith))
      ∙ sym (upto_pairs max max_left max_right max_assoc n m f even)
      ∙ sym (greatest_upto m f)

-- of the values of n places, of those that pass a test, where the others are 0
module _ (p : ℕ → Bool) (n : ℕ) (f : ℕ → ℕ) (none : (k : ℕ) → k < n → p k ≡ false → f k ≡ 0) where
  pub added_singly : added f (filter p (range_with_len 0 n)) ≡ total n f
  added_singly =
      along_skipped plus plus_left plus_right plus_assoc p f 0 n (λ k h. none k (omega arith))
      ∙ along_range plus plus_left plus_right plus_assoc f 0 n
      ∙ upto_same plus n (λ k. f (0 + k)) f (λ k h. ap f (omega arith))
      ∙ sym (total_upto n f)

  pub topmost_singly : topmost f (filter p (range_with_len 0 n)) ≡ greatest n f
  topmost_singly =
      along_skipped max max_left max_right max_assoc p f 0 n (λ k h. none k (omega arith))
      ∙ along_range max max_left max_right max_assoc f 0 n
      ∙ upto_same max n (λ k. f (0 + k)) f (λ k h. ap f (omega arith))
      ∙ sym (greatest_upto n f)
