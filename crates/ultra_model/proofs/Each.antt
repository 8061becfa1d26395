-- what holds of each element of a list, and what is at a place of a list or table that is given
-- place by place
use Rattle.std.proofs.Common.{◌≡◌, ℕ, List, [], ◌∷◌, ◌++◌, Bool, true, false, refl, arith, ap, ◌∙◌}
use Rattle.std.specs.Prelude.{Option, Some, None, IfSome, slice_index_or, slice_get, ◌<◌, ◌+◌, zero, suc, map, drop, length}
use Rattle.std.specs.List.{AllByRecursion, range_with_len}
use Rattle.std.proofs.lemmas.List.FromFn.{get_or-map-range_with_len, length-map-range_with_len}
use Rattle.ultra_model.specs.Places.{places, table, in_table, after_leaving, present, joined}

-- ---- each element
pub each-append : {X : Type 0} (P : X → Type 0) (xs ys : List X) → AllByRecursion P xs → AllByRecursion P ys → AllByRecursion P (xs ++ ys)
each-append P [] ys a b = b
each-append P (x ∷ xs) ys a b = (a.0, each-append P xs ys a.1 b)

-- the other way
pub each-left : {X : Type 0} (P : X → Type 0) (xs ys : List X) → AllByRecursion P (xs ++ ys) → AllByRecursion P xs
each-left P [] ys a = tt
each-left P (x ∷ xs) ys a = (a.0, each-left P xs ys a.1)

pub each-right : {X : Type 0} (P : X → Type 0) (xs ys : List X) → AllByRecursion P (xs ++ ys) → AllByRecursion P ys
each-right P [] ys a = a
each-right P (x ∷ xs) ys a = each-right P xs ys a.1

-- of what is left after the first has gone
pub each-drop_first : {X : Type 0} (P : X → Type 0) (xs : List X) → AllByRecursion P xs → AllByRecursion P (drop 1 xs)
each-drop_first P [] a = tt
each-drop_first P (x ∷ xs) a = a.1

pub each-after_leaving : {X Y : Type 0} (P : X → Type 0) (o : Option Y) (xs : List X) → AllByRecursion P xs → AllByRecursion P (after_leaving o xs)
each-after_leaving P None xs a = a
each-after_leaving P (Some y) xs a = each-drop_first P xs a

pub each-first : {X : Type 0} (P : X → Type 0) (xs : List X) → AllByRecursion P xs → IfSome (slice_get xs 0) P
each-first P [] a = tt
each-first P (x ∷ xs) a = a.0

-- of what a weaker fact follows from
pub each-weaker : {X : Type 0} (P Q : X → Type 0) (xs : List X) → ((x : X) → P x → Q x) → AllByRecursion P xs → AllByRecursion Q xs
each-weaker P Q [] f a = tt
each-weaker P Q (x ∷ xs) f a = (f x a.0, each-weaker P Q xs f a.1)

pub some-weaker : {X : Type 0} (P Q : X → Type 0) (o : Option X) → ((x : X) → P x → Q x) → IfSome o P → IfSome o Q
some-weaker P Q None f a = tt
some-weaker P Q (Some x) f a = f x a

pub each-present : {X : Type 0} (P : X → Type 0) (os : List (Option X)) → AllByRecursion (λ o. IfSome o P) os → AllByRecursion P (present os)
each-present P [] a = tt
each-present P (None ∷ os) a = each-present P os a.1
each-present P (Some x ∷ os) a = (a.0, each-present P os a.1)

pub each-joined : {X : Type 0} (P : X → Type 0) (xss : List (List X)) → AllByRecursion (λ xs. AllByRecursion P xs) xss → AllByRecursion P (joined xss)
each-joined P [] a = tt
each-joined P (xs ∷ xss) a = each-append P xs (joined xss) a.0 (each-joined P xss a.1)

-- what holds of both values holds of the one that a test picks; either may rest on how the test ends
pub if_tested : {X : Type 0} (b : Bool) (P : X → Type 0) (x y : X) → (b ≡ true → P x) → (b ≡ false → P y) → P (elim b [ true ↦ x | false ↦ y ])
if_tested true P x y f g = f refl
if_tested false P x y f g = g refl

-- ---- the value at a place
pub places_at : {X : Type 0} (n : ℕ) (f : ℕ → X) (k : ℕ) (d : X) → k < n → slice_index_or (places n f) k d ≡ f k
unfolding places
places_at n f k d h = get_or-map-range_with_len f 0 n k k d h (omega arith)

pub table_at : {X : Type 0} (m n : ℕ) (f : ℕ → ℕ → X) (s x : ℕ) (d : X) → s < m → x < n → in_table d (table m n f) s x ≡ f s x
table_at m n f s x d hs hx = rw (places_at m (λ s. places n (λ x. f s x)) s [] hs) (places_at n (λ x. f s x) x d hx)

pub length-places : {X : Type 0} (n : ℕ) (f : ℕ → X) → length (places n f) ≡ n
unfolding places
length-places n f = length-map-range_with_len f 0 n

more_from : {X : Type 0} (f : ℕ → X) (a n : ℕ) → map f (range_with_len a (suc n)) ≡ map f (range_with_len a n) ++ f (a + n) ∷ []
more_from f a zero = let e : a ≡ a + 0 = omega arith in ap (λ k. f k ∷ []) e
more_from f a (suc n) = let e : a + 1 + n ≡ a + suc n = omega arith in ap (λ xs. f a ∷ xs) (more_from f (a + 1) n) ∙ ap (λ k. f a ∷ map f (range_with_len (a + 1) n) ++ f k ∷ []) e

pub places_none : {X : Type 0} (f : ℕ → X) → places 0 f ≡ []
unfolding places
places_none f = refl

-- one place more
pub places_more : {X : Type 0} (n : ℕ) (f : ℕ → X) → places (n + 1) f ≡ places n f ++ f n ∷ []
unfolding places
places_more n f =
    let next : n + 1 ≡ suc n = omega arith in
    let here : 0 + n ≡ n = omega arith in
    ap (λ k. map f (range_with_len 0 k)) next ∙ more_from f 0 n ∙ ap (λ k. map f (range_with_len 0 n) ++ f k ∷ []) here

-- what holds at each place below n holds of each element
each-from : {X : Type 0} (P : X → Type 0) (f : ℕ → X) (a n : ℕ) → ((k : ℕ) → k < a + n → P (f k)) → AllByRecursion P (map f (range_with_len a n))
each-from P f a zero h = tt
each-from P f a (suc n) h = (h a (omega arith), each-from P f (a + 1) n (λ k l. h k (omega arith)))

pub each-places : {X : Type 0} (P : X → Type 0) (n : ℕ) (f : ℕ → X) → ((k : ℕ) → k < n → P (f k)) → AllByRecursion P (places n f)
unfolding places
each-places P n f h = each-from P f 0 n (λ k l. h k (omega arith))
