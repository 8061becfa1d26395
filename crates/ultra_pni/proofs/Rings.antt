-- requests in a ring over 8 places
use Rattle.std.proofs.Common.{◌≡◌, ◌≢◌, ℕ, zero, suc, ◌+◌, ◌-◌, ◌%◌, ◌<◌, length, List, [], ◌∷◌, ◌++◌, refl, arith, ap}
use Rattle.std.specs.Prelude.{Some, drop, slice_get, slice_set, slice_index_or}
use Rattle.std.proofs.lemmas.List.{get_or-set_same, get_or-set_other}
use Rattle.ultra_msg.specs.declared.Request.{Request}
use Rattle.ultra_pni.specs.Ring.{requests_in_ring, no_request}

pub length-requests_in_ring : (xs : List Request) (first n : ℕ) → length (requests_in_ring xs first n) ≡ n
length-requests_in_ring xs first zero = refl
length-requests_in_ring xs first (suc n) = ap suc (length-requests_in_ring xs (first + 1) n)

-- only the place matters, not the number of rounds
pub same_place : (xs : List Request) (a b n : ℕ) → a % 8 ≡ b % 8 → requests_in_ring xs a n ≡ requests_in_ring xs b n
same_place xs a b zero same = refl
same_place xs a b (suc n) same =
    let next : (a + 1) % 8 ≡ (b + 1) % 8 = omega (arith, same) in
    rw (requests_in_ring, same) (ap (λ rs. slice_index_or xs (b % 8) no_request ∷ rs) (same_place xs (a + 1) (b + 1) n next))

pub get-requests_in_ring : (xs : List Request) (first n k : ℕ) → k < n → slice_get (requests_in_ring xs first n) k ≡ Some (slice_index_or xs ((first + k) % 8) no_request)
get-requests_in_ring xs first zero k within = absurd (omega arith)
get-requests_in_ring xs first (suc n) zero within =
    let here : (first + 0) % 8 ≡ first % 8 = omega arith in
    rw here refl
get-requests_in_ring xs first (suc n) (suc k) within =
    let here : (first + suc k) % 8 ≡ (first + 1 + k) % 8 = omega arith in
    rw here (get-requests_in_ring xs (first + 1) n k (omega arith))

-- a request is put behind the others
put_behind : (xs : List Request) (first n t : ℕ) (r : Request) → t < length xs → (first + n) % 8 ≡ t → n < 8 → requests_in_ring (slice_set xs t r) first (suc n) ≡ requests_in_ring xs first n ++ r ∷ []
put_behind xs first zero t r within there few =
    let here : first % 8 ≡ t = omega (arith, there) in
    rw (requests_in_ring, here, get_or-set_same xs t r no_request within) refl
put_behind xs first (suc n) t r within there few =
    let other : first % 8 ≢ t = omega (arith, there) in
    let next : (first + 1 + n) % 8 ≡ t = omega (arith, there) in
    rw (requests_in_ring, get_or-set_other xs t (first % 8) r no_request other) (ap (λ rs. slice_index_or xs (first % 8) no_request ∷ rs) (put_behind xs (first + 1) n t r within next (omega arith)))

pub push-requests_in_ring : (xs : List Request) (first n : ℕ) (r : Request) → length xs ≡ 8 → n < 8 → requests_in_ring (slice_set xs ((first + n) % 8) r) first (n + 1) ≡ requests_in_ring xs first n ++ r ∷ []
push-requests_in_ring xs first n r long few =
    let more : n + 1 ≡ suc n = omega arith in
    rw more (put_behind xs first n ((first + n) % 8) r (omega (arith, long)) refl few)

-- the first request leaves
pub pop-requests_in_ring : (xs : List Request) (first n : ℕ) → n ≢ 0 → requests_in_ring xs ((first + 1) % 8) (n - 1) ≡ drop 1 (requests_in_ring xs first n)
pop-requests_in_ring xs first zero some = absurd (omega arith)
pop-requests_in_ring xs first (suc n) some =
    let fewer : suc n - 1 ≡ n = omega arith in
    rw fewer (same_place xs ((first + 1) % 8) (first + 1) n (omega arith))
