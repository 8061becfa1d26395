-- the first request for a cell, by its place, and a cell for which there is none
use Rattle.std.proofs.Common.{◌≡◌, ℕ, zero, suc, ◌<◌, ◌≤◌, length, get_or, List, [], ◌∷◌, Bool, true, false, refl, ap, arith}
use Rattle.std.specs.{Prelude.{Some, None, ◌==◌}, List.{position, position_or_len}}
use Rattle.std.proofs.lemmas.{List.{Sums.fails_before_first, Quantifiers.position-Some}, Grind.common_steps}
use Rattle.ultra_latency.specs.{declared.open.OpenRequest.OpenRequest, Open.{request_for, without_request}}

abbrev pub is_of : ℕ → OpenRequest → Bool
is_of a o = o.cell == a

-- its request isn't found, and nothing is left out
pub record IsAbsent (a : ℕ) (os : List OpenRequest) : Type 0 where
  pub request : request_for a os ≡ None
  pub without_request : without_request a os ≡ os

pub absent_after_all : (a : ℕ) (os : List OpenRequest) → ((k : ℕ) (d : OpenRequest) → k < length os → is_of a (get_or os k d) ≡ false) → IsAbsent a os
absent_after_all a [] h = record { request = refl; without_request = refl }
absent_after_all a (o ∷ os) h =
    let f : is_of a o ≡ false = h 0 o (omega arith) in
    let rest = absent_after_all a os (λ k d l. h (suc k) d (omega arith)) in
    record { request = rw (request_for, f) rest.request; without_request = rw (without_request, f) (ap (λ xs. o ∷ xs) rest.without_request) }

pub absent : (a : ℕ) (os : List OpenRequest) → position (is_of a) os ≡ None → IsAbsent a os
absent a os e =
    let all : length os ≤ position_or_len (is_of a) os = grind (arith, common_steps) in
    absent_after_all a os (λ k d l. fails_before_first (is_of a) os k d (omega arith))

-- the first request at which the test passes is found
found_first : (a : ℕ) (os : List OpenRequest) (k : ℕ) (d : OpenRequest) → k < length os → is_of a (get_or os k d) ≡ true → ((j : ℕ) → j < k → is_of a (get_or os j d) ≡ false) → request_for a os ≡ Some (get_or os k d)
found_first a [] k d within here before = absurd (omega (arith, within))
found_first a (o ∷ os) zero d within here before = rw (request_for, here) refl
found_first a (o ∷ os) (suc k) d within here before =
    let f : is_of a o ≡ false = before 0 (omega arith) in
    rw (request_for, f) (found_first a os k d (omega (arith, within)) here (λ j l. before (suc j) (omega arith)))

pub found_at : (a : ℕ) (os : List OpenRequest) (k : ℕ) (d : OpenRequest) → position (is_of a) os ≡ Some k → request_for a os ≡ Some (get_or os k d)
found_at a os k d e =
    let first = position-Some (is_of a) os k d e in
    found_first a os k d first.0 first.1 first.2
