-- what slots hold, where one of them changes
use Rattle.std.proofs.Common.{◌≡◌, ◌≢◌, ⊎_elim, ℕ, zero, suc, ◌+◌, ◌*◌, ◌-◌, ◌^◌, ◌<◌, ◌≤◌, List, [], ◌∷◌, ◌++◌, length, set, get_or, replicate, true, false, ◌==◌, ◌&&◌, refl, arith, sym, ap, ◌∙◌, append_assoc, Some}
use Rattle.std.specs.Prelude.{slice_get}
use Rattle.std.proofs.{lemmas.{Bool.cases_lt, List.append-nil, Nat.row_fits as fit_rows, Option.{slice_get_past, slice_get_read}}, Math.Nat.mul-le-mul_right}
use Rattle.ultra_model.specs.Balance.{weight}
use Rattle.ultra_serial_law.specs.{Tree.kept, Explicable.held_by}
use Rattle.ultra_tree.specs.{Seen.seen, declared.slots.Slot.{Slot, TheVariants.{Free, Held}}}
use Rattle.ultra_tree.specs.Slots.{trees_under, is_slot_for, is_slot_free, trees_in_slot, trees_in_slots, IsFirstFor}
use Rattle.ultra_tree.proofs.{Counted.{equal_test, equal_of}, Under.{and_false, under_later, under_append, held_append}}

-- ---- reading a list that is changed at a place
module _ {X : Type 0} where
  pub read_same : (xs : List X) (i : ℕ) (x : X) → i < length xs → slice_get (set xs i x) i ≡ Some x
  read_same [] i x l = absurd (omega (arith, l))
  read_same (y ∷ xs) zero x l = refl
  read_same (y ∷ xs) (suc i) x l = read_same xs i x (omega (arith, l))

  pub read_other : (xs : List X) (i j : ℕ) (x : X) → j ≢ i → slice_get (set xs i x) j ≡ slice_get xs j
  read_other [] i j x ne = refl
  read_other (y ∷ xs) zero zero x ne = absurd (ne refl)
  read_other (y ∷ xs) zero (suc j) x ne = refl
  read_other (y ∷ xs) (suc i) zero x ne = refl
  read_other (y ∷ xs) (suc i) (suc j) x ne = read_other xs i j x (λ e. ne (ap suc e))

-- place i isn't among the k places from f on
abbrev pub IsBeside : ℕ → ℕ → ℕ → Type 0
IsBeside f k i = (j : ℕ) → f ≤ j → j < f + k → j ≢ i

-- ---- some slots, and those behind them
module _ {A : Type 0} (p : ℕ) where
  -- k slots and then n more
  pub more_slots : (ss : List (Slot A)) (f k n : ℕ) → trees_in_slots p ss f (k + n) ≡ trees_in_slots p ss f k ++ trees_in_slots p ss (f + k) n
  more_slots ss f zero n =
      let none : 0 + n ≡ n = omega arith in
      let here : f ≡ f + 0 = omega arith in
      ap (λ k. trees_in_slots p ss f k) none ∙ ap (λ i. trees_in_slots p ss i n) here
  more_slots ss f (suc k) n =
      let all : suc k + n ≡ suc (k + n) = omega arith in
      let next : f + 1 + k ≡ f + suc k = omega arith in
      ap (λ j. trees_in_slots p ss f j) all
      ∙ ap (λ us. trees_in_slot p (slice_get ss f) ++ us) (more_slots ss (f + 1) k n ∙ ap (λ i. trees_in_slots p ss (f + 1) k ++ trees_in_slots p ss i n) next)
      ∙ sym (append_assoc (trees_in_slot p (slice_get ss f)) (trees_in_slots p ss (f + 1) k) (trees_in_slots p ss (f + suc k) n))

  -- one among them
  pub slots_around : (ss : List (Slot A)) (f k i : ℕ) → f ≤ i → i < f + k → trees_in_slots p ss f k ≡ trees_in_slots p ss f (i - f) ++ (trees_in_slot p (slice_get ss i) ++ trees_in_slots p ss (i + 1) (f + k - (i + 1)))
  slots_around ss f k i from to =
      let all : k ≡ (i - f) + suc (f + k - (i + 1)) = omega (arith, from, to) in
      let here : f + (i - f) ≡ i = omega (arith, from) in
      ap (λ n. trees_in_slots p ss f n) all
      ∙ (more_slots ss f (i - f) (suc (f + k - (i + 1))) ∙ ap (λ j. trees_in_slots p ss f (i - f) ++ trees_in_slots p ss j (suc (f + k - (i + 1)))) here)

  -- another slot changes
  pub slots_beside : (ss : List (Slot A)) (f k i : ℕ) (s : Slot A) → IsBeside f k i → trees_in_slots p (set ss i s) f k ≡ trees_in_slots p ss f k
  slots_beside ss f zero i s beside = refl
  slots_beside ss f (suc k) i s beside =
      let apart : f ≢ i = beside f (omega arith) (omega arith) in
      let rest = λ (j : ℕ) (l : f + 1 ≤ j) (h : j < f + 1 + k). beside j (omega (arith, l)) (omega (arith, h)) in
      ap (λ o. trees_in_slot p o ++ trees_in_slots p (set ss i s) (f + 1) k) (read_other ss i f s apart)
      ∙ ap (λ us. trees_in_slot p (slice_get ss f) ++ us) (slots_beside ss (f + 1) k i s rest)

  -- one among them changes
  pub slots_changed : (ss : List (Slot A)) (f k i : ℕ) (s : Slot A) → f ≤ i → i < f + k → i < length ss → trees_in_slots p (set ss i s) f k ≡ trees_in_slots p ss f (i - f) ++ (trees_in_slot p (Some s) ++ trees_in_slots p ss (i + 1) (f + k - (i + 1)))
  slots_changed ss f k i s from to within =
      slots_around (set ss i s) f k i from to
      ∙ (ap (λ us. us ++ (trees_in_slot p (slice_get (set ss i s) i) ++ trees_in_slots p (set ss i s) (i + 1) (f + k - (i + 1)))) (slots_beside ss f (i - f) i s (λ j l h. omega (arith, l, h, from)))
      ∙ (ap (λ o. trees_in_slots p ss f (i - f) ++ (trees_in_slot p o ++ trees_in_slots p (set ss i s) (i + 1) (f + k - (i + 1)))) (read_same ss i s within)
      ∙ ap (λ us. trees_in_slots p ss f (i - f) ++ (trees_in_slot p (Some s) ++ us)) (slots_beside ss (i + 1) (f + k - (i + 1)) i s (λ j l h. omega (arith, l)))))

  -- slots that aren't there hold nothing
  pub slots_past : (ss : List (Slot A)) (f k : ℕ) → length ss ≤ f → trees_in_slots p ss f k ≡ []
  slots_past ss f zero l = refl
  slots_past ss f (suc k) l =
      ap (λ o. trees_in_slot p o ++ trees_in_slots p ss (f + 1) k) (slice_get_past ss f l) ∙ slots_past ss (f + 1) k (omega (arith, l))

-- nor do free slots
free_slot : (A : Type 0) (p n i : ℕ) → trees_in_slot p (slice_get (replicate {A = Slot A} n Free) i) ≡ []
free_slot A p zero i = refl
free_slot A p (suc n) zero = refl
free_slot A p (suc n) (suc i) = free_slot A p n i

pub slots_free : (A : Type 0) (p n f k : ℕ) → trees_in_slots p (replicate {A = Slot A} n Free) f k ≡ []
slots_free A p n f zero = refl
slots_free A p n f (suc k) = ap (λ us. us ++ trees_in_slots p (replicate {A = Slot A} n Free) (f + 1) k) (free_slot A p n f) ∙ slots_free A p n (f + 1) k

-- ---- the slots of two processing elements
pub row_within : (n m p : ℕ) → p < n → p * m + m ≤ n * m
row_within n m p l = let le = mul-le-mul_right {m = p + 1} {n = n} m (omega (arith, l)) in omega (arith, le)

pub rows_apart : (m p q i : ℕ) → p ≢ q → p * m ≤ i → i < p * m + m → IsBeside (q * m) m i
rows_apart m p q i ne from to j l h e =
    ⊎_elim
    (λ (x : p < q). absurd (omega (arith, row_within q m p x, to, l, e)))
    (λ (x : q ≤ p). absurd (omega (arith, row_within p m q (omega (arith, x, ne)), from, h, e)))
    (cases_lt p q)

-- both ends of a row are numbers of 64 bits
pub row_fits : (p m : ℕ) → p < 2 ^ 32 → m < 2 ^ 32 → p * m + m < 2 ^ 64
row_fits p m l h = omega (arith, fit_rows p m (2 ^ 32) (2 ^ 32 - 1) l (omega (arith, h)))

pub row_past : (n m p : ℕ) → n ≤ p → n * m ≤ p * m
row_past n m p l = mul-le-mul_right {m = n} {n = p} m l

-- ---- a slot that is read
module _ {A : Type 0} (p a : ℕ) where
  under_slot : (s : Slot A) → is_slot_for a s ≡ false → trees_under p a (trees_in_slot p (Some s)) ≡ []
  under_slot Free e = refl
  under_slot (Held b t) e = under_later p a (kept p b (seen b t)) [] (ap (λ x. (p == p) && x) e ∙ and_false (p == p))

  slot_for : (m : ℕ) (ss : List (Slot A)) (i : ℕ) (s : Slot A) → slice_get ss i ≡ Some s → is_slot_for a s ≡ true → p * m ≤ i → i < p * m + m → trees_under p a (trees_in_slots p ss (p * m) (i - p * m)) ≡ [] → IsFirstFor m p a ss i
  slot_for m ss i Free at e from to none = absurd cc
  slot_for m ss i (Held b t) at e from to none =
      record { tree = t; at = at ∙ ap (λ c. Some (Held c t)) (equal_of b a e); from = from; to = to; before = none }

  pub first_for : (m : ℕ) (ss : List (Slot A)) (i : ℕ) (s : Slot A) → i < length ss → s ≡ get_or ss i s → is_slot_for a s ≡ true → p * m ≤ i → i < p * m + m → trees_under p a (trees_in_slots p ss (p * m) (i - p * m)) ≡ [] → IsFirstFor m p a ss i
  first_for m ss i s within is e from to none = slot_for m ss i s (slice_get_read ss (length ss) i s refl within is) e from to none

  -- one slot more
  pub slots_next : (ss : List (Slot A)) (f i : ℕ) → f ≤ i → trees_in_slots p ss f (i + 1 - f) ≡ trees_in_slots p ss f (i - f) ++ trees_in_slot p (slice_get ss i)
  slots_next ss f i from =
      let none : f + (i + 1 - f) - (i + 1) ≡ 0 = omega (arith, from) in
      slots_around p ss f (i + 1 - f) i from (omega (arith, from))
      ∙ ap (λ us. trees_in_slots p ss f (i - f) ++ us) (ap (λ k. trees_in_slot p (slice_get ss i) ++ trees_in_slots p ss (i + 1) k) none ∙ append-nil (trees_in_slot p (slice_get ss i)))

  pub still_none : (ss : List (Slot A)) (f i : ℕ) (s : Slot A) → f ≤ i → i < length ss → s ≡ get_or ss i s → is_slot_for a s ≡ false → trees_under p a (trees_in_slots p ss f (i - f)) ≡ [] → trees_under p a (trees_in_slots p ss f (i + 1 - f)) ≡ []
  still_none ss f i s from within is e none =
      ap (λ us. trees_under p a us) (slots_next ss f i from)
      ∙ (under_append p a (trees_in_slots p ss f (i - f)) (trees_in_slot p (slice_get ss i))
      ∙ (ap (λ ts. ts ++ trees_under p a (trees_in_slot p (slice_get ss i))) none
      ∙ (ap (λ o. trees_under p a (trees_in_slot p o)) (slice_get_read ss (length ss) i s refl within is) ∙ under_slot s e)))

-- a slot that is read and is free
module _ {A : Type 0} where
  free_slot_at : (ss : List (Slot A)) (i : ℕ) (s : Slot A) → slice_get ss i ≡ Some s → is_slot_free s ≡ true → slice_get ss i ≡ Some Free
  free_slot_at ss i Free at e = at
  free_slot_at ss i (Held b t) at e = absurd cc

  pub free_at : (ss : List (Slot A)) (i : ℕ) (s : Slot A) → i < length ss → s ≡ get_or ss i s → is_slot_free s ≡ true → slice_get ss i ≡ Some Free
  free_at ss i s within is e = free_slot_at ss i s (slice_get_read ss (length ss) i s refl within is) e

-- ---- how many trees there are
module _ {A : Type 0} (p : ℕ) where
  held_slot : (s : Slot A) → is_slot_free s ≡ false → held_by p (trees_in_slot p (Some s)) ≡ 1
  held_slot Free e = absurd cc
  held_slot (Held b t) e = let one = ap weight (equal_test p p refl) in omega (arith, one)

  no_slot : (s : Slot A) → is_slot_free s ≡ true → held_by p (trees_in_slot p (Some s)) ≡ 0
  no_slot Free e = refl
  no_slot (Held b t) e = absurd cc

  module _ (ss : List (Slot A)) (i : ℕ) (s : Slot A) (within : i < length ss) (is : s ≡ get_or ss i s) where
    pub room_left : (k : ℕ) → is_slot_free s ≡ false → held_by p (trees_in_slots p ss i (suc k)) < suc k → held_by p (trees_in_slots p ss (i + 1) k) < k
    room_left k e l =
        let here = ap (λ o. held_by p (trees_in_slot p o)) (slice_get_read ss (length ss) i s refl within is) in
        omega (arith, l, here, held_slot s e, held_append p (trees_in_slot p (slice_get ss i)) (trees_in_slots p ss (i + 1) k))

    module _ (f : ℕ) (from : f ≤ i) where
      next_held : held_by p (trees_in_slots p ss f (i + 1 - f)) ≡ held_by p (trees_in_slots p ss f (i - f)) + held_by p (trees_in_slot p (Some s))
      next_held =
          ap (λ us. held_by p us) (slots_next p 0 ss f i from)
          ∙ (held_append p (trees_in_slots p ss f (i - f)) (trees_in_slot p (slice_get ss i))
          ∙ ap (λ o. held_by p (trees_in_slots p ss f (i - f)) + held_by p (trees_in_slot p o)) (slice_get_read ss (length ss) i s refl within is))

      pub one_more : is_slot_free s ≡ false → held_by p (trees_in_slots p ss f (i + 1 - f)) ≡ held_by p (trees_in_slots p ss f (i - f)) + 1
      one_more e = omega (arith, next_held, held_slot s e)

      pub none_more : is_slot_free s ≡ true → held_by p (trees_in_slots p ss f (i + 1 - f)) ≡ held_by p (trees_in_slots p ss f (i - f))
      none_more e = omega (arith, next_held, no_slot s e)
