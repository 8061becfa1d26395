-- where a message is, there is no record of its reference from there on, and no other message of it
-- anywhere
use Rattle.std.proofs.Common.{◌≡◌, ◌≢◌, ℕ, zero, suc, ◌+◌, ◌<◌, ◌≤◌, List, [], ◌∷◌, Bool, true, arith, ap, ⊎_elim}
use Rattle.std.specs.{Prelude.{Option, Some, None, IfSome}, List.AllByRecursion}
use Rattle.std.proofs.lemmas.Bool.{cases_lt}
use Rattle.ultra_switch.specs.declared.QueueEntry.{QueueEntry}
use Rattle.ultra_model.specs.{Machine.{Settings, Machine, size, lane_at}, Ranges.AreInRange}
use Rattle.ultra_model.specs.Balance.{count, count_option, total, entry_passes, lane_on_way, on_way, IsBalanced}
use Rattle.ultra_model.proofs.{Sums.{total_next, total_term}, Counting.is_reference, ReplyBalance.opened_once, Routes.route}
use Rattle.ultra_serial_law.proofs.Tidy.{marked_in, lanes_of, marked_of, pending_of, up_to, IsTidy, total_gain, total_most, marked_weight}
use Rattle.ultra_serial_law.proofs.Forest.{record_at, position_of, find_none}

-- ---- what is in a list counts
pub each_in : {X : Type 0} (P Q : X → Type 0) (xs : List X) → ((x : X) → ((t : X → Bool) → t x ≡ true → 1 ≤ count t xs) → P x → Q x) → AllByRecursion P xs → AllByRecursion Q xs
each_in P Q [] f h = tt
each_in P Q (x ∷ xs) f h = (
  f x (λ t e. rw e (omega arith)) h.0,
  each_in P Q xs (λ y counts k. f y (λ t e. let rest = counts t e in omega (arith, rest)) k) h.1,
)

pub some_in : {X : Type 0} (P Q : X → Type 0) (o : Option X) → ((x : X) → ((t : X → Bool) → t x ≡ true → 1 ≤ count_option t o) → P x → Q x) → IfSome o P → IfSome o Q
some_in P Q None f h = tt
some_in P Q (Some x) f h = f x (λ t e. rw e (omega arith)) h

-- two terms of a sum
pub total_both : (n : ℕ) (f : ℕ → ℕ) (j k : ℕ) → j < n → k < n → j ≢ k → f j + f k ≤ total n f
total_both zero f j k hj hk apart = absurd (omega (arith, hj))
total_both (suc n) f j k hj hk apart =
    ⊎_elim (λ l. ⊎_elim (λ i. let rest = total_both n f j k l i apart in omega (arith, total_next n f))
    (λ i. let same : f k ≡ f n = ap f (omega (arith, hk, i)) in
    let rest = total_term n f j l in omega (arith, total_next n f)) (cases_lt k n))
    (λ l. let here : f j ≡ f n = ap f (omega (arith, hj, l)) in
    let less : k < n = omega (arith, hj, hk, l, apart) in
    let rest = total_term n f k less in omega (arith, total_next n f)) (cases_lt j n)

pub marked_within : (t : ℕ → ℕ → Bool) (es : List QueueEntry) → marked_in t es ≤ count (entry_passes t) es
marked_within t [] = omega arith
marked_within t (e ∷ es) = omega (arith, marked_within t es, marked_weight e.combined (t e.request.pe e.request.cell))

module _ (c : Settings) (m : Machine) (t : ℕ → ℕ → Bool) where
  -- a reference is at a place below b
  abbrev pub IsBelow : ℕ → Type 0
  IsBelow b = (s : ℕ) → b ≤ s → s < c.stages → marked_of t c m s + 1 ≤ up_to t c m s

  pub marked_lanes : (s : ℕ) → marked_of t c m s ≤ lanes_of t c m s
  marked_lanes s = total_most (size c) (λ x. lane_on_way t (lane_at m s x)) (λ x. marked_in t (lane_at m s x).queue) (λ x h. omega (arith, marked_within t (lane_at m s x).queue))

  -- an unmarked entry, or a record in which it is the partner
  pub lane_more : (s x : ℕ) → x < size c → marked_in t (lane_at m s x).queue + 1 ≤ lane_on_way t (lane_at m s x) → marked_of t c m s + 1 ≤ lanes_of t c m s
  lane_more s x h l =
      let gain = total_gain (size c) (λ z. lane_on_way t (lane_at m s z)) (λ z. marked_in t (lane_at m s z).queue) x h (λ z k. omega (arith, marked_within t (lane_at m s z).queue)) in
      omega (arith, gain, l)

  pub below_lane : (s x : ℕ) → s < c.stages → x < size c → marked_in t (lane_at m s x).queue + 1 ≤ lane_on_way t (lane_at m s x) → IsBelow s
  below_lane s x hs hx l i h k =
      let more = lane_more s x hx l in
      let next = total_next i (λ j. lanes_of t c m j) in
      ⊎_elim (λ z. let before = total_term i (λ j. lanes_of t c m j) s z in omega (arith, more, next, before, marked_lanes i))
      (λ z. let same : s ≡ i = omega (arith, h, z) in let here = rw same at more in omega (arith, here, next)) (cases_lt s i)

  -- any entry of a stage, for the stages after it
  pub below_stage : (s : ℕ) → s < c.stages → 1 ≤ lanes_of t c m s → IsBelow (suc s)
  below_stage s hs l i h k =
      let next = total_next i (λ j. lanes_of t c m j) in
      let before = total_term i (λ j. lanes_of t c m j) s (omega arith) in
      omega (arith, l, next, before, marked_lanes i)

  pub below_pending : 1 ≤ pending_of t c m → IsBelow 0
  below_pending l i h k =
      let next = total_next i (λ j. lanes_of t c m j) in
      omega (arith, l, next, marked_lanes i)

module _ (c : Settings) (range : AreInRange c) (m : Machine) (b : IsBalanced c m) where
  -- a reference has at most one message
  pub once : (p a : ℕ) → p < size c → on_way (is_reference p a) c m ≤ 1
  once p a h = omega (arith, b.balanced (is_reference p a), opened_once c range m p a h, b.different p h a)

  pub position_small : (s p a : ℕ) → s < c.stages → p < size c → position_of c s p a < size c
  position_small s p a hs hp = (route c range s p a hs hp).next_small

  -- from the place of a message on there is no record of its reference
  pub clear : IsTidy c m → (p a from s : ℕ) → p < size c → IsBelow c m (is_reference p a) from → from ≤ s → s < c.stages → record_at c m s p a ≡ None
  clear y p a from s hp h l hs =
      let x = position_of c s p a in
      let beyond = y.beyond p a s x hs (position_small s p a hs hp) in
      let below = h s l hs in
      find_none p a (lane_at m s x).records (omega (arith, beyond, below, opened_once c range m p a hp, b.different p hp a))
