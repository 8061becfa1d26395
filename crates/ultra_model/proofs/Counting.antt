-- how the counts of messages and open cells change as they move
use Rattle.std.proofs.Common.{◌≡◌, ℕ, ◌+◌, ◌≤◌, List, [], ◌∷◌, ◌++◌, Bool, true, false, refl, arith, ap, length, cond, ◌⊎◌, inl, inr}
use Rattle.std.specs.Prelude.{Option, Some, None, IfSome, slice_get, ◌==◌, ◌&&◌, nat_lt}
use Rattle.std.specs.List.{filter, AllByRecursion}
use Rattle.std.proofs.lemmas.Bool.{eqb-true}
use Rattle.ultra_msg.specs.declared.{Request.Request, ReplyMessage.ReplyMessage}
use Rattle.ultra_switch.specs.{declared.{QueueEntry.QueueEntry, WaitRecord.WaitRecord}, Split.{is_of, records_after, replies_of, old_reply, new_reply}}
use Rattle.ultra_switch.specs.Arrive.{Lane, Combination, entry, behind, can_combine, wait_record, combine, combine_within, after_arrival, arrive}
use Rattle.ultra_mem.specs.{declared.Placed.Placed, Serve.{ModuleState, after_serving, serve}}
use Rattle.ultra_pni.specs.{declared.OpenCell.OpenCell, Interface.closed}
use Rattle.ultra_model.specs.{Places.after_leaving, Phases.{records_left, replies_made, arrive_all}}
use Rattle.ultra_model.specs.Balance.{weight, count, count_option, passes, reply_passes, entry_passes, record_passes, replies_on_way, lane_on_way, module_on_way}
use Rattle.ultra_model.proofs.Each.{if_tested}

-- ---- lists
pub count-append : {X : Type 0} (t : X → Bool) (xs ys : List X) → count t (xs ++ ys) ≡ count t xs + count t ys
count-append t [] ys = omega arith
count-append t (x ∷ xs) ys = omega (arith, count-append t xs ys)

-- what leaves is the first
pub count-first : {X : Type 0} (t : X → Bool) (xs : List X) → count_option t (slice_get xs 0) + count t (after_leaving (slice_get xs 0) xs) ≡ count t xs
count-first t [] = omega arith
count-first t (x ∷ xs) = refl

-- what leaves is the first or nothing
pub count-leaving : {X : Type 0} (t : X → Bool) (o : Option X) (xs : List X) → (o ≡ slice_get xs 0) ⊎ (o ≡ None) → count_option t o + count t (after_leaving o xs) ≡ count t xs
count-leaving t o xs (inl e) = rw e (count-first t xs)
count-leaving t o xs (inr e) = rw e (omega arith)

pub count-none : {X : Type 0} (t : X → Bool) (xs : List X) → AllByRecursion (λ x. t x ≡ false) xs → count t xs ≡ 0
count-none t [] h = refl
count-none t (x ∷ xs) h = rw h.0 (omega (arith, count-none t xs h.1))

pub count-all : {X : Type 0} (t : X → Bool) (xs : List X) → AllByRecursion (λ x. t x ≡ true) xs → count t xs ≡ length xs
count-all t [] h = refl
count-all t (x ∷ xs) h = rw h.0 (omega (arith, count-all t xs h.1))

pub false_of_zero : (b : Bool) (n : ℕ) → weight b + n ≤ 0 → b ≡ false
false_of_zero true n h = absurd (omega (arith, h))
false_of_zero false n h = refl

-- where none is counted, none passes
pub none-counted : {X : Type 0} (t : X → Bool) (xs : List X) → count t xs ≤ 0 → AllByRecursion (λ x. t x ≡ false) xs
none-counted t [] h = tt
none-counted t (x ∷ xs) h = (false_of_zero (t x) (count t xs) h, none-counted t xs (omega (arith, h)))

-- tests that agree on each of a list count as many
pub count-same : {X : Type 0} (t u : X → Bool) (xs : List X) → AllByRecursion (λ x. t x ≡ u x) xs → count t xs ≡ count u xs
count-same t u [] h = refl
count-same t u (x ∷ xs) h = rw h.0 (ap (λ n. weight (u x) + n) (count-same t u xs h.1))

pub both_true : (a b : Bool) → (a && b) ≡ true → (a ≡ true) × (b ≡ true)
both_true true b h = (refl, h)
both_true false b h = cc

-- each of several goes one of two ways
one_of_two : {X : Type 0} (t : X → Bool) (p q : Bool) (x : X) (ps qs xs : List X) → weight p + weight q ≡ 1 → count t ps + count t qs ≡ count t xs
    → count t (cond p (x ∷ ps) ps) + count t (cond q (x ∷ qs) qs) ≡ weight (t x) + count t xs
one_of_two t true true x ps qs xs e h = absurd (omega (arith, e))
one_of_two t true false x ps qs xs e h = omega (arith, h)
one_of_two t false true x ps qs xs e h = omega (arith, h)
one_of_two t false false x ps qs xs e h = absurd (omega (arith, e))

pub count-filters : {X : Type 0} (t a b : X → Bool) (xs : List X) → ((x : X) → weight (a x) + weight (b x) ≡ 1) → count t (filter a xs) + count t (filter b xs) ≡ count t xs
count-filters t a b [] h = refl
count-filters t a b (x ∷ xs) h = one_of_two t (a x) (b x) x (filter a xs) (filter b xs) xs (h x) (count-filters t a b xs h)

-- the test for one reference
abbrev pub is_reference : ℕ → ℕ → ℕ → ℕ → Bool
is_reference p a q b = (q == p) && (b == a)

pub none_false : {X : Type 0} (xs : List X) → count (λ x. false) xs ≡ 0
none_false [] = refl
none_false (x ∷ xs) = omega (arith, none_false xs)

pub head_counted : (t : ReplyMessage → Bool) (rs : List ReplyMessage) (r : ReplyMessage) → slice_get rs 0 ≡ Some r → t r ≡ true → 1 ≤ count t rs
head_counted t [] r e k = absurd cc
head_counted t (x ∷ xs) r e k =
    let same : x ≡ r = cc in
    rw (same, k) (omega arith)

pub some_known : {X : Type 0} (P Q : X → Type 0) (o : Option X) → IfSome o P → ((x : X) → o ≡ Some x → P x → Q x) → IfSome o Q
some_known P Q None h f = tt
some_known P Q (Some x) h f = f x refl h

-- ---- places, and the references whose processing element and cell pass a test
module _ (t : ℕ → ℕ → Bool) where
  -- a combination leaves as many in the queue, and its partner is for the same cell
  abbrev CombinesWell : Request → List QueueEntry → Option Combination → Type 0
  CombinesWell r es o = IfSome o (λ c. (count (entry_passes t) c.queue ≡ count (entry_passes t) es) × (c.old.request.cell ≡ r.cell))

  behind_well : (r : Request) (e : QueueEntry) (es : List QueueEntry) (o : Option Combination) → CombinesWell r es o → CombinesWell r (e ∷ es) (behind e o)
  behind_well r e es None h = tt
  behind_well r e es (Some c) h = (ap (λ n. weight (entry_passes t e) + n) h.0, h.1)

  combine_well : (r : Request) (es : List QueueEntry) → CombinesWell r es (combine r es)
  combine_well r [] = tt
  combine_well r (e ∷ es) =
      if_tested (can_combine r e) (λ o. CombinesWell r (e ∷ es) o) _ _
      (λ z. (refl, eqb-true _ _ (both_true _ _ z).1))
      (λ z. behind_well r e es (combine r es) (combine_well r es))

  arrived_way : (l : Lane) (r : Request) (o : Option Combination) → CombinesWell r l.queue o → lane_on_way t (after_arrival l r o) ≡ lane_on_way t l + weight (passes t r)
  arrived_way l r None h = omega (arith, count-append (entry_passes t) l.queue (entry r false ∷ []))
  arrived_way l r (Some c) h =
      let same : t r.pe c.old.request.cell ≡ t r.pe r.cell = ap (λ a. t r.pe a) h.1 in
      let kept = count-append (record_passes t) l.records (wait_record c.old r ∷ []) in
      rw (kept, h.0, same) (omega arith)

  arrive_way : (w : ℕ) (l : Lane) (r : Request) → lane_on_way t (arrive w l r) ≡ lane_on_way t l + weight (passes t r)
  arrive_way w l r = arrived_way l r (combine_within w l r)
      (if_tested (nat_lt (length l.records) w) (λ o. CombinesWell r l.queue o) _ _ (λ z. combine_well r l.queue) (λ z. tt))

  -- each arrival is one message more
  pub arrive_all_way : (w : ℕ) (l : Lane) (rs : List Request) → lane_on_way t (arrive_all w l rs) ≡ lane_on_way t l + count (passes t) rs
  arrive_all_way w l [] = omega arith
  arrive_all_way w l (r ∷ rs) = omega (arith, arrive_all_way w (arrive w l r) rs, arrive_way w l r)

  -- a split turns a record's partner back into a reply
  split_step : (m : ReplyMessage) (w : WaitRecord) (ws : List WaitRecord) (b : Bool) → is_of m w ≡ b
      → count (record_passes t) (records_after m ws) + replies_on_way t (replies_of m ws) ≡ count (record_passes t) ws + weight (t m.pe m.cell)
      → count (record_passes t) (elim b [ true ↦ ws | false ↦ w ∷ records_after m ws ]) + replies_on_way t (elim b [ true ↦ old_reply m w ∷ new_reply m w ∷ [] | false ↦ replies_of m ws ]) ≡ weight (record_passes t w) + count (record_passes t) ws + weight (t m.pe m.cell)
  split_step m w ws true e h =
      let same : t w.partner w.cell ≡ t w.partner m.cell = ap (λ a. t w.partner a) (eqb-true w.cell m.cell (both_true (w.pe == m.pe) (w.cell == m.cell) e).1) in
      rw same (omega arith)
  split_step m w ws false e h = omega (arith, h)

  split_way : (m : ReplyMessage) (ws : List WaitRecord) → count (record_passes t) (records_after m ws) + replies_on_way t (replies_of m ws) ≡ count (record_passes t) ws + weight (t m.pe m.cell)
  split_way m [] = omega arith
  split_way m (w ∷ ws) = split_step m w ws (is_of m w) refl (split_way m ws)

  pub made_way : (ws : List WaitRecord) (o : Option ReplyMessage) → count (record_passes t) (records_left ws o) + replies_on_way t (replies_made ws o) ≡ count (record_passes t) ws + count_option (reply_passes t) o
  made_way ws None = omega arith
  made_way ws (Some m) = split_way m ws

  -- a module turns a request into its reply
  served_way : (b : ModuleState) (i : Option Placed) (o : Option ReplyMessage) → b.inp ≡ i → b.out ≡ o → module_on_way t (after_serving b (elim o [ None ↦ i | Some r ↦ None ])) ≡ module_on_way t b
  served_way b i (Some r) e f = refl
  served_way b None None e f = refl
  served_way b (Some p) None e f = rw (e, f) (omega arith)

  pub serve_way : (b : ModuleState) → module_on_way t (serve b) ≡ module_on_way t b
  serve_way b = served_way b b.inp b.out refl refl

  -- a cell that is open is closed by its delivery
  closed_step : (p a : ℕ) (o : OpenCell) (os : List OpenCell) (b : Bool) → (o.cell == a) ≡ b → 1 ≤ weight b + count (λ (o : OpenCell). o.cell == a) os
      → (1 ≤ count (λ (o : OpenCell). o.cell == a) os → count (λ (o : OpenCell). t p o.cell) (closed a os) + weight (t p a) ≡ count (λ (o : OpenCell). t p o.cell) os)
      → count (λ (o : OpenCell). t p o.cell) (elim b [ true ↦ os | false ↦ o ∷ closed a os ]) + weight (t p a) ≡ weight (t p o.cell) + count (λ (o : OpenCell). t p o.cell) os
  closed_step p a o os true e l h = let same : t p o.cell ≡ t p a = ap (λ a. t p a) (eqb-true _ _ e) in rw same (omega arith)
  closed_step p a o os false e l h = let rest = h (omega (arith, l)) in omega (arith, rest)

  pub closed_way : (p a : ℕ) (os : List OpenCell) → 1 ≤ count (λ (o : OpenCell). o.cell == a) os → count (λ (o : OpenCell). t p o.cell) (closed a os) + weight (t p a) ≡ count (λ (o : OpenCell). t p o.cell) os
  closed_way p a [] l = absurd (omega (arith, l))
  closed_way p a (o ∷ os) l = closed_step p a o os (o.cell == a) refl l (λ k. closed_way p a os k)
