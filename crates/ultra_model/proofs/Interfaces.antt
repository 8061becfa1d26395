-- what a sound machine's interfaces are, as the code of an interface asks it
use Rattle.std.proofs.Common.{◌≡◌, ℕ, ◌+◌, ◌<◌, ◌≤◌, List, [], ◌∷◌, Bool, true, false, refl, arith, sym, ◌∙◌, ◌||◌}
use Rattle.std.specs.{Prelude.{IfSome, ◌==◌}, List.list_any}
use Rattle.std.proofs.lemmas.Bool.{or_from}
use Rattle.ultra_msg.specs.declared.{Request.Request, ReplyMessage.ReplyMessage}
use Rattle.ultra_route.specs.Route.{shuffled}
use Rattle.ultra_pni.specs.{declared.OpenCell.OpenCell, Interface.CanDeliver}
use Rattle.ultra_model.specs.{Machine.{Settings, Machine, size, replies_at, element_at}, Phases.delivered, Ranges.AreInRange, Routed.{IsReference, IsOwn, IsRouted}}
use Rattle.ultra_model.specs.Balance.{weight, count, passes, reply_passes, replies_on_way, pending_on_way, IsBalanced}
use Rattle.ultra_model.proofs.{Each.each-weaker, Sums.{total_term, table_term}, Counting.{count-same, false_of_zero, is_reference, head_counted, some_known}, Routes.{turns_back, delivered_well}, Neighbours.itself, ReplyBalance.opened_once}

-- where some are counted one passes, and where none are none does
or_counted : (b c : Bool) (n : ℕ) → 1 ≤ weight b + n → (1 ≤ n → c ≡ true) → (b || c) ≡ true
or_counted true c n h rest = refl
or_counted false c n h rest = rest (omega (arith, h))

any_counted : {X : Type 0} (t : X → Bool) (xs : List X) → 1 ≤ count t xs → list_any t xs ≡ true
any_counted t [] h = absurd (omega (arith, h))
any_counted t (x ∷ xs) h = or_counted (t x) (list_any t xs) (count t xs) h (any_counted t xs)

no_count : {X : Type 0} (t : X → Bool) (xs : List X) → count t xs ≤ 0 → list_any t xs ≡ false
no_count t [] h = refl
no_count t (x ∷ xs) h = or_from (t x) (list_any t xs) (false_of_zero (t x) (count t xs) h) (no_count t xs (omega (arith, h)))

module _ (c : Settings) (range : AreInRange c) (m : Machine) (w : IsRouted c m) (b : IsBalanced c m) where
  -- those of a processing element that wait, for one cell
  pending_for : (p a : ℕ) → p < size c → pending_on_way (is_reference p a) (element_at m p) ≡ count (λ (r : Request). r.cell == a) (element_at m p).interface.pending
  pending_for p a h =
      count-same (passes (is_reference p a)) (λ (r : Request). r.cell == a) (element_at m p).interface.pending
      (each-weaker (IsOwn c p) (λ (r : Request). passes (is_reference p a) r ≡ (r.cell == a)) (element_at m p).interface.pending (λ r k. rw (k.0, itself p) refl) (w.pending p h))

  -- the cell of a reply that is delivered is open, and its request has left the list
  pub can_deliver : (p : ℕ) → p < size c → IfSome (delivered c m p) (λ r. CanDeliver r.cell (element_at m p).interface)
  can_deliver p h =
      let y = shuffled c.stages p in
      some_known (λ (r : ReplyMessage). IsReference c r.pe r.cell × (r.pe ≡ p)) (λ (r : ReplyMessage). CanDeliver r.cell (element_at m p).interface) (delivered c m p)
      (delivered_well c range m w p h)
      (λ r e k.
      let t = is_reference p r.cell in
      let some = range.some_stages in
      let passed : t r.pe r.cell ≡ true = rw (k.1, itself p, itself r.cell) refl in
      let head = head_counted (reply_passes t) (replies_at m 0 y) r e passed in
      let there = table_term c.stages (size c) (λ s y. replies_on_way t (replies_at m s y)) 0 y (omega arith) (turns_back c range p h).entry_small in
      let waiting = total_term (size c) (λ q. pending_on_way t (element_at m q)) p h in
      let theirs = pending_for p r.cell h in
      let once = opened_once c range m p r.cell h in
      let even = b.balanced t in
      record {
        open_cell = any_counted (λ (o : OpenCell). o.cell == r.cell) (element_at m p).interface.opened (omega (arith, head, there, once, even));
        none_pending = no_count (λ (q : Request). q.cell == r.cell) (element_at m p).interface.pending (omega (arith, head, there, waiting, theirs, once, b.different p h r.cell, even));
      })
