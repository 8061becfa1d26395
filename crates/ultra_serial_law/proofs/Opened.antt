-- the cell of a request that waits in an interface is open
use Rattle.std.proofs.Common.{◌≡◌, ℕ, ◌<◌, [], ◌∷◌, true, refl, arith, ⊎_elim}
use Rattle.std.proofs.lemmas.Bool.{cases_Bool}
use Rattle.ultra_msg.specs.declared.Request.{Request}
use Rattle.ultra_pni.specs.Interface.{is_open}
use Rattle.ultra_model.specs.{Machine.{Settings, Machine, size, element_at}, Ranges.AreInRange, Balance.{passes, pending_on_way, IsBalanced}}
use Rattle.ultra_model.proofs.{Sums.total_term, Counting.is_reference, Neighbours.itself, Balanced.none_open, ReplyBalance.opened_once}

module _ (c : Settings) (range : AreInRange c) (m : Machine) (b : IsBalanced c m) where
  is_itself : (p a : ℕ) → is_reference p a p a ≡ true
  is_itself p a = rw (itself p, itself a) refl

  pub pending_is_open : (p : ℕ) (r : Request) → p < size c → r.pe ≡ p → (element_at m p).interface.pending ≡ r ∷ [] → is_open r.cell (element_at m p).interface.opened ≡ true
  pending_is_open p r hp own e =
      let t = is_reference p r.cell in
      let here : passes t r ≡ true = rw own (is_itself p r.cell) in
      let one : pending_on_way t (element_at m p) ≡ 1 = rw (e, here) refl in
      let there = total_term (size c) (λ q. pending_on_way t (element_at m q)) p hp in
      let all = b.balanced t in
      let once = opened_once c range m p r.cell hp in
      ⊎_elim (λ h. h) (λ h. absurd (omega (arith, one, there, all, once, none_open r.cell (element_at m p).interface.opened h))) (cases_Bool (is_open r.cell (element_at m p).interface.opened))
