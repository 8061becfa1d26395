-- the request on a line of the hot requests is on its route
use Rattle.std.proofs.Common.{◌≡◌, ℕ, zero, suc, ◌+◌, ◌-◌, ◌<◌, ◌≤◌, true, arith, sym, subst, ◌∙◌, ap}
use Rattle.ultra_msg.specs.declared.Request.{Request}
use Rattle.ultra_route.specs.Route.{shuffled, unshuffled, bit_of, with_lowest, line_of, entry_of}
use Rattle.ultra_model.specs.{Machine.{Settings, size, last_stage}, Ranges.AreInRange, Routed.module_of}
use Rattle.ultra_model.proofs.Routes.{route, route_ends, turns_back}
use Rattle.ultra_serial_law.specs.HotCell.{first_port, second_port, old_of, new_of}
use Rattle.ultra_serial_law.proofs.Meeting.{first_is_port, second_is_port, port_turns, port_on, front_next, front_first}
use Rattle.ultra_serial_law.proofs.Stages.{IsPort, is_on, IsOn, GoesBy, IsAsked, fronts}

module _ (c : Settings) (range : AreInRange c) (a n : ℕ) (asked : ℕ → Request) (each : IsAsked c a asked) where
  -- the lines of the two that meet
  pub old_small : (s x : ℕ) → x < size c → unshuffled c.stages (first_port c.stages n asked s x) < size c
  old_small s x h = (turns_back c range (first_port c.stages n asked s x) (first_is_port c range a n asked s x h).small).line_small

  pub new_small : (s x : ℕ) → x < size c → unshuffled c.stages (second_port c.stages n asked s x) < size c
  new_small s x h = (turns_back c range (second_port c.stages n asked s x) (second_is_port c range a n asked s x h).small).line_small

  pub front_cell : (s x : ℕ) → x < size c → (fronts c n asked s x).cell ≡ a
  front_cell zero x h = ap (λ (r : Request). r.cell) (front_first c range a n asked x) ∙ each.cell x h
  front_cell (suc s) x h = ap (λ (r : Request). r.cell) (front_next c range a n asked s x) ∙ front_cell s (unshuffled c.stages (first_port c.stages n asked s x)) (old_small s x h)

  goes_by : (s x y p : ℕ) → s < c.stages → x < size c → IsPort c x y → is_on c a (s + 1) x ≡ true → IsOn c a s (unshuffled c.stages y) p → GoesBy c a s x y p
  goes_by s x y p hs hx port on w =
      let t = route c range s p a hs w.small in
      let entry : entry_of c.stages s p (module_of c a) ≡ y = ap (λ z. shuffled c.stages z) w.line ∙ (turns_back c range y port.small).forth in
      let line : line_of c.stages (s + 1) p (module_of c a) ≡ x = sym t.forth ∙ (ap (λ z. with_lowest z (bit_of (last_stage c - s) (module_of c a))) entry ∙ port_turns c range a n asked s x y hs hx port on) in
      record { next = record { small = w.small; line = line }; back = ap (λ z. with_lowest z (bit_of (last_stage c - s) p)) (sym line) ∙ (t.back ∙ entry) }

  -- where two meet, the request that goes on has the identity of the old one
  pub front_is_old : (s x : ℕ) → (fronts c n asked (suc s) x).pe ≡ (old_of c.stages n asked s x).pe
  front_is_old s x = ap (λ (r : Request). r.pe) (front_next c range a n asked s x)

  front_on : (s x : ℕ) → s ≤ c.stages → x < size c → is_on c a s x ≡ true → IsOn c a s x (fronts c n asked s x).pe
  front_on zero x hs hx on =
      let own : (fronts c n asked 0 x).pe ≡ x = ap (λ (r : Request). r.pe) (front_first c range a n asked x) ∙ each.own x hx in
      subst (λ p. IsOn c a 0 x p) (sym own) record { small = hx; line = (route_ends c range x a hx).0 }
  front_on (suc s) x hs hx on =
      let port = first_is_port c range a n asked s x hx in
      let y = first_port c.stages n asked s x in
      let next : suc s ≡ s + 1 = omega arith in
      let here = subst (λ k. is_on c a k x ≡ true) next on in
      let less : s < c.stages = omega arith in
      let old = front_on s (unshuffled c.stages y) (omega arith) (old_small s x hx) (port_on c range a n asked s x y less hx port here) in
      let goes = goes_by s x y (old_of c.stages n asked s x).pe less hx port here old in
      subst (λ k. IsOn c a k x (fronts c n asked (suc s) x).pe) (sym next) (subst (λ p. IsOn c a (s + 1) x p) (sym (front_is_old s x)) goes.next)

  -- both that meet at a position of the hot requests
  pub old_goes : (s x : ℕ) → s < c.stages → x < size c → is_on c a (s + 1) x ≡ true → GoesBy c a s x (first_port c.stages n asked s x) (old_of c.stages n asked s x).pe
  old_goes s x hs hx on =
      let port = first_is_port c range a n asked s x hx in
      let y = first_port c.stages n asked s x in
      goes_by s x y (old_of c.stages n asked s x).pe hs hx port on (front_on s (unshuffled c.stages y) (omega arith) (old_small s x hx) (port_on c range a n asked s x y hs hx port on))

  pub new_goes : (s x : ℕ) → s < c.stages → x < size c → is_on c a (s + 1) x ≡ true → GoesBy c a s x (second_port c.stages n asked s x) (new_of c.stages n asked s x).pe
  new_goes s x hs hx on =
      let port = second_is_port c range a n asked s x hx in
      let y = second_port c.stages n asked s x in
      goes_by s x y (new_of c.stages n asked s x).pe hs hx port on (front_on s (unshuffled c.stages y) (omega arith) (new_small s x hx) (port_on c range a n asked s x y hs hx port on))
