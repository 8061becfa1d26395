-- the copies after the deliveries of a cycle, and after its steps
use Rattle.std.proofs.Common.{ℕ, zero, suc, ◌≡◌, ◌+◌, ◌<◌, ◌≤◌, List, [], refl, ap, ◌∙◌, subst, arith}
use Rattle.std.specs.Prelude.{Option, Some, None, IfSome, slice_get, ◌==◌}
use Rattle.ultra_msg.specs.declared.{Request.Request, ReplyMessage.ReplyMessage}
use Rattle.ultra_pni.specs.{declared.OpenCell.OpenCell, Interface.{CanDeliver}}
use Rattle.ultra_isa.specs.{declared.Instr.Instr, Step.{StepResult, step_of}}
use Rattle.ultra_route.specs.Route.{shuffled}
use Rattle.ultra_model.specs.{Machine.{Settings, Element, size, element_at, site}, Balance.count, Ranges.AreInRange}
use Rattle.ultra_model.specs.Phases.{after, arriving_request, deliver, delivered, issues_after, memory_phase, reply_phase, step_at, stepped, without_pending}
use Rattle.ultra_model.proofs.{ReplyBalance.delivered_open, Sound.after_is_sound}
use Rattle.ultra_model.proofs.AtPlaces.{element-start, element-reply_phase, element-memory_phase, element-request_phase, element-processor_phase}
use Rattle.ultra_latency.specs.Open.{open_rows, IsOpenIn}
use Rattle.ultra_latency.proofs.{CycleEvents.next_is, Deliveries.{counted_open, knows}}
use Rattle.ultra_requests.specs.{Along.{number_in_rows, number_if_open}, EventLines.open_number}
use Rattle.ultra_requests.proofs.NamedLines.{number_latest}
use Rattle.ultra_unit_steps.specs.{Elements.{delivered_to, element_of, step_at as copy_step}}
use Rattle.ultra_steps.specs.{Copies.{copy_of, stepped_copy}, RegisterSettings.before_steps, StepLines.{reply_line, reply_line_at, step_line_if, step_line_at}}
use Rattle.ultra_steps.proofs.SameStep.{AreAlike, alike}

deliver_copy : (c : Settings) (p : ℕ) (e : Element) (o : Option ReplyMessage) → copy_of c p (deliver e o) ≡ delivered_to (copy_of c p e) o
deliver_copy c p e None = refl
deliver_copy c p e (Some r) = refl

same_copy : (c : Settings) (p : ℕ) (e : Element) (s t : StepResult) → AreAlike s t → copy_of c p (stepped e s) ≡ copy_of c p (stepped e t)
same_copy c p e s t are = rw (are.core, are.opened, are.sent) refl

module _ (c : Settings) (program : List Instr) (n p : ℕ) (h : p < size c) where
  abbrev now : Element
  now = element_at (after c program n) p

  abbrev brought : Option ReplyMessage
  brought = delivered c (after c program n) p

  -- before its step it is as the delivery has left it, without the request that has left
  pub element_before : element_at (before_steps c program n) p ≡ without_pending (deliver now brought) (arriving_request c (memory_phase c (reply_phase c (after c program n))) 0 (shuffled c.stages p))
  element_before =
      let left : Element → Element = λ e. without_pending e (arriving_request c (memory_phase c (reply_phase c (after c program n))) 0 (shuffled c.stages p)) in
      element-request_phase c (memory_phase c (reply_phase c (after c program n))) p h
      ∙ ap left (element-memory_phase c (reply_phase c (after c program n)) p)
      ∙ ap left (element-reply_phase c (after c program n) p h)

  pub copy_delivered : copy_of c p (element_at (before_steps c program n) p) ≡ delivered_to (copy_of c p now) brought
  copy_delivered = ap (copy_of c p) element_before ∙ deliver_copy c p now brought

  pub element_after : element_at (after c program (n + 1)) p ≡ stepped (element_at (before_steps c program n) p) (step_at c program (before_steps c program n) p)
  element_after = ap (λ m. element_at m p) (next_is c program n) ∙ element-processor_phase c program (before_steps c program n) p h

  pub copy_stepped : copy_of c p (element_at (after c program (n + 1)) p) ≡ stepped_copy program (copy_of c p (element_at (before_steps c program n) p))
  copy_stepped =
      let e = element_at (before_steps c program n) p in
      ap (copy_of c p) element_after
      ∙ same_copy c p e (step_of (site c p) c.most_open program e.core e.interface) (step_of (site c p) c.most_open program e.core record { opened = e.interface.opened; pending = [] })
      (alike (site c p) c.most_open e.interface.opened e.interface.pending [] program e.core)

  pub step_line_copy : step_line_if n (site c p) (element_at (before_steps c program n) p).core (element_at (before_steps c program n) p).issued (copy_step program (copy_of c p (element_at (before_steps c program n) p))).was (slice_get program (element_at (before_steps c program n) p).core.pc) ≡ step_line_at c program n p
  step_line_copy =
      let e = element_at (before_steps c program n) p in
      let same = (alike (site c p) c.most_open e.interface.opened [] e.interface.pending program e.core).was in
      ap (λ was. step_line_if n (site c p) e.core e.issued was (slice_get program e.core.pc)) same

-- ---- how many requests it has issued
issued_one : (k : ℕ) (o : Option Request) → issues_after k o ≤ k + 1
issued_one k None = omega arith
issued_one k (Some r) = omega arith

issued_same : (e : Element) (o : Option ReplyMessage) → (deliver e o).issued ≡ e.issued
issued_same e None = refl
issued_same e (Some r) = refl

module _ (c : Settings) (program : List Instr) where
  pub issued_before : (n p : ℕ) (h : p < size c) → (element_at (before_steps c program n) p).issued ≡ (element_at (after c program n) p).issued
  issued_before n p h = ap (λ (e : Element). e.issued) (element_before c program n p h) ∙ issued_same (element_at (after c program n) p) (delivered c (after c program n) p)

  pub issued_few : (n p : ℕ) → p < size c → (element_at (after c program n) p).issued ≤ n
  unfolding after
  issued_few zero p h = rw (element-start c p h) (omega arith)
  issued_few (suc n) p h =
      let next : n + 1 ≡ suc n = omega arith in
      let few = issued_few n p h in
      let is = ap (λ (e : Element). e.issued) (element_after c program n p h) in
      let one = issued_one (element_at (before_steps c program n) p).issued (step_at c program (before_steps c program n) p).sent in
      subst (λ k. (element_at (after c program k) p).issued ≤ k) next (omega (arith, few, is, one, issued_before n p h))

-- ---- a delivery
module _ (c : Settings) (range : AreInRange c) (program : List Instr) (n p : ℕ) (h : p < size c) where
  abbrev here : Element
  here = element_at (after c program n) p

  can_if : (o : Option ReplyMessage) → IfSome o (λ r. (r.pe ≡ p) × (1 ≤ count (λ (o : OpenCell). o.cell == r.cell) here.interface.opened)) → IfSome o (λ r. CanDeliver r.cell (copy_of c p here).interface.interface)
  can_if None there = tt
  can_if (Some r) there = record { open_cell = counted_open c range program n r.cell here.interface.opened there.1; none_pending = refl }

  pub can_be_delivered : IfSome (delivered c (after c program n) p) (λ r. CanDeliver r.cell (copy_of c p here).interface.interface)
  can_be_delivered = let sound = after_is_sound c range program n in can_if (delivered c (after c program n) p) (delivered_open c range (after c program n) sound.routes sound.balance p h)

  line_if : (o : Option ReplyMessage) → IfSome o (λ r. IsOpenIn c program n (open_rows c program n) p r.cell) → reply_line n p (number_in_rows (open_rows c program n) p) (element_of (copy_of c p here)) o ≡ reply_line n p (open_number c program n p) here o
  line_if None known = refl
  line_if (Some r) known =
      let number = ap number_if_open known.1 ∙ number_latest c program n p r.cell in
      rw number refl

  pub line_is : reply_line n p (number_in_rows (open_rows c program n) p) (element_of (copy_of c p here)) (delivered c (after c program n) p) ≡ reply_line_at c program n p
  line_is = line_if (delivered c (after c program n) p) (knows c range program n p h)
