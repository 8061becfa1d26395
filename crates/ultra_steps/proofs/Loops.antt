-- what is true as a phase goes through the copies
use Rattle.std.proofs.Common.{ℕ, suc, ◌≡◌, ◌≢◌, ◌+◌, ◌-◌, ◌<◌, ◌≤◌, List, [], ◌++◌, Bool, true, false, drop, length, refl, sym, ap, ◌∙◌, subst, arith, length-set, get_or-set_same, get_or-set_other, below_more}
use Rattle.std.proofs.lemmas.List.{get_or_default}
use Rattle.std.specs.Prelude.{Option, IfSome, ◌^◌, slice_get, slice_index_or, slice_set}
use Rattle.ultra_msg.specs.declared.{ReplyMessage.ReplyMessage, Event.Event}
use Rattle.ultra_io.specs.{declared.text_buffer.TextBuffer.TextBuffer, TextBuffer.Writes}
use Rattle.ultra_io.proofs.Writing.{◌then◌, writes_nothing}
use Rattle.ultra_isa.specs.declared.Instr.{Instr}
use Rattle.ultra_pni.specs.Interface.{CanDeliver}
use Rattle.ultra_model.specs.{Places.places, Machine.{Settings, Element, fresh_element, size, element_at}, Phases.{after, delivered}, Ranges.AreInRange, Trace.by_number}
use Rattle.ultra_trace_text.proofs.Numbered.{by_number_more}
use Rattle.ultra_latency.specs.{declared.open.OpenRequest.OpenRequest, Open.open_rows}
use Rattle.ultra_latency.proofs.{CycleEvents.{issues, others, events_are}, Deliveries.brought_own}
use Rattle.ultra_requests.proofs.Steps.{none_delivered}
use Rattle.ultra_requests.specs.{Along.number_in_rows, EventLines.if_shown}
use Rattle.ultra_unit_steps.specs.{declared.elements.ProcessingElement.ProcessingElement, Elements.{delivered_to, element_of, step_at as copy_step}}
use Rattle.ultra_steps.specs.{Copies.{copy_of, copy_at, stepped_copy, AreCopies}, RegisterSettings.{before_steps, reply_among}, StepLines.{reply_line, reply_line_at, step_line_if, step_line_at}}
use Rattle.ultra_steps.proofs.{Cursor.{event_count, left, left_next, reply_is}, CycleCopies.{can_be_delivered, copy_delivered, copy_stepped, issued_before, issued_few, line_is, step_line_copy}}

-- ---- lines that are shown or not
shown_nothing : (b : Bool) → if_shown b [] ≡ []
shown_nothing true = refl
shown_nothing false = refl

shown_more : (b : Bool) (line : ℕ → List ℕ) (p : ℕ) → if_shown b (by_number (p + 1) line) ≡ if_shown b (by_number p line) ++ if_shown b (line p)
shown_more true line p = by_number_more p line
shown_more false line p = refl

pub shown_both : (b : Bool) (x y : List ℕ) → if_shown b x ++ if_shown b y ≡ if_shown b (x ++ y)
shown_both true x y = refl
shown_both false x y = refl

module _ {S : Type 0} (taken : S → List ℕ) (failures : S → ℕ) (b : Bool) (line : ℕ → List ℕ) where
  abbrev pub AreShown : ℕ → TextBuffer S → TextBuffer S → Type 0
  AreShown p s t = Writes taken failures (if_shown b (by_number p line)) s t

  pub none_shown : (s : TextBuffer S) → AreShown 0 s s
  none_shown s = rw (shown_nothing b) (writes_nothing s)

  pub one_shown : (p : ℕ) {s t u : TextBuffer S} → AreShown p s t → Writes taken failures (if_shown b (line p)) t u → AreShown (p + 1) s u
  one_shown p v w = rw (shown_more b line p) (v then w)

-- ---- copies of which those below p have become copies of g's; the others are still copies of f's
module _ (c : Settings) (f g : ℕ → Element) where
  pub record AreBetween (p : ℕ) (copies : List ProcessingElement) : Type 0 where
    pub count : length copies ≡ size c
    pub done : (q : ℕ) → q < p → copy_at c copies q ≡ copy_of c q (g q)
    pub left : (q : ℕ) → p ≤ q → q < size c → copy_at c copies q ≡ copy_of c q (f q)

  pub begins : (copies : List ProcessingElement) → AreCopies c f copies → AreBetween 0 copies
  begins copies are = record { count = are.count; done = λ q h. absurd (omega (arith, h)); left = λ q from h. are.each q h }

  module _ (p : ℕ) (h : p < size c) (copies : List ProcessingElement) (are : AreBetween p copies) where
    pub here : (d : ProcessingElement) → slice_index_or copies p d ≡ copy_of c p (f p)
    here d =
        let within : p < length copies = omega (arith, h, are.count) in
        let itself : p ≤ p = omega arith in
        get_or_default copies p d (copy_of c p fresh_element) within ∙ are.left p itself h

    pub goes_on : (e : ProcessingElement) → e ≡ copy_of c p (g p) → AreBetween (p + 1) (slice_set copies p e)
    goes_on e is =
        let within : p < length copies = omega (arith, h, are.count) in
        record {
          count = length-set copies p e ∙ are.count;
          done = below_more (λ q. copy_at c (slice_set copies p e) q ≡ copy_of c q (g q)) p
              (λ q k. let other : q ≢ p = omega (arith, k) in get_or-set_other copies p q e (copy_of c q fresh_element) other ∙ are.done q k)
              (get_or-set_same copies p e (copy_of c p fresh_element) within ∙ is);
          left = λ q from k. let other : q ≢ p = omega (arith, from) in get_or-set_other copies p q e (copy_of c q fresh_element) other ∙ are.left q (omega (arith, from)) k;
        }

  pub ends : (p : ℕ) (copies : List ProcessingElement) → size c ≤ p → AreBetween p copies → AreCopies c g copies
  ends p copies past are = record { count = are.count; each = λ q h. are.done q (omega (arith, h, past)) }

-- ---- the deliveries of a cycle
module _ (c : Settings) (program : List Instr) (n : ℕ) where
  abbrev brought : ℕ → Option ReplyMessage
  brought p = delivered c (after c program n) p

  abbrev rest : List Event
  rest = others c program n ++ issues c program n

  -- the events from processing element p on
  abbrev pub events_from : ℕ → List Event
  events_from p = left rest brought p (size c - p)

  pub events_first : (es : List Event) → es ≡ (after c program (n + 1)).events → drop 0 es ≡ events_from 0
  unfolding places
  events_first es is = let all : size c - 0 ≡ size c = omega arith in rw all (is ∙ events_are c program n)

  module _ (range : AreInRange c) (p : ℕ) (h : p < size c) (es : List Event) (next : ℕ) (are : drop next es ≡ events_from p) where
    now_left : drop next es ≡ left rest brought p (suc (size c - (p + 1)))
    now_left = let more : size c - p ≡ suc (size c - (p + 1)) = omega (arith, h) in are ∙ ap (left rest brought p) more

    pub reply_here : reply_among p (slice_get es next) ≡ brought p
    reply_here = reply_is rest brought (size c) (brought_own c range program n) (none_delivered c range program n) (size c - (p + 1)) p (omega (arith, h)) es next now_left

    pub next_left : (k : ℕ) → k ≡ event_count (reply_among p (slice_get es next)) → drop (next + k) es ≡ events_from (p + 1)
    next_left k is = let same = is ∙ ap event_count reply_here in rw same (left_next rest brought (size c - (p + 1)) p es next now_left)

    -- the copy after it, and its line
    module _ (e : ProcessingElement) (is : e ≡ copy_of c p (element_at (after c program n) p)) (o : Option ReplyMessage) (reply : o ≡ reply_among p (slice_get es next)) where
      pub can_here : IfSome o (λ r. CanDeliver r.cell e.interface.interface)
      can_here =
          let can = can_be_delivered c range program n p h in
          let now = subst (λ x. IfSome (brought p) (λ r. CanDeliver r.cell x.interface.interface)) (sym is) can in
          subst (λ x. IfSome x (λ r. CanDeliver r.cell e.interface.interface)) (sym (reply ∙ reply_here)) now

      pub copy_here : (new : ProcessingElement) → new ≡ delivered_to e o → new ≡ copy_of c p (element_at (before_steps c program n) p)
      copy_here new made = made ∙ ap (delivered_to e) (reply ∙ reply_here) ∙ ap (λ x. delivered_to x (brought p)) is ∙ sym (copy_delivered c program n p h)

      pub line_here : (rows : List (List OpenRequest)) → rows ≡ open_rows c program n → reply_line n p (number_in_rows rows p) (element_of e) o ≡ reply_line_at c program n p
      line_here rows same =
          ap (λ x. reply_line n p (number_in_rows rows p) (element_of e) x) (reply ∙ reply_here)
          ∙ ap (λ x. reply_line n p (number_in_rows rows p) (element_of x) (brought p)) is
          ∙ ap (λ r. reply_line n p (number_in_rows r p) (element_of (copy_of c p (element_at (after c program n) p))) (brought p)) same
          ∙ line_is c range program n p h

-- ---- the steps of a cycle
module _ (c : Settings) (program : List Instr) (n p : ℕ) (h : p < size c) (e : ProcessingElement) (is : e ≡ copy_of c p (element_at (before_steps c program n) p)) where
  pub few_here : n < 1000001 → e.issued < 2 ^ 32 - 1
  few_here early =
      let few = issued_few c program n p h in
      let same : e.issued ≡ (element_at (after c program n) p).issued = ap (λ (x : ProcessingElement). x.issued) is ∙ issued_before c program n p h in
      omega (arith, few, same, early)

  pub step_here : (new : ProcessingElement) → new ≡ stepped_copy program e → new ≡ copy_of c p (element_at (after c program (n + 1)) p)
  step_here new made = made ∙ ap (stepped_copy program) is ∙ sym (copy_stepped c program n p h)

  pub step_line_here : step_line_if n e.processor.site e.processor.core e.issued (copy_step program e).was (slice_get program e.processor.core.pc) ≡ step_line_at c program n p
  step_line_here =
      ap (λ (x : ProcessingElement). step_line_if n x.processor.site x.processor.core x.issued (copy_step program x).was (slice_get program x.processor.core.pc)) is
      ∙ step_line_copy c program n p h
