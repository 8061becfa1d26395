-- in the cycles of a machine that is quiet nothing happens: its history stays as it is
use Rattle.std.proofs.Common.{◌≡◌, ℕ, zero, suc, ◌+◌, ◌-◌, ◌*◌, ◌/◌, ◌%◌, ◌<◌, ◌≤◌, ◌⊎◌, List, [], ◌∷◌, ◌++◌, Bool, true, false, ◌&&◌, ◌==◌, refl, sym, ap, subst, ◌∙◌, arith, inl, inr, ⊎_elim, length, Option, Some, None}
use Rattle.std.specs.{Prelude.{map, slice_get, slice_index_or}, List.{AllByRecursion, list_all, range_with_len}}
use Rattle.std.proofs.lemmas.Bool.{cases_eq}
use Rattle.ultra_msg.specs.declared.{Event.Event, Request.Request, ReplyMessage.ReplyMessage}
use Rattle.ultra_route.specs.Route.{shuffled, unshuffled}
use Rattle.ultra_switch.specs.{Arrive.{Lane, empty_lane}, Queues.request_of}
use Rattle.ultra_mem.specs.{declared.Placed.Placed, Serve.{ModuleState, empty_module, IsIdle, serve, served}}
use Rattle.ultra_pni.specs.Interface.{Interface, empty_interface}
use Rattle.ultra_isa.specs.{declared.{Instr.Instr, Activity.{Activity, TheVariants.{Running, Halted, Faulted}}}, Instruction.Site, Step.{Core, stays, has_stopped, runs_as}}
use Rattle.ultra_isa.specs.declared.Step.TheVariants as step
use Rattle.ultra_model.specs.Places.{places, table, in_table, present, joined}
use Rattle.ultra_model.specs.Machine.{Settings, Machine, Element, fresh_element, size, site, last_stage, start, lane_at, replies_at, module_at, element_at, is_empty, is_nothing, is_quiet}
use Rattle.ultra_model.specs.Phases.{delivery, serving, issue_event, combinations, has_reply_room, reply_before, arriving_reply, leaving_reply, replies_at_exit, next_replies, lane_after_split, delivered, without_reply, deliver, request_before, arriving_request, entering, with_request, leaving_request, arrivals_by, arrivals, lane_after_leaving, next_lane, without_pending, step_at, stepped, reply_phase, memory_phase, request_phase, processor_phase, cycle, after}
use Rattle.ultra_model.proofs.{Each.{each-places, each-joined, if_tested, length-places}, Counting.both_true, AtPlaces.{element-reply_phase, element-request_phase, element-processor_phase}}
use Rattle.ultra_serial_law.specs.SerialList.{noted, history}

-- ---- tests
nothing_in : {X : Type 0} (xs : List X) → is_empty xs ≡ true → xs ≡ []
nothing_in [] h = refl
nothing_in (x ∷ xs) h = absurd cc

nothing_there : {X : Type 0} (o : Option X) → is_nothing o ≡ true → o ≡ None
nothing_there None h = refl
nothing_there (Some x) h = absurd cc

-- ---- places
from_or : {X : Type 0} (P : X → Type 0) (f : ℕ → X) (a n k : ℕ) (d : X) → P d → ((j : ℕ) → j < a + n → P (f j)) → P (slice_index_or (map f (range_with_len a n)) k d)
from_or P f a zero k d e h = e
from_or P f a (suc n) zero d e h = h a (omega arith)
from_or P f a (suc n) (suc k) d e h = from_or P f (a + 1) n k d e (λ j l. h j (omega (arith, l)))

-- what holds of the default and at each place below n
place_or : {X : Type 0} (P : X → Type 0) (n : ℕ) (f : ℕ → X) (k : ℕ) (d : X) → P d → ((j : ℕ) → j < n → P (f j)) → P (slice_index_or (places n f) k d)
unfolding places
place_or P n f k d e h = from_or P f 0 n k d e (λ j l. h j (omega (arith, l)))

table_or : {X : Type 0} (P : X → Type 0) (m n : ℕ) (f : ℕ → ℕ → X) (s x : ℕ) (d : X) → P d → ((s x : ℕ) → P (f s x)) → P (in_table d (table m n f) s x)
table_or P m n f s x d e h = place_or (λ row. P (slice_index_or row x d)) m (λ s. places n (λ x. f s x)) s [] e (λ s l. place_or P n (λ x. f s x) x d e (λ x l. h s x))

present_none : {X : Type 0} (os : List (Option X)) → AllByRecursion (λ o. o ≡ None) os → present os ≡ []
present_none [] h = refl
present_none (o ∷ os) h = rw h.0 (present_none os h.1)

joined_none : {X : Type 0} (xss : List (List X)) → AllByRecursion (λ xs. xs ≡ []) xss → joined xss ≡ []
joined_none [] h = refl
joined_none (xs ∷ xss) h = rw h.0 (joined_none xss h.1)

none_there : {X : Type 0} (n : ℕ) (f : ℕ → Option X) → ((k : ℕ) → k < n → f k ≡ None) → present (places n f) ≡ []
none_there n f h = present_none (places n f) (each-places (λ o. o ≡ None) n f h)

-- what holds of the default or of no place past the end
held : {X : Type 0} (t : X → Bool) (d : X) (xs : List X) (k : ℕ) → (k < length xs) ⊎ (t d ≡ true) → list_all t xs ≡ true → t (slice_index_or xs k d) ≡ true
held t d [] k (inl l) h = absurd (omega (arith, l))
held t d [] k (inr e) h = e
held t d (x ∷ xs) zero e h = (both_true (t x) (list_all t xs) h).0
held t d (x ∷ xs) (suc k) (inl l) h = held t d xs k (inl (omega (arith, l))) (both_true (t x) (list_all t xs) h).1
held t d (x ∷ xs) (suc k) (inr e) h = held t d xs k (inr e) (both_true (t x) (list_all t xs) h).1

-- ---- at rest: nothing is on its way or open
pub record IsAtRest (c : Settings) (m : Machine) : Type 0 where
  pub lanes : (s x : ℕ) → lane_at m s x ≡ empty_lane
  pub replies : (s y : ℕ) → replies_at m s y ≡ []
  pub modules : (k : ℕ) → IsIdle (module_at m k)
  pub interfaces : (p : ℕ) → (element_at m p).interface ≡ empty_interface
  pub stopped : (p : ℕ) → p < size c → has_stopped (element_at m p).core.activity ≡ true

idle_lane : (l : Lane) → (is_empty l.queue && is_empty l.records) ≡ true → l ≡ empty_lane
idle_lane l h = rw (nothing_in l.queue (both_true (is_empty l.queue) (is_empty l.records) h).0, nothing_in l.records (both_true (is_empty l.queue) (is_empty l.records) h).1) refl

idle_interface : (i : Interface) → is_empty i.opened ≡ true → is_empty i.pending ≡ true → i ≡ empty_interface
idle_interface i o p = rw (nothing_in i.opened o, nothing_in i.pending p) refl

-- a processing element that is quiet
abbrev rests : Element → Bool
rests e = has_stopped e.core.activity && is_empty e.interface.opened && is_empty e.interface.pending

abbrev closed_up : Element → Bool
closed_up e = is_empty e.interface.opened && is_empty e.interface.pending

and_parts : (a b d : Bool) → (a && b && d) ≡ true → (a ≡ true) × ((b && d) ≡ true)
and_parts true true true h = (refl, refl)
and_parts true true false h = absurd cc
and_parts true false d h = absurd cc
and_parts false b d h = absurd cc

all_closed : (es : List Element) → list_all rests es ≡ true → list_all closed_up es ≡ true
all_closed [] h = refl
all_closed (e ∷ es) h =
    let here = and_parts (has_stopped e.core.activity) (is_empty e.interface.opened) (is_empty e.interface.pending) (both_true (rests e) (list_all rests es) h).0 in
    rw (here.1) (all_closed es (both_true (rests e) (list_all rests es) h).1)

module _ (c : Settings) where
  quiet_parts : (a b d e : Bool) → (a && b && d && e) ≡ true → (a ≡ true) × (b ≡ true) × (d ≡ true) × (e ≡ true)
  quiet_parts true true true true h = (refl, refl, refl, refl)
  quiet_parts true true true false h = absurd cc
  quiet_parts true true false e h = absurd cc
  quiet_parts true false d e h = absurd cc
  quiet_parts false b d e h = absurd cc

  pub rest_if_quiet : (m : Machine) → length m.elements ≡ size c → is_quiet m ≡ true → IsAtRest c m
  rest_if_quiet m long q =
      let idle = λ (l : Lane). is_empty l.queue && is_empty l.records in
      let calm = λ (b : ModuleState). is_nothing b.inp && is_nothing b.out in
      let none = λ (r : List ReplyMessage). is_empty r in
      let h = quiet_parts (list_all (λ (ls : List Lane). list_all idle ls) m.lanes) (list_all (λ (qs : List (List ReplyMessage)). list_all none qs) m.replies) (list_all calm m.modules) (list_all rests m.elements) q in
      let memory_module = λ (k : ℕ). held calm empty_module m.modules k (inr refl) h.2 in
      let closed = λ (p : ℕ). held closed_up fresh_element m.elements p (inr refl) (all_closed m.elements h.3) in
      record {
        lanes = λ s x. idle_lane (lane_at m s x) (held idle empty_lane (slice_index_or m.lanes s []) x (inr refl) (held (λ (ls : List Lane). list_all idle ls) [] m.lanes s (inr refl) h.0));
        replies = λ s y. nothing_in (replies_at m s y) (held none [] (slice_index_or m.replies s []) y (inr refl) (held (λ (qs : List (List ReplyMessage)). list_all none qs) [] m.replies s (inr refl) h.1));
        modules = λ k. record {
          no_request = nothing_there (module_at m k).inp (both_true (is_nothing (module_at m k).inp) (is_nothing (module_at m k).out) (memory_module k)).0;
          no_reply = nothing_there (module_at m k).out (both_true (is_nothing (module_at m k).inp) (is_nothing (module_at m k).out) (memory_module k)).1;
        };
        interfaces = λ p.
            let i = (element_at m p).interface in
            idle_interface i (both_true (is_empty i.opened) (is_empty i.pending) (closed p)).0 (both_true (is_empty i.opened) (is_empty i.pending) (closed p)).1;
        stopped = λ p l.
            let e = element_at m p in
            (and_parts (has_stopped e.core.activity) (is_empty e.interface.opened) (is_empty e.interface.pending) (held rests fresh_element m.elements p (inl (omega (arith, l, long))) h.3)).0;
      }

  -- ---- replies
  module _ (m : Machine) (h : IsAtRest c m) where
    no_reply_before : (s x : ℕ) → reply_before c m s x ≡ None
    no_reply_before s x =
        if_tested (s == last_stage c) (λ o. o ≡ None) (module_at m x).out (slice_get (replies_at m (s + 1) (shuffled c.stages x)) 0)
        (λ e. (h.modules x).no_reply) (λ e. rw (h.replies (s + 1) (shuffled c.stages x)) refl)

    no_reply_arrives : (s x : ℕ) → arriving_reply c m s x ≡ None
    unfolding arriving_reply
    no_reply_arrives s x = if_tested (has_reply_room c m s (x / 2)) (λ o. o ≡ None) (reply_before c m s x) None (λ e. no_reply_before s x) (λ e. refl)

    no_reply_leaves : (s y : ℕ) → leaving_reply c m s y ≡ None
    no_reply_leaves s y =
        if_tested (s == 0) (λ o. o ≡ None) (slice_get (replies_at m s y) 0) (arriving_reply c m (s - 1) (unshuffled c.stages y))
        (λ e. rw (h.replies s y) refl) (λ e. no_reply_arrives (s - 1) (unshuffled c.stages y))

    nothing_delivered : (p : ℕ) → delivered c m p ≡ None
    nothing_delivered p = rw (h.replies 0 (shuffled c.stages p)) refl

    no_exit : (s x y : ℕ) → replies_at_exit c m s x y ≡ []
    no_exit s x y = rw (no_reply_arrives s x) refl

    no_next_replies : (s y : ℕ) → next_replies c m s y ≡ []
    no_next_replies s y = rw (no_reply_leaves s y, h.replies s y, no_exit s (2 * (y / 2)) y, no_exit s (2 * (y / 2) + 1) y) refl

    lane_unsplit : (s x : ℕ) → lane_after_split c m s x ≡ empty_lane
    lane_unsplit s x = rw (no_reply_arrives s x, h.lanes s x) refl

    rest_replies : IsAtRest c (reply_phase c m)
    unfolding reply_phase
    rest_replies = record {
      lanes = λ s x. table_or (λ l. l ≡ empty_lane) c.stages (size c) (λ s x. lane_after_split c m s x) s x empty_lane refl lane_unsplit;
      replies = λ s y. table_or (λ l. l ≡ []) c.stages (size c) (λ s y. next_replies c m s y) s y [] refl no_next_replies;
      modules = λ k.
          place_or IsIdle (size c) (λ k. without_reply (module_at m k) (arriving_reply c m (last_stage c) k)) k empty_module record { no_request = refl; no_reply = refl }
          (λ k l. rw (no_reply_arrives (last_stage c) k) (h.modules k));
      interfaces = λ p. place_or (λ (e : Element). e.interface ≡ empty_interface) (size c) (λ p. deliver (element_at m p) (delivered c m p)) p fresh_element refl (λ p l. rw (nothing_delivered p) (h.interfaces p));
      stopped = λ p l. rw (element-reply_phase c m p l, nothing_delivered p) (h.stopped p l);
    }

    no_deliveries : (reply_phase c m).events ≡ []
    unfolding reply_phase
    no_deliveries = none_there (size c) (λ p. delivery (delivered c m p)) (λ p l. rw (nothing_delivered p) refl)

  -- ---- memory
  idle_serves : (b : ModuleState) → IsIdle b → serve b ≡ b
  idle_serves b i = rw (i.no_reply, i.no_request) refl

  idle_served : (b : ModuleState) → IsIdle b → served b ≡ None
  idle_served b i = rw (i.no_reply, i.no_request) refl

  module _ (m : Machine) (h : IsAtRest c m) where
    rest_memory : IsAtRest c (memory_phase c m)
    unfolding memory_phase
    rest_memory = record {
      lanes = h.lanes;
      replies = h.replies;
      modules = λ k. place_or IsIdle (size c) (λ k. serve (module_at m k)) k empty_module record { no_request = refl; no_reply = refl } (λ k l. rw (idle_serves (module_at m k) (h.modules k)) (h.modules k));
      interfaces = h.interfaces;
      stopped = h.stopped;
    }

    no_servings : m.events ≡ [] → (memory_phase c m).events ≡ []
    unfolding memory_phase
    no_servings e = rw (e, none_there (size c) (λ k. serving k (served (module_at m k))) (λ k l. rw (idle_served (module_at m k) (h.modules k)) refl)) refl

    -- ---- requests
    no_request_before : (s y : ℕ) → request_before c m s y ≡ None
    no_request_before s y =
        if_tested (s == 0) (λ o. o ≡ None) (slice_get (element_at m (unshuffled c.stages y)).interface.pending 0) (request_of (slice_get (lane_at m (s - 1) (unshuffled c.stages y)).queue 0))
        (λ e. rw (h.interfaces (unshuffled c.stages y)) refl) (λ e. rw (h.lanes (s - 1) (unshuffled c.stages y)) refl)

    no_request_arrives : (s y : ℕ) → arriving_request c m s y ≡ None
    unfolding arriving_request
    no_request_arrives s y = rw (no_request_before s y) refl

    none_enters : (k : ℕ) → entering c m k ≡ None
    none_enters k =
        let last = slice_get (lane_at m (last_stage c) k).queue 0 in
        let none : request_of last ≡ None = rw (h.lanes (last_stage c) k) refl in
        subst (λ (i : Option Placed). elim i as (λ j. Option Request) [ None ↦ request_of last | Some r ↦ None ] ≡ None) (sym (h.modules k).no_request) none

    no_request_leaves : (s x : ℕ) → leaving_request c m s x ≡ None
    no_request_leaves s x =
        if_tested (s == last_stage c) (λ o. o ≡ None) (entering c m x) (arriving_request c m (s + 1) (shuffled c.stages x)) (λ e. none_enters x) (λ e. no_request_arrives (s + 1) (shuffled c.stages x))

    none_by : (s y x : ℕ) → arrivals_by c m s y x ≡ []
    none_by s y x = rw (no_request_arrives s y) refl

    no_arrivals : (s x : ℕ) → arrivals c m s x ≡ []
    no_arrivals s x =
        let one = none_by s (2 * (x / 2)) x in
        let two = none_by s (2 * (x / 2) + 1) x in
        if_tested (m.cycles % 2 == 0) (λ l. l ≡ [])
        (arrivals_by c m s (2 * (x / 2)) x ++ arrivals_by c m s (2 * (x / 2) + 1) x) (arrivals_by c m s (2 * (x / 2) + 1) x ++ arrivals_by c m s (2 * (x / 2)) x)
        (λ e. rw (one, two) refl) (λ e. rw (one, two) refl)

    lane_unleft : (s x : ℕ) → lane_after_leaving c m s x ≡ empty_lane
    lane_unleft s x = rw (no_request_leaves s x, h.lanes s x) refl

    lane_stays : (s x : ℕ) → next_lane c m s x ≡ empty_lane
    lane_stays s x = rw (no_arrivals s x) (lane_unleft s x)

    rest_requests : IsAtRest c (request_phase c m)
    unfolding request_phase
    rest_requests = record {
      lanes = λ s x. table_or (λ l. l ≡ empty_lane) c.stages (size c) (λ s x. next_lane c m s x) s x empty_lane refl lane_stays;
      replies = h.replies;
      modules = λ k. place_or IsIdle (size c) (λ k. with_request c (module_at m k) (entering c m k)) k empty_module record { no_request = refl; no_reply = refl } (λ k l. rw (none_enters k) (h.modules k));
      interfaces = λ p.
          place_or (λ (e : Element). e.interface ≡ empty_interface) (size c) (λ p. without_pending (element_at m p) (arriving_request c m 0 (shuffled c.stages p))) p fresh_element refl
          (λ p l. rw (no_request_arrives 0 (shuffled c.stages p)) (h.interfaces p));
      stopped = λ p l. rw (element-request_phase c m p l) (h.stopped p l);
    }

    abbrev made : ℕ → ℕ → List Event
    made s x = combinations c.wait_places s x (lane_after_leaving c m s x) (arrivals c m s x)

    none_made : (s x : ℕ) → made s x ≡ []
    none_made s x = rw (no_arrivals s x) refl

    no_combinations : m.events ≡ [] → (request_phase c m).events ≡ []
    unfolding request_phase
    no_combinations e =
        let rows = each-places (λ (row : List (List Event)). AllByRecursion (λ l. l ≡ []) row) c.stages (λ s. places (size c) (λ x. made s x))
        (λ s l. each-places (λ (us : List Event). us ≡ []) (size c) (λ x. made s x) (λ x k. none_made s x)) in
        ap (λ us. us ++ joined (joined (table c.stages (size c) made))) e ∙ joined_none (joined (table c.stages (size c) made)) (each-joined (λ (us : List Event). us ≡ []) (table c.stages (size c) made) rows)

    -- ---- processors
    stands_still : (t : Site) (k : ℕ) (a : Activity) (o : Core) (i : Interface) (n : Option Instr) → has_stopped a ≡ true → runs_as t k a o i n ≡ stays step.Halted o i
    stands_still t k Running o i n e = absurd cc
    stands_still t k Halted o i n e = refl
    stands_still t k (Faulted f) o i n e = refl

    module _ (program : List Instr) where
      still : (p : ℕ) → p < size c → step_at c program m p ≡ stays step.Halted (element_at m p).core (element_at m p).interface
      still p l = stands_still (site c p) c.most_open (element_at m p).core.activity (element_at m p).core (element_at m p).interface (slice_get program (element_at m p).core.pc) (h.stopped p l)

      rest_processors : IsAtRest c (processor_phase c program m)
      unfolding processor_phase
      rest_processors = record {
        lanes = h.lanes;
        replies = h.replies;
        modules = h.modules;
        interfaces = λ p. place_or (λ (e : Element). e.interface ≡ empty_interface) (size c) (λ p. stepped (element_at m p) (step_at c program m p)) p fresh_element refl (λ p l. rw (still p l) (h.interfaces p));
        stopped = λ p l. rw (element-processor_phase c program m p l, still p l) (h.stopped p l);
      }

      no_issues : m.events ≡ [] → (processor_phase c program m).events ≡ []
      unfolding processor_phase
      no_issues e = rw (e, none_there (size c) (λ p. issue_event (element_at m p) (step_at c program m p).sent) (λ p l. rw (still p l) refl)) refl

  -- ---- cycles
  module _ (program : List Instr) where
    module _ (m : Machine) (h : IsAtRest c m) where
      abbrev replied : Machine
      replied = reply_phase c m

      abbrev acted : Machine
      acted = memory_phase c replied

      abbrev moved : Machine
      moved = request_phase c acted

      rest_replied : IsAtRest c replied
      rest_replied = rest_replies m h

      rest_acted : IsAtRest c acted
      rest_acted = rest_memory replied rest_replied

      rest_moved : IsAtRest c moved
      rest_moved = rest_requests acted rest_acted

      pub rest_cycle : IsAtRest c (cycle c program m)
      unfolding cycle
      rest_cycle = rest_processors moved rest_moved program

      pub nothing_happens : (cycle c program m).events ≡ []
      unfolding cycle
      nothing_happens = no_issues moved rest_moved program (no_combinations acted rest_acted (no_servings replied rest_replied (no_deliveries m h)))

    all_elements : (n : ℕ) → length (after c program n).elements ≡ size c
    unfolding after start cycle processor_phase
    all_elements zero = length-places (size c) (λ p. fresh_element)
    all_elements (suc n) = length-places (size c) _

    rest_later : (n m : ℕ) → n ≤ m → IsAtRest c (after c program n) → IsAtRest c (after c program m) × (history c program m ≡ history c program n)
    unfolding after history
    rest_later n zero l h = let none : n ≡ 0 = omega (arith, l) in (subst (λ k. IsAtRest c (after c program k)) none h, ap (λ k. history c program k) (sym none))
    rest_later n (suc m) l h =
        ⊎_elim (λ e. (subst (λ k. IsAtRest c (after c program k)) e h, ap (λ k. history c program k) (sym e)))
        (λ ne.
        let r = rest_later n m (omega (arith, l, ne)) h in
        (rest_cycle (after c program m) r.0, ap (λ es. noted m es (history c program m)) (nothing_happens (after c program m) r.0) ∙ r.1)) (cases_eq n (suc m))

    pub quiet_history : (n m : ℕ) → n ≤ m → is_quiet (after c program n) ≡ true → history c program n ≡ history c program m
    quiet_history n m l q = sym (rest_later n m l (rest_if_quiet (after c program n) (all_elements n) q)).1
