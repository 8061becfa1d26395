-- the serialization law: the serial lists of every run are a chain of legal lists
use Rattle.std.proofs.Common.{◌≡◌, ℕ, zero, suc, ◌+◌, ◌*◌, ◌/◌, ◌%◌, ◌<◌, ◌≤◌, List, [], ◌∷◌, ◌++◌, Bool, true, false, refl, arith, sym, ◌∙◌, ap, subst, ⊎_elim, append_assoc}
use Rattle.std.specs.Prelude.{Option, Some, None, IfSome, slice_get, slice_index, ◌==◌}
use Rattle.std.specs.List.{AllByRecursion}
use Rattle.std.proofs.lemmas.{Bool.{cases_lt, Decides.nat_tests}, Nat.{pow_pos, div_below, div-add-mod'}, List.{get_or_past, append-nil, Elements.recursion_from_All}}
use Rattle.ultra_msg.specs.{Bytes.IsPrefix, declared.{Request.Request, ReplyMessage.ReplyMessage, Event.{Event, TheVariants.{Delivered, Served, Combined}}}}
use Rattle.ultra_route.specs.Route.{shuffled}
use Rattle.ultra_switch.specs.Arrive.{Lane, Combination, combine_within, arrive}
use Rattle.ultra_mem.specs.{declared.Served.Served as Act, Serve.{ModuleState, served}}
use Rattle.ultra_isa.specs.declared.Instr.{Instr}
use Rattle.ultra_model.specs.{Places.{places, table, joined, present}, Balance.count, Ranges.AreInRange, Trace.cell_value, Sound.IsSound}
use Rattle.ultra_model.specs.Machine.{Settings, Machine, Element, size, last_stage, start, given_value, replies_at, module_at, element_at}
use Rattle.ultra_model.specs.Phases.{delivery, delivered, deliver, without_reply, arriving_reply, with_request, entering, issue_event, step_at, serving, combination, combinations, lane_after_leaving, arrivals, reply_phase, memory_phase, request_phase, processor_phase, cycle, after}
use Rattle.ultra_model.proofs.Each.{each-append, each-weaker, each-places, each-present, each-joined, each-first, some-weaker, places_at, length-places}
use Rattle.ultra_model.proofs.{Routes.{turns_back, module_small}, Sound.{sound-start, sound-reply_phase, sound-memory_phase, sound-request_phase, sound-processor_phase}, Neighbours.other}
use Rattle.ultra_model.proofs.AtPlaces.{lane-start, replies-start, memory_module-start, element-start, memory_module-reply_phase, memory_module-request_phase, element-reply_phase, element-request_phase}
use Rattle.ultra_serial_law.specs.{Tree.{NamedRequest, served_leaves}, Log.{LoggedIssue, LoggedAnswer}, Chain.{AreChained, SerializationLaw}}
use Rattle.ultra_serial_law.specs.Legal.{Entry as Done, Has, Cells, with_cell, given_over, given, answered_by, leaf_of_entry, cells_after, replayed, IsLegal}
use Rattle.ultra_serial_law.specs.SerialList.{History, empty_history, noted, after_event, history, serial_list}
use Rattle.ultra_serial_law.proofs.Tidy.{IsTidy, tidy-start, tidy-reply_phase, tidy-memory_phase, tidy-request_phase, tidy-processor_phase, that_is}
use Rattle.ultra_serial_law.proofs.{Forest.{leaf_of, built_leaf}, Explained.{IsIn, IsExplained, IsAnswered, IsForest}, Mentions.noted_trees, ReplyForest.forest-reply_phase, RequestForest.{forest-request_phase, in_holds}, MemoryForest.{noted-append, all_acted, forest-memory_phase}, ProcessorForest.{issues_noted, noted_issues, forest-processor_phase}, Named.{IsNoIssue, IsLogged}, LastCycle.list_at_end, Replays.replayed-append}
use Rattle.ultra_serial_law.proofs.Issued.{is_named, IsEarlier, IsRecorded, same_issues, recorded_noted, recorded_issued, each_issued, sent_own, NewIssue}
use Rattle.ultra_serial_law.proofs.Answered.{IsAnsweredWell, answered_more, answered_issued, DeliversWell, delivered_answers, IsNoDelivery, same_answers, IsNoAct, same_order, same_trees}
use Rattle.ultra_serial_law.proofs.Lists.{in_has, has_in, one_place, get_left, get_before, requests_of, count_replayed, each_replayed}

-- ---- what holds of a machine and its history between any two phases of cycle n
abbrev pub list_of : Settings → History → List Done
list_of c h = replayed (given c.initial) h.order

pub record IsSerial (c : Settings) (n : ℕ) (m : Machine) (h : History) : Type 0 where
  pub sound : IsSound c m
  pub tidy : IsTidy c m
  pub recorded : IsRecorded c m n h
  pub forest : IsForest c m h.trees h.log.issues (list_of c h)
  pub cells : (a : ℕ) → cells_after (given c.initial) h.order a ≡ cell_value c m a
  pub answers : AllByRecursion (IsAnsweredWell h.log.issues (list_of c h)) h.log.answers

-- ---- it is legal
module _ (c : Settings) (n : ℕ) (m : Machine) (h : History) (w : IsSerial c n m h) where
  abbrev list : List Done
  list = list_of c h

  count_once : (p k : ℕ) → count (λ (e : Done). is_named p k (leaf_of_entry e)) list ≤ 1
  count_once p k = omega (arith, count_replayed (is_named p k) (given c.initial) h.order, w.recorded.once p k)

  same_place : (j k : ℕ) (e f : Done) → slice_get list j ≡ Some e → slice_get list k ≡ Some f → e.pe ≡ f.pe → e.number ≡ f.number → j ≡ k
  same_place j k e f a b p q = one_place (λ (d : Done). is_named f.pe f.number (leaf_of_entry d)) list j k e f (count_once f.pe f.number) a (rw (p, q) (that_is f.pe f.number)) b (that_is f.pe f.number)

  logged : AllByRecursion (λ (d : Done). IsLogged h.log.issues (leaf_of_entry d)) list
  logged = each_replayed (IsLogged h.log.issues) (given c.initial) h.order w.recorded.logged.order

  answer_of : (x : LoggedAnswer) → Has h.log.answers x → IsAnsweredWell h.log.issues list x
  answer_of x k = in_holds (IsAnsweredWell h.log.issues list) x h.log.answers w.answers (in_has h.log.answers x k)

  -- the entry of an answer is in the list
  entry_has : (x : LoggedAnswer) (g : IsAnsweredWell h.log.issues list x) → (k : ℕ) × (slice_get g.before k ≡ Some g.entry) × (slice_get list k ≡ Some g.entry)
  entry_has x g =
      let at = has_in g.before g.entry g.stands in
      (at.0, at.1, rw g.split (get_left g.before g.rest at.0 g.entry at.1))

  agreed_with : (e f : Done) (x : LoggedAnswer) → e ≡ f → x.reply ≡ f.reply → x.reply ≡ e.reply
  agreed_with e f x same r = r ∙ ap (λ d. d.reply) (sym same)

  pub is_legal : IsLegal (given c.initial) h.log (cell_value c m) list
  is_legal = record {
    issued = λ e k.
        let l = in_holds (λ (d : Done). IsLogged h.log.issues (leaf_of_entry d)) e list logged (in_has list e k) in
        (l.0, has_in h.log.issues l.0 l.1, record { name = (l.2, l.3); cell = l.4; op = l.5 });
    once = same_place;
    answered = λ x k.
        let g = answer_of x k in
        let at = entry_has x g in
        (g.entry, (at.0, at.2), (g.pe, g.number));
    replies = ap (λ ls. replayed (given c.initial) ls) (requests_of (given c.initial) h.order);
    agreed = λ e x k z name.
        let g = answer_of x z in
        let at = entry_has x g in
        let place = same_place k.0 at.0 e g.entry k.1 at.2 (sym name.0 ∙ g.pe) (sym name.1 ∙ g.number) in
        let there : slice_get list k.0 ≡ Some g.entry = rw place at.2 in
        let both : Some e ≡ Some g.entry = sym k.1 ∙ there in
        let same : e ≡ g.entry = cc in
        agreed_with e g.entry x same g.reply;
    cells = λ a. ap (λ ls. cells_after (given c.initial) ls a) (requests_of (given c.initial) h.order) ∙ w.cells a;
    real_time = λ j k e f i x l a b ki name kx to.
        let g = answer_of x kx in
        let at = entry_has x g in
        let place = same_place k at.0 f g.entry b at.2 (sym to.0 ∙ g.pe) (sym to.1 ∙ g.number) in
        let there : slice_get (g.before ++ g.rest) j ≡ Some e = rw (← g.split) a in
        let before = get_before g.before g.rest j at.0 g.entry e (rw (← place) l) at.1 there in
        let early = in_holds (λ (d : Done). AllByRecursion (λ (v : LoggedIssue). v.pe ≡ d.pe → v.number ≡ d.number → v.cycle < x.cycle) h.log.issues) e g.before g.early before in
        in_holds (λ (v : LoggedIssue). v.pe ≡ e.pe → v.number ≡ e.number → v.cycle < x.cycle) i h.log.issues early (in_has h.log.issues i ki) name.0 name.1;
  }

-- ---- at first
eq_turned : (a b : ℕ) → (a == b) ≡ (b == a)
eq_turned a b = grind (arith, nat_tests)

pub given_is : (is : List (ℕ × ℕ)) (m : Cells) (a : ℕ) → given_over m is a ≡ given_value is a (m a)
given_is [] m a = refl
given_is (i ∷ is) m a =
    let f : Bool → ℕ = λ b. elim b [ true ↦ i.1 | false ↦ m a ] in
    given_is is (with_cell m i.0 i.1) a ∙ ap (λ v. given_value is a v) (ap f (eq_turned a i.0))

given_past : (is : List (ℕ × ℕ)) (n a v : ℕ) → n ≤ a → AllByRecursion (λ (i : ℕ × ℕ). i.0 < n) is → given_value is a v ≡ v
given_past [] n a v l h = refl
given_past (i ∷ is) n a v l h =
    let f : Bool → ℕ = λ b. elim b [ true ↦ i.1 | false ↦ v ] in
    ap (λ u. given_value is a u) (ap f (other i.0 a (omega (arith, l, h.0)))) ∙ given_past is n a v l h.1

module _ (c : Settings) (range : AreInRange c) where
  cell-start : (a : ℕ) → cell_value c (start c) a ≡ given_value c.initial a 0
  cell-start a =
      let k = a % size c in
      let some = pow_pos c.stages in
      let at = ap (λ v. slice_index v.cells (a / size c)) (memory_module-start c k (module_small c range a)) in
      at ∙ ⊎_elim
      (λ l.
      let whole : a / size c * size c + a % size c ≡ a = div-add-mod' a (size c) in
      places_at c.cells (λ o. given_value c.initial (o * size c + k) 0) (a / size c) 0 l ∙ ap (λ v. given_value c.initial v 0) whole)
      (λ l.
      let long = length-places c.cells (λ o. given_value c.initial (o * size c + k) 0) in
      let past : size c * c.cells ≤ a = ⊎_elim (λ z. absurd (omega (arith, l, div_below a (size c) c.cells some (omega (arith, z))))) (λ z. z) (cases_lt a (size c * c.cells)) in
      get_or_past (places c.cells (λ o. given_value c.initial (o * size c + k) 0)) (a / size c) 0 (omega (arith, long, l)) ∙ sym (given_past c.initial (size c * c.cells) a 0 past (recursion_from_All (λ (i : ℕ × ℕ). i.0 < size c * c.cells) c.initial range.addresses)))
      (cases_lt (a / size c) c.cells)

  serial-start : IsSerial c 0 (start c) empty_history
  serial-start = record {
    sound = sound-start c range;
    tidy = tidy-start c;
    recorded = record { once = λ p k. omega arith; logged = record { order = tt; trees = tt }; issues = tt };
    forest = record {
      pending = λ p h. rw (element-start c p h) tt;
      queued = λ s x hs hx. rw (lane-start c s x hs hx) tt;
      inputs = λ k h. rw (memory_module-start c k h) tt;
      outputs = λ k h. rw (memory_module-start c k h) tt;
      replies = λ s v hs hv. rw (replies-start c s v hs hv) tt;
      records = λ s x hs hx. rw (lane-start c s x hs hx) tt;
    };
    cells = λ a. given_is c.initial (λ b. 0) a ∙ sym (cell-start a);
    answers = tt;
  }

-- ---- which events a phase adds
some_delivery : (P : Event → Type 0) (o : Option ReplyMessage) → IfSome o (λ r. P (Delivered r)) → IfSome (delivery o) P
some_delivery P None h = tt
some_delivery P (Some r) h = h

some_serving : (P : Event → Type 0) (k : ℕ) (o : Option Act) → ((a : Act) → P (Served k a.request a.reply a.now)) → IfSome (serving k o) P
some_serving P k None f = tt
some_serving P k (Some a) f = f a

each_combination : (P : Event → Type 0) (s x : ℕ) (r : Request) (o : Option Combination) → ((a p q : ℕ) (f : Bool) → P (Combined s x a p q f)) → AllByRecursion P (combination s x r o)
each_combination P s x r None f = tt
each_combination P s x r (Some v) f = (f r.cell v.old.request.pe r.pe _, tt)

each_of_lane : (P : Event → Type 0) (w s x : ℕ) (l : Lane) (rs : List Request) → ((a p q : ℕ) (f : Bool) → P (Combined s x a p q f)) → AllByRecursion P (combinations w s x l rs)
each_of_lane P w s x l [] f = tt
each_of_lane P w s x l (r ∷ rs) f = each-append P (combination s x r (combine_within w l r)) (combinations w s x (arrive w l r) rs) (each_combination P s x r (combine_within w l r) f) (each_of_lane P w s x (arrive w l r) rs f)

deliver_issued : (e : Element) (o : Option ReplyMessage) → (deliver e o).issued ≡ e.issued
deliver_issued e None = refl
deliver_issued e (Some r) = refl

some_any : {X : Type 0} (o : Option X) (P : X → Type 0) → ((x : X) → P x) → IfSome o P
some_any None P f = tt
some_any (Some x) P f = f x

reply_cells : (b : ModuleState) (o : Option ReplyMessage) → (without_reply b o).cells ≡ b.cells
reply_cells b None = refl
reply_cells b (Some r) = refl

request_cells : (c : Settings) (b : ModuleState) (o : Option Request) → (with_request c b o).cells ≡ b.cells
request_cells c b None = refl
request_cells c b (Some r) = refl

-- the serial list only grows at its end
pub grows-noted : (n : ℕ) (es : List Event) (h : History) → (rest : List NamedRequest) × ((noted n es h).order ≡ h.order ++ rest)
grows-noted n [] h = ([], sym (append-nil h.order))
grows-noted n (e ∷ es) h =
    let more = grows-noted n es (after_event n h e) in
    (served_leaves h.trees e ++ more.0, more.1 ∙ append_assoc h.order (served_leaves h.trees e) more.0)

module _ (c : Settings) (range : AreInRange c) (program : List Instr) (n : ℕ) where
  -- ---- replies
  abbrev pub deliveries : Machine → List Event
  deliveries m = present (places (size c) (λ p. delivery (delivered c m p)))

  each_delivery : (P : Event → Type 0) (m : Machine) → ((p : ℕ) → p < size c → IfSome (delivered c m p) (λ r. P (Delivered r))) → AllByRecursion P (deliveries m)
  each_delivery P m f = each-present P (places (size c) (λ p. delivery (delivered c m p))) (each-places (λ o. IfSome o P) (size c) (λ p. delivery (delivered c m p)) (λ p h. some_delivery P (delivered c m p) (f p h)))

  pub any_delivery : (P : Event → Type 0) (m : Machine) → ((r : ReplyMessage) → P (Delivered r)) → AllByRecursion P (deliveries m)
  any_delivery P m f = each_delivery P m (λ p h. some_any (delivered c m p) (λ r. P (Delivered r)) f)

  -- the reply that is delivered to p is that of an entry
  pub delivered_entry : (m : Machine) (h : History) → IsSerial c n m h → (p : ℕ) → p < size c → IfSome (delivered c m p) (λ (r : ReplyMessage). IsIn (answered_by (leaf_of h.log.issues r.pe r.cell) r.reply) (list_of c h))
  delivered_entry m h w p hp =
      let v = shuffled c.stages p in
      let some = range.some_stages in
      some-weaker (IsAnswered c m h.log.issues (list_of c h) 0) (λ (r : ReplyMessage). IsIn (answered_by (leaf_of h.log.issues r.pe r.cell) r.reply) (list_of c h)) (slice_get (replies_at m 0 v) 0)
      (λ r k. subst (λ t. IsExplained (list_of c h) t r.reply) (built_leaf c m h.log.issues r.pe r.cell) k)
      (each-first (IsAnswered c m h.log.issues (list_of c h) 0) (replies_at m 0 v) (w.forest.replies 0 v (omega arith) (turns_back c range p hp).entry_small))

  pub delivers_well : (m : Machine) (h : History) → IsSerial c n m h → AllByRecursion (DeliversWell h.log.issues (list_of c h)) (deliveries m)
  delivers_well m h w = each_delivery (DeliversWell h.log.issues (list_of c h)) m (λ p hp. delivered_entry m h w p hp)

  same_cells_replied : (m : Machine) (a : ℕ) → cell_value c (reply_phase c m) a ≡ cell_value c m a
  same_cells_replied m a =
      let k = a % size c in
      ap (λ v. slice_index v.cells (a / size c)) (memory_module-reply_phase c m k (module_small c range a)) ∙ ap (λ cs. slice_index cs (a / size c)) (reply_cells (module_at m k) (arriving_reply c m (last_stage c) k))

  pub serial-reply_phase : (m : Machine) (h : History) → IsSerial c n m h → IsSerial c n (reply_phase c m) (noted n (deliveries m) h)
  serial-reply_phase m h w =
      let es = deliveries m in
      let well = delivers_well m h w in
      let no_issue = any_delivery IsNoIssue m (λ r. tt) in
      let order = same_order n es h (any_delivery IsNoAct m (λ r. tt)) in
      let issues = same_issues n es h no_issue in
      let trees = same_trees n es h h.log.issues (list_of c h) well in
      let list : list_of c (noted n es h) ≡ list_of c h = ap (λ ls. replayed (given c.initial) ls) order in
      record {
        sound = sound-reply_phase c range m w.sound;
        tidy = tidy-reply_phase c range m w.sound.routes w.sound.balance w.tidy;
        recorded = recorded_noted c m (reply_phase c m) n es h no_issue (λ p hp. rw (element-reply_phase c m p hp) (deliver_issued (element_at m p) (delivered c m p))) w.recorded;
        forest = rw (trees, issues, list) (forest-reply_phase c range m w.sound.routes w.sound.balance w.tidy h.log.issues h.trees (list_of c h) w.forest);
        cells = λ a. ap (λ ls. cells_after (given c.initial) ls a) order ∙ (w.cells a ∙ sym (same_cells_replied m a));
        answers = rw (issues, list) (delivered_answers n es h (list_of c h) (each-weaker (IsEarlier c m n) (λ (i : LoggedIssue). i.cycle < n) h.log.issues (λ i e. e.cycle) w.recorded.issues) well w.answers);
      }

  -- ---- memory
  pub each_serving : (P : Event → Type 0) (m : Machine) → ((k : ℕ) (a : Act) → P (Served k a.request a.reply a.now)) → AllByRecursion P (present (places (size c) (λ k. serving k (served (module_at m k)))))
  each_serving P m f = each-present P (places (size c) (λ k. serving k (served (module_at m k)))) (each-places (λ o. IfSome o P) (size c) (λ k. serving k (served (module_at m k))) (λ k h. some_serving P k (served (module_at m k)) (λ a. f k a)))

  same_element_served : (m : Machine) (p : ℕ) → (element_at (memory_phase c m) p).issued ≡ (element_at m p).issued
  unfolding memory_phase
  same_element_served m p = refl

  abbrev pub servings : Machine → List Event
  servings m = present (places (size c) (λ k. serving k (served (module_at m k))))

  pub serial-memory_phase : (m : Machine) (h : History) → IsSerial c n m h → IsSerial c n (memory_phase c m) (noted n (servings m) h)
  serial-memory_phase m h w =
      let es = servings m in
      let no_issue = each_serving IsNoIssue m (λ k a. tt) in
      let issues = same_issues n es h no_issue in
      let answers = same_answers n es h (each_serving IsNoDelivery m (λ k a. tt)) in
      let acted = all_acted c range m w.sound.shape w.sound.routes w.sound.balance h.log.issues h.trees (given c.initial) h (list_of c h) w.forest n w.cells in
      record {
        sound = sound-memory_phase c range m w.sound;
        tidy = tidy-memory_phase c m w.tidy;
        recorded = recorded_noted c m (memory_phase c m) n es h no_issue (λ p hp. same_element_served m p) w.recorded;
        forest = rw issues (forest-memory_phase c range m w.sound.shape w.sound.routes w.sound.balance h.log.issues h.trees (given c.initial) h (list_of c h) w.forest n w.cells refl);
        cells = λ a. acted.cells_done a (module_small c range a);
        answers = rw (issues, answers, acted.grows.1) (each-weaker (IsAnsweredWell h.log.issues (list_of c h)) (IsAnsweredWell h.log.issues (list_of c h ++ acted.grows.0)) h.log.answers (λ x k. answered_more h.log.issues (list_of c h) acted.grows.0 x k) w.answers);
      }

  -- ---- requests
  abbrev pub meetings : Machine → List Event
  meetings m = joined (joined (table c.stages (size c) (λ s x. combinations c.wait_places s x (lane_after_leaving c m s x) (arrivals c m s x))))

  pub each_meeting : (P : Event → Type 0) (m : Machine) → ((s x a p q : ℕ) (f : Bool) → P (Combined s x a p q f)) → AllByRecursion P (meetings m)
  each_meeting P m f =
      each-joined P (joined (table c.stages (size c) (λ s x. combinations c.wait_places s x (lane_after_leaving c m s x) (arrivals c m s x))))
      (each-joined (λ es. AllByRecursion P es) (table c.stages (size c) (λ s x. combinations c.wait_places s x (lane_after_leaving c m s x) (arrivals c m s x)))
      (each-places (λ row. AllByRecursion (λ es. AllByRecursion P es) row) c.stages (λ s. places (size c) (λ x. combinations c.wait_places s x (lane_after_leaving c m s x) (arrivals c m s x)))
      (λ s hs. each-places (λ es. AllByRecursion P es) (size c) (λ x. combinations c.wait_places s x (lane_after_leaving c m s x) (arrivals c m s x))
      (λ x hx. each_of_lane P c.wait_places s x (lane_after_leaving c m s x) (arrivals c m s x) (λ a p q g. f s x a p q g)))))

  same_cells_requested : (m : Machine) (a : ℕ) → cell_value c (request_phase c m) a ≡ cell_value c m a
  same_cells_requested m a =
      let k = a % size c in
      ap (λ v. slice_index v.cells (a / size c)) (memory_module-request_phase c m k (module_small c range a)) ∙ ap (λ cs. slice_index cs (a / size c)) (request_cells c (module_at m k) (entering c m k))

  pub serial-request_phase : (m : Machine) (h : History) → IsSerial c n m h → IsSerial c n (request_phase c m) (noted n (meetings m) h)
  serial-request_phase m h w =
      let es = meetings m in
      let no_issue = each_meeting IsNoIssue m (λ s x a p q f. tt) in
      let order = same_order n es h (each_meeting IsNoAct m (λ s x a p q f. tt)) in
      let issues = same_issues n es h no_issue in
      let answers = same_answers n es h (each_meeting IsNoDelivery m (λ s x a p q f. tt)) in
      let list : list_of c (noted n es h) ≡ list_of c h = ap (λ ls. replayed (given c.initial) ls) order in
      record {
        sound = sound-request_phase c range m w.sound;
        tidy = tidy-request_phase c range m w.tidy;
        recorded = recorded_noted c m (request_phase c m) n es h no_issue (λ p hp. rw (element-request_phase c m p hp) refl) w.recorded;
        forest = rw (noted_trees n es h, issues, list) (forest-request_phase c range m w.sound.routes w.sound.balance w.tidy h.log.issues h.trees (list_of c h) w.forest);
        cells = λ a. ap (λ ls. cells_after (given c.initial) ls a) order ∙ (w.cells a ∙ sym (same_cells_requested m a));
        answers = rw (issues, answers, list) w.answers;
      }

  -- ---- processors
  abbrev pub issues_of : Machine → List Event
  issues_of m = present (places (size c) (λ p. issue_event (element_at m p) (step_at c program m p).sent))

  -- a new issue has a number that no entry has
  abbrev Fresh : Machine → Done → LoggedIssue → Type 0
  Fresh m d i = (i.number ≡ (element_at m i.pe).issued) × (d.number < (element_at m d.pe).issued)

  not_fresh : (m : Machine) (d : Done) (i : LoggedIssue) → Fresh m d i → i.pe ≡ d.pe → i.number ≡ d.number → ⊥
  not_fresh m d i z a b =
      let same : (element_at m i.pe).issued ≡ (element_at m d.pe).issued = ap (λ p. (element_at m p).issued) a in
      let one = z.0 in
      let two = z.1 in
      absurd (omega (arith, one, two, same, b))

  entries_given : (m : Machine) (h : History) → IsSerial c n m h → AllByRecursion (λ (d : Done). d.number < (element_at m d.pe).issued) (list_of c h)
  entries_given m h w =
      each_replayed (λ (l : NamedRequest). l.number < (element_at m l.pe).issued) (given c.initial) h.order
      (each-weaker (IsLogged h.log.issues) (λ (l : NamedRequest). l.number < (element_at m l.pe).issued) h.order
      (λ l z.
      let known = in_holds (IsEarlier c m n) z.0 h.log.issues w.recorded.issues z.1 in
      let same : (element_at m z.0.pe).issued ≡ (element_at m l.pe).issued = ap (λ p. (element_at m p).issued) z.2 in
      omega (arith, known.number, same, z.3)) w.recorded.logged.order)

  all_fresh : (m : Machine) (h : History) → IsSerial c n m h → AllByRecursion (λ (d : Done). AllByRecursion (NewIssue (Fresh m d) n) (issues_of m)) (list_of c h)
  all_fresh m h w =
      each-weaker (λ (d : Done). d.number < (element_at m d.pe).issued) (λ (d : Done). AllByRecursion (NewIssue (Fresh m d) n) (issues_of m)) (list_of c h)
      (λ d z. each_issued c program m (NewIssue (Fresh m d) n) (λ p r hp e. (ap (λ q. (element_at m q).issued) (sym (sent_own c program m p r e)), z))) (entries_given m h w)

  same_cells_processed : (m : Machine) (a : ℕ) → cell_value c (processor_phase c program m) a ≡ cell_value c m a
  unfolding processor_phase
  same_cells_processed m a = refl

  serial-processor_phase : (m : Machine) (h : History) → IsSerial c n m h → IsSerial c (suc n) (processor_phase c program m) (noted n (issues_of m) h)
  serial-processor_phase m h w =
      let es = issues_of m in
      let order = same_order n es h (each_issued c program m IsNoAct (λ p r hp e. tt)) in
      let answers = same_answers n es h (each_issued c program m IsNoDelivery (λ p r hp e. tt)) in
      let list : list_of c (noted n es h) ≡ list_of c h = ap (λ ls. replayed (given c.initial) ls) order in
      record {
        sound = sound-processor_phase c range program m w.sound;
        tidy = tidy-processor_phase c program m w.tidy;
        recorded = recorded_issued c program m n h w.recorded;
        forest = rw (noted_trees n es h, noted_issues n es h, list) (forest-processor_phase c range program m w.sound.routes w.sound.balance w.tidy n h.log.issues h.trees (list_of c h) w.forest);
        cells = λ a. ap (λ ls. cells_after (given c.initial) ls a) order ∙ (w.cells a ∙ sym (same_cells_processed m a));
        answers = rw (noted_issues n es h, answers, list)
            (each-weaker (IsAnsweredWell h.log.issues (list_of c h)) (IsAnsweredWell (issues_noted n es h.log.issues) (list_of c h)) h.log.answers (λ x k. answered_issued (Fresh m) (not_fresh m) n es h.log.issues (list_of c h) x (all_fresh m h w) k) w.answers);
      }

  -- ---- a cycle
  pub events_of : (m : Machine) → (cycle c program m).events ≡ ((deliveries m ++ servings (reply_phase c m)) ++ meetings (memory_phase c (reply_phase c m))) ++ issues_of (request_phase c (memory_phase c (reply_phase c m)))
  unfolding cycle reply_phase memory_phase request_phase processor_phase
  events_of m = refl

  pub noted_cycle : (m : Machine) (h : History) → noted n (cycle c program m).events h
      ≡ noted n (issues_of (request_phase c (memory_phase c (reply_phase c m)))) (noted n (meetings (memory_phase c (reply_phase c m))) (noted n (servings (reply_phase c m)) (noted n (deliveries m) h)))
  noted_cycle m h =
      let a = deliveries m in
      let s = servings (reply_phase c m) in
      let v = meetings (memory_phase c (reply_phase c m)) in
      let i = issues_of (request_phase c (memory_phase c (reply_phase c m))) in
      ap (λ es. noted n es h) (events_of m)
      ∙ (noted-append n ((a ++ s) ++ v) i h
      ∙ ap (λ k. noted n i k) (noted-append n (a ++ s) v h ∙ ap (λ k. noted n v k) (noted-append n a s h)))

  serial-cycle : (m : Machine) (h : History) → IsSerial c n m h → IsSerial c (suc n) (cycle c program m) (noted n (cycle c program m).events h)
  unfolding cycle
  serial-cycle m h w =
      let one = serial-reply_phase m h w in
      let two = serial-memory_phase (reply_phase c m) _ one in
      let three = serial-request_phase (memory_phase c (reply_phase c m)) _ two in
      let four = serial-processor_phase (request_phase c (memory_phase c (reply_phase c m))) _ three in
      subst (λ k. IsSerial c (suc n) (processor_phase c program (request_phase c (memory_phase c (reply_phase c m)))) k) (sym (noted_cycle m h)) four

-- ---- all cycles
module _ (c : Settings) (range : AreInRange c) (program : List Instr) where
  pub serial_after : (n : ℕ) → IsSerial c n (after c program n) (history c program n)
  unfolding after history
  serial_after zero = serial-start c range
  serial_after (suc n) = serial-cycle c range program n (after c program n) (history c program n) (serial_after n)

  pub history_next : (n : ℕ) → history c program (suc n) ≡ noted n (after c program (suc n)).events (history c program n)
  unfolding history
  history_next n = refl

  grows_next : (n : ℕ) → IsPrefix (serial_list c program n) (serial_list c program (suc n))
  grows_next n =
      let h = history c program n in
      let more = grows-noted n (after c program (suc n)).events h in
      let order : (history c program (suc n)).order ≡ h.order ++ more.0 = ap (λ k. k.order) (history_next n) ∙ more.1 in (
        replayed (cells_after (given c.initial) h.order) more.0,
        sym (ap (λ ls. replayed (given c.initial) ls) order ∙ replayed-append (given c.initial) h.order more.0),
      )

  pub are_chained : AreChained c program
  are_chained = record {
    grows = λ n. subst (λ k. IsPrefix (serial_list c program n) (serial_list c program k)) (omega arith) (grows_next n);
    legal = λ n. is_legal c n (after c program n) (history c program n) (serial_after n);
    whole = list_at_end c program;
  }

-- the law
pub serialization : SerializationLaw
serialization c range program = are_chained c range program
