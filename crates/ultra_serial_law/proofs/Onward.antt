-- the request phase takes the hot requests from stage to stage
use Rattle.std.proofs.Common.{◌≡◌, ℕ, suc, ◌+◌, ◌-◌, ◌/◌, ◌%◌, ◌^◌, ◌<◌, ◌≤◌, List, [], ◌∷◌, Bool, true, false, refl, arith, sym, subst, ◌∙◌, ap}
use Rattle.std.specs.Prelude.{Option, Some, None, slice_get}
use Rattle.std.proofs.Math.Nat.{div-eq_of_lt, mod-one}
use Rattle.ultra_msg.specs.declared.Request.{Request}
use Rattle.ultra_route.specs.Route.{shuffled, unshuffled}
use Rattle.ultra_switch.specs.{declared.QueueEntry.QueueEntry, Arrive.{Lane, empty_lane, entry}}
use Rattle.ultra_model.specs.{Places.after_leaving, Phases.{request_before, arriving_request, request_phase}, Ranges.AreInRange, Routed.module_of}
use Rattle.ultra_model.specs.Machine.{Settings, Machine, Element, size, last_stage, lane_at, element_at}
use Rattle.ultra_model.proofs.{Neighbours.itself, Routes.{turns_back, module_small}, RequestBalance.before_first, AtPlaces.{lane-request_phase, element-request_phase, replies-request_phase}}
use Rattle.ultra_serial_law.specs.HotCell.{front, record_of}
use Rattle.ultra_serial_law.proofs.{Meeting.{front_first, all_arrive, hot_requests_reach}, Fronts.front_cell, Others.{Keeps, keeps_alone, IsAway}, Quiet.{head_of, before_at, stays_empty, none_enters}}
use Rattle.ultra_serial_law.proofs.Stages.{is_on, IsAsked, fronts, lines, hot_at, left_behind, IsSilent, IsSet, IsAtStage}

-- where the head of a queue of at most one request leaves, nothing is left
pub head_leaves : (r : QueueEntry) (b : Bool) (q : List QueueEntry) → q ≡ elim b [ true ↦ r ∷ [] | false ↦ [] ] → after_leaving (head_of q) q ≡ []
head_leaves r true q e = rw e refl
head_leaves r false q e = rw e refl

module _ (c : Settings) (range : AreInRange c) (a n : ℕ) (asked : ℕ → Request) (each : IsAsked c a asked) (some_waits : 1 ≤ c.wait_places) where
  -- ---- the lanes that the hot requests have reached
  queue_of : (b : Bool) (e : QueueEntry) (l : Lane) → l.queue ≡ e ∷ [] → (elim b as (λ z. Lane) [ true ↦ l | false ↦ empty_lane ]).queue ≡ elim b [ true ↦ e ∷ [] | false ↦ [] ]
  queue_of true e l h = h
  queue_of false e l h = refl

  pub hot_queue : (s x : ℕ) → (hot_at c a n asked s x).queue ≡ elim (is_on c a (s + 1) x) [ true ↦ entry (fronts c n asked (suc s) x) true ∷ [] | false ↦ [] ]
  hot_queue s x = queue_of (is_on c a (s + 1) x) (entry (fronts c n asked (suc s) x) true) record { queue = entry (fronts c n asked (suc s) x) true ∷ []; records = record_of c.stages n asked s x ∷ [] } refl

  records_if : (b : Bool) (s x : ℕ) → (elim b as (λ z. Lane) [ true ↦ record { queue = entry (front c.stages n asked (suc s) x) true ∷ []; records = record_of c.stages n asked s x ∷ [] } | false ↦ empty_lane ]).records ≡ elim b [ true ↦ record_of c.stages n asked s x ∷ [] | false ↦ [] ]
  records_if true s x = refl
  records_if false s x = refl

  pub hot_records : (s x : ℕ) → (hot_at c a n asked s x).records ≡ left_behind c a n asked s x
  hot_records s x = records_if (is_on c a (s + 1) x) s x

  head_if : (b : Bool) (r : Request) → head_of (elim b [ true ↦ entry r true ∷ [] | false ↦ [] ]) ≡ elim b [ true ↦ Some r | false ↦ None ]
  head_if true r = refl
  head_if false r = refl

  -- the head of the queue on a line is the hot request there
  pub hot_head : (s x : ℕ) → head_of (hot_at c a n asked s x).queue ≡ lines c a n asked (suc s) x
  hot_head s x =
      let next : s + 1 ≡ suc s = omega arith in
      let r = fronts c n asked (suc s) x in
      let f : ℕ → Option Request = λ j. elim (is_on c a j x) [ true ↦ Some r | false ↦ None ] in
      ap (λ q. head_of q) (hot_queue s x) ∙ (head_if (is_on c a (s + 1) x) r ∙ ap f next)

  -- ---- it sets out
  pub leads_first : (x : ℕ) → is_on c a 0 x ≡ true
  leads_first x =
      let k = module_of c a in
      let low : x % 2 ^ 0 ≡ 0 = mod-one x in
      let all : c.stages - 0 ≡ c.stages = omega arith in
      let high : k / 2 ^ (c.stages - 0) ≡ 0 = ap (λ d. k / 2 ^ d) all ∙ div-eq_of_lt (module_small c range a) in
      rw (low, high) (itself 0)

  module _ (m : Machine) (w : IsSet c a n asked m) (cycles : m.cycles ≡ n + 0) where
    first_come : (y : ℕ) → y < size c → request_before c m 0 y ≡ lines c a n asked 0 (unshuffled c.stages y)
    first_come y hy =
        let x = unshuffled c.stages y in
        let f : Bool → Option Request = λ b. elim b [ true ↦ Some (fronts c n asked 0 x) | false ↦ None ] in
        ap (λ (rs : List Request). slice_get rs 0) (w.pending x (turns_back c range y hy).line_small) ∙ (ap (λ r. Some r) (sym (front_first c range a n asked x)) ∙ sym (ap f (leads_first x)))

    first_leaves : (p : ℕ) → p < size c → (element_at (request_phase c m) p).interface.pending ≡ []
    first_leaves p hp =
        let y = shuffled c.stages p in
        let some = range.some_stages in
        let gone : arriving_request c m 0 y ≡ Some (asked p) = all_arrive c range a n asked m 0 (omega arith) (λ x hx. w.lanes 0 x (omega arith) hx) y (turns_back c range p hp).entry_small ∙ (before_first c range m p hp ∙ ap (λ (rs : List Request). slice_get rs 0) (w.pending p hp)) in
        ap (λ (e : Element). e.interface.pending) (element-request_phase c m p hp) ∙ rw (gone, w.pending p hp) refl

    first_away : (p : ℕ) → p < size c → IsAway a (element_at (request_phase c m) p).interface
    first_away p hp = record {
      opened = rw (element-request_phase c m p hp) (w.opened p hp);
      pending = rw (first_leaves p hp) tt;
    }

    none_ahead : (t y : ℕ) → 0 < t → t < c.stages → y < size c → request_before c m t y ≡ None
    none_ahead t y h ht hy =
        let back : t - 1 + 1 ≡ t = omega arith in
        let x = unshuffled c.stages y in
        subst (λ j. request_before c m j y ≡ None) back (before_at c range m (t - 1) y ∙ ap (λ (l : Lane). head_of l.queue) (w.lanes (t - 1) x (omega arith) (turns_back c range y hy).line_small))

    silent_first : IsSilent c (request_phase c m)
    silent_first =
        let some = range.some_stages in
        record {
          replies = λ t y ht hy. replies-request_phase c m t y ∙ w.silent.replies t y ht hy;
          modules = λ k hk.
              rw (none_enters c range m k hk (w.silent.modules k hk).no_request (ap (λ (l : Lane). head_of l.queue) (w.lanes (last_stage c) k (omega arith) hk))) (w.silent.modules k hk);
        }

    first_here : (x : ℕ) → x < size c → lane_at (request_phase c m) 0 x ≡ hot_at c a n asked 0 x
    first_here x hx =
        let some = range.some_stages in
        lane-request_phase c m 0 x (omega arith) hx
        ∙ hot_requests_reach c range a n asked m 0 (omega arith) (λ z hz. w.lanes 0 z (omega arith) hz) first_come (front_cell c range a n asked each 0) some_waits cycles x hx

    pub hot_requests_set_out : IsAtStage c a n asked 0 (request_phase c m)
    hot_requests_set_out = record {
      clear = record { queues = λ t x ht hx. absurd (omega (arith, ht)); interfaces = first_away };
      left = record {
        records = λ t x ht hx.
            let none : 0 ≡ t = omega (arith, ht) in
            let keeps : Keeps a (left_behind c a n asked 0 x) (lane_at (request_phase c m) 0 x).records = rw (first_here x hx, hot_records 0 x) (keeps_alone a (left_behind c a n asked 0 x)) in
            subst (λ j. Keeps a (left_behind c a n asked j x) (lane_at (request_phase c m) j x).records) none keeps;
      };
      here = first_here;
      ahead = λ t x h ht hx. stays_empty c range m t x ht hx (w.lanes t x ht hx) (λ y hy. none_ahead t y h ht hy);
      silent = silent_first;
    }
