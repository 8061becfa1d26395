-- the request phase takes the hot requests on to the next stage
use Rattle.std.proofs.Common.{◌≡◌, ℕ, suc, ◌+◌, ◌-◌, ◌<◌, ◌≤◌, [], ◌∷◌, true, false, arith, sym, subst, ◌∙◌, ap, ⊎_elim}
use Rattle.std.specs.Prelude.{Option, None}
use Rattle.std.proofs.lemmas.Bool.{cases_lt}
use Rattle.ultra_msg.specs.declared.Request.{Request}
use Rattle.ultra_route.specs.Route.{shuffled, unshuffled}
use Rattle.ultra_switch.specs.Arrive.{Lane, empty_lane, entry}
use Rattle.ultra_model.specs.{Places.after_leaving, Machine.{Settings, Machine, size, last_stage, lane_at}, Phases.{request_before, leaving_request, entering, request_phase}, Ranges.AreInRange}
use Rattle.ultra_model.proofs.{Routes.turns_back, RequestBalance.{before_next, leaving_at_last, leaving_below}, AtPlaces.{lane-request_phase, replies-request_phase}}
use Rattle.ultra_serial_law.proofs.{Meeting.{all_arrive, hot_requests_reach}, Fronts.front_cell, Others.{Keeps, keeps_alone, AreOtherEntries}, Quiet.{head_of, before_at, stays_empty, entering_is, none_enters}, Behind.{clear_requested, left_requested}, Onward.{head_leaves, hot_queue, hot_records, hot_head}}
use Rattle.ultra_serial_law.proofs.Stages.{is_on, IsAsked, fronts, lines, hot_at, left_behind, IsSilent, IsClear, HasLeft, IsAtStage}

module _ (c : Settings) (range : AreInRange c) (a n : ℕ) (asked : ℕ → Request) (each : IsAsked c a asked) (some_waits : 1 ≤ c.wait_places) where
  keeps_here : (s x : ℕ) (m : Machine) → lane_at m s x ≡ hot_at c a n asked s x → Keeps a (left_behind c a n asked s x) (lane_at m s x).records
  keeps_here s x m e = rw (e, hot_records c range a n asked each some_waits s x) (keeps_alone a (left_behind c a n asked s x))

  left_more : (e : ℕ) (m : Machine) → HasLeft c a n asked e m → ((x : ℕ) → x < size c → lane_at m e x ≡ hot_at c a n asked e x) → HasLeft c a n asked (suc e) m
  left_more e m h here = record {
    records = λ t x ht hx.
        ⊎_elim (λ l. h.records t x l hx)
        (λ l. let same : e ≡ t = omega (arith, ht, l) in subst (λ j. Keeps a (left_behind c a n asked j x) (lane_at m j x).records) same (keeps_here e x m (here x hx))) (cases_lt t e);
  }

  nothing_stays : (s x : ℕ) (m : Machine) (o : Option Request) → lane_at m s x ≡ hot_at c a n asked s x → o ≡ head_of (lane_at m s x).queue → AreOtherEntries a (after_leaving o (lane_at m s x).queue)
  nothing_stays s x m o e h =
      let queue : (lane_at m s x).queue ≡ elim (is_on c a (s + 1) x) [ true ↦ entry (fronts c n asked (suc s) x) true ∷ [] | false ↦ [] ] = ap (λ (l : Lane). l.queue) e ∙ hot_queue c range a n asked each some_waits s x in
      let none = head_leaves (entry (fronts c n asked (suc s) x) true) (is_on c a (s + 1) x) (lane_at m s x).queue queue in
      rw (h, none) tt

  module _ (s : ℕ) (m : Machine) (w : IsAtStage c a n asked s m) where
    -- ---- to the next stage
    module _ (more : suc s < c.stages) (cycles : m.cycles ≡ n + suc s) where
      next : s + 1 ≡ suc s
      next = omega arith

      empty_next : (x : ℕ) → x < size c → lane_at m (suc s) x ≡ empty_lane
      empty_next x hx = w.ahead (suc s) x (omega arith) more hx

      leaves_all : (x : ℕ) → x < size c → leaving_request c m s x ≡ head_of (lane_at m s x).queue
      leaves_all x hx =
          let y = shuffled c.stages x in
          let arrives = all_arrive c range a n asked m (s + 1) (omega arith) (λ z hz. subst (λ j. lane_at m j z ≡ empty_lane) (sym next) (empty_next z hz)) y (turns_back c range x hx).entry_small in
          leaving_below c range m s x (omega arith) ∙ (arrives ∙ before_next c range m s x hx)

      behind : (x : ℕ) → s < suc s → x < size c → AreOtherEntries a (after_leaving (leaving_request c m s x) (lane_at m s x).queue)
      behind x _ hx = nothing_stays s x m (leaving_request c m s x) (w.here x hx) (leaves_all x hx)

      come : (y : ℕ) → y < size c → request_before c m (suc s) y ≡ lines c a n asked (suc s) (unshuffled c.stages y)
      come y hy =
          let x = unshuffled c.stages y in
          subst (λ j. request_before c m j y ≡ head_of (lane_at m s x).queue) next (before_at c range m s y)
          ∙ (ap (λ (l : Lane). head_of l.queue) (w.here x (turns_back c range y hy).line_small) ∙ hot_head c range a n asked each some_waits s x)

      here_next : (x : ℕ) → x < size c → lane_at (request_phase c m) (suc s) x ≡ hot_at c a n asked (suc s) x
      here_next x hx =
          lane-request_phase c m (suc s) x more hx
          ∙ hot_requests_reach c range a n asked m (suc s) more empty_next come (front_cell c range a n asked each (suc s)) some_waits cycles x hx

      none_ahead : (t y : ℕ) → suc s < t → t < c.stages → y < size c → request_before c m t y ≡ None
      none_ahead t y h ht hy =
          let back : t - 1 + 1 ≡ t = omega arith in
          let x = unshuffled c.stages y in
          subst (λ j. request_before c m j y ≡ None) back (before_at c range m (t - 1) y ∙ ap (λ (l : Lane). head_of l.queue) (w.ahead (t - 1) x (omega arith) (omega arith) (turns_back c range y hy).line_small))

      silent_next : IsSilent c (request_phase c m)
      silent_next = record {
        replies = λ t y ht hy. replies-request_phase c m t y ∙ w.silent.replies t y ht hy;
        modules = λ k hk.
            rw (none_enters c range m k hk (w.silent.modules k hk).no_request (ap (λ (l : Lane). head_of l.queue) (w.ahead (last_stage c) k (omega arith) (omega arith) hk))) (w.silent.modules k hk);
      }

      pub hot_requests_move : IsAtStage c a n asked (suc s) (request_phase c m)
      hot_requests_move = record {
        clear = clear_requested c range a s (omega arith) m w.clear (suc s) (omega arith) (omega arith) behind;
        left = left_more (suc s) (request_phase c m) (left_requested c range a s (omega arith) m w.clear n asked (suc s) (omega arith) (omega arith) behind w.left) here_next;
        here = here_next;
        ahead = λ t x h ht hx. stays_empty c range m t x ht hx (w.ahead t x (omega arith) ht hx) (λ y hy. none_ahead t y h ht hy);
        silent = silent_next;
      }

    -- ---- from the last stage to the module
    module _ (last : suc s ≡ c.stages) where
      is_last : s ≡ last_stage c
      is_last = omega arith

      enters : (k : ℕ) → k < size c → entering c m k ≡ lines c a n asked (suc s) k
      enters k hk =
          entering_is c range m k (w.silent.modules k hk).no_request
          ∙ (ap (λ j. head_of (lane_at m j k).queue) (sym is_last) ∙ (ap (λ (l : Lane). head_of l.queue) (w.here k hk) ∙ hot_head c range a n asked each some_waits s k))

      leaves_last : (x : ℕ) → x < size c → leaving_request c m s x ≡ head_of (lane_at m s x).queue
      leaves_last x hx =
          leaving_at_last c range m s x is_last
          ∙ (entering_is c range m x (w.silent.modules x hx).no_request ∙ ap (λ j. head_of (lane_at m j x).queue) (sym is_last))

      behind_last : (x : ℕ) → s < suc s → x < size c → AreOtherEntries a (after_leaving (leaving_request c m s x) (lane_at m s x).queue)
      behind_last x _ hx = nothing_stays s x m (leaving_request c m s x) (w.here x hx) (leaves_last x hx)

      pub enters_at : (k : ℕ) → k < size c → entering c m k ≡ lines c a n asked c.stages k
      enters_at k hk = subst (λ j. entering c m k ≡ lines c a n asked j k) last (enters k hk)

      pub clear_of_all : IsClear c a c.stages (request_phase c m)
      clear_of_all = subst (λ j. IsClear c a j (request_phase c m)) last (clear_requested c range a s (omega arith) m w.clear (suc s) (omega arith) (omega arith) behind_last)

      pub left_everywhere : HasLeft c a n asked c.stages (request_phase c m)
      left_everywhere = subst (λ j. HasLeft c a n asked j (request_phase c m)) last (left_requested c range a s (omega arith) m w.clear n asked (suc s) (omega arith) (omega arith) behind_last w.left)
