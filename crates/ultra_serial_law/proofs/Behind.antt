-- the request phase behind the hot requests: requests for other cells move on, and what the hot requests have left stays
use Rattle.std.proofs.Common.{◌≡◌, ◌≢◌, ℕ, suc, ◌+◌, ◌-◌, ◌*◌, ◌/◌, ◌%◌, ◌<◌, ◌≤◌, List, [], ◌∷◌, ◌++◌, Bool, true, false, arith, subst, ⊎_elim}
use Rattle.std.specs.Prelude.{Option, Some, None, IfSome, slice_get, ◌==◌}
use Rattle.std.proofs.lemmas.Bool.{cases_lt, Decides.nat_tests}
use Rattle.ultra_msg.specs.declared.Request.{Request}
use Rattle.ultra_route.specs.Route.{shuffled, unshuffled}
use Rattle.ultra_switch.specs.{declared.{QueueEntry.QueueEntry, WaitRecord.WaitRecord}, Queues.request_of}
use Rattle.ultra_model.specs.{Places.after_leaving, Ranges.AreInRange}
use Rattle.ultra_model.specs.Machine.{Settings, Machine, Element, size, lane_at, element_at, request_exit}
use Rattle.ultra_model.specs.Phases.{has_request_room, request_before, admitted, arriving_request, requests_by, arrivals_by, arrivals, leaving_request, lane_after_leaving, request_phase, without_pending}
use Rattle.ultra_model.proofs.{Each.{each-append, each-after_leaving, each-first, if_tested}, OnRoute.some-request, Routes.{turns_back, two_ports}, AtPlaces.{lane-request_phase, element-request_phase}}
use Rattle.ultra_serial_law.proofs.Others.{AreOthers, AreOtherEntries, Keeps, keeps_alone, IsAfterOthers, after_others, IsAway}
use Rattle.ultra_serial_law.proofs.Stages.{IsClear, HasLeft}

not_first : (s : ℕ) → (s == 0) ≡ false → 1 ≤ s
not_first s h = grind (arith, nat_tests)

module _ (c : Settings) (range : AreInRange c) (a b : ℕ) (within : b ≤ c.stages) (m : Machine) (clear : IsClear c a b m) where
  -- ---- what arrives behind the hot requests is for other cells
  abbrev IsOther : Request → Type 0
  IsOther r = r.cell ≢ a

  before_other : (t y : ℕ) → t ≤ b → y < size c → IfSome (request_before c m t y) IsOther
  before_other t y ht hy =
      let x = unshuffled c.stages y in
      let small = (turns_back c range y hy).line_small in
      if_tested (t == 0) (λ o. IfSome o IsOther) (slice_get (element_at m x).interface.pending 0) (request_of (slice_get (lane_at m (t - 1) x).queue 0))
      (λ z. each-first IsOther (element_at m x).interface.pending (clear.interfaces x small).pending)
      (λ z. let some = not_first t z in
      some-request IsOther (slice_get (lane_at m (t - 1) x).queue 0) (each-first (λ (e : QueueEntry). IsOther e.request) (lane_at m (t - 1) x).queue (clear.queues (t - 1) x (omega arith) small)))

  admitted_other : (t y : ℕ) (o : Option Request) → IfSome o IsOther → IfSome (admitted c m t y o) IsOther
  admitted_other t y None h = tt
  admitted_other t y (Some r) h = if_tested (has_request_room c m t (request_exit c t y r)) (λ o. IfSome o IsOther) (Some r) None (λ z. h) (λ z. tt)

  arriving_other : (t y : ℕ) → t ≤ b → y < size c → IfSome (arriving_request c m t y) IsOther
  unfolding arriving_request
  arriving_other t y ht hy = admitted_other t y (request_before c m t y) (before_other t y ht hy)

  by_other : (t y x : ℕ) (o : Option Request) → IfSome o IsOther → AreOthers a (requests_by c t y x o)
  by_other t y x None h = tt
  by_other t y x (Some r) h = if_tested (request_exit c t y r == x) (λ rs. AreOthers a rs) (r ∷ []) [] (λ z. (h, tt)) (λ z. tt)

  both_other : (d : Bool) (xs ys : List Request) → AreOthers a xs → AreOthers a ys → AreOthers a (elim d [ true ↦ xs ++ ys | false ↦ ys ++ xs ])
  both_other true xs ys h g = each-append IsOther xs ys h g
  both_other false xs ys h g = each-append IsOther ys xs g h

  arrivals_other : (t x : ℕ) → t ≤ b → x < size c → AreOthers a (arrivals c m t x)
  arrivals_other t x ht hx =
      let ports = two_ports c range x hx in
      let zero = by_other t (2 * (x / 2)) x (arriving_request c m t (2 * (x / 2))) (arriving_other t (2 * (x / 2)) ht ports.0) in
      let one = by_other t (2 * (x / 2) + 1) x (arriving_request c m t (2 * (x / 2) + 1)) (arriving_other t (2 * (x / 2) + 1) ht ports.1) in
      both_other (m.cycles % 2 == 0) (arrivals_by c m t (2 * (x / 2)) x) (arrivals_by c m t (2 * (x / 2) + 1) x) zero one

  -- ---- the lanes
  -- what is left at a place after departure is for other cells
  abbrev pub LeavesOthers : ℕ → ℕ → Type 0
  LeavesOthers t x = AreOtherEntries a (after_leaving (leaving_request c m t x) (lane_at m t x).queue)

  leaves_others : (t x : ℕ) → t < b → x < size c → LeavesOthers t x
  leaves_others t x ht hx = each-after_leaving (λ (e : QueueEntry). e.request.cell ≢ a) (leaving_request c m t x) (lane_at m t x).queue (clear.queues t x ht hx)

  lane_behind : (t x : ℕ) (kept : List WaitRecord) → t ≤ b → t < c.stages → x < size c → LeavesOthers t x → Keeps a kept (lane_at m t x).records → IsAfterOthers a kept (lane_at (request_phase c m) t x)
  lane_behind t x kept ht hs hx h k =
      rw (lane-request_phase c m t x hs hx) (after_others a c.wait_places kept (lane_after_leaving c m t x) (arrivals c m t x) record { queue = h; records = k } (arrivals_other t x ht hx))

  away_left : (e : Element) (o : Option Request) → IsAway a e.interface → IsAway a (without_pending e o).interface
  away_left e o h = record { opened = h.opened; pending = each-after_leaving IsOther o e.interface.pending h.pending }

  away_requested : (p : ℕ) → p < size c → IsAway a (element_at (request_phase c m) p).interface
  away_requested p hp = rw (element-request_phase c m p hp) (away_left (element_at m p) (arriving_request c m 0 (shuffled c.stages p)) (clear.interfaces p hp))

  module _ (e : ℕ) (next : e ≤ suc b) (all : e ≤ c.stages) (hot : (x : ℕ) → b < e → x < size c → LeavesOthers b x) where
    leaves : (t x : ℕ) → t < e → x < size c → LeavesOthers t x
    leaves t x ht hx =
        ⊎_elim (λ l. leaves_others t x l hx)
        (λ l. let same : b ≡ t = omega (arith, ht, next, l) in subst (λ s. LeavesOthers s x) same (hot x (omega (arith, ht, l)) hx)) (cases_lt t b)

    pub clear_requested : IsClear c a e (request_phase c m)
    clear_requested = record {
      queues = λ t x ht hx. (lane_behind t x (lane_at m t x).records (omega arith) (omega arith) hx (leaves t x ht hx) (keeps_alone a (lane_at m t x).records)).queue;
      interfaces = away_requested;
    }

  pub left_requested : (n : ℕ) (asked : ℕ → Request) (e : ℕ) → e ≤ suc b → e ≤ c.stages → ((x : ℕ) → b < e → x < size c → LeavesOthers b x) → HasLeft c a n asked e m → HasLeft c a n asked e (request_phase c m)
  left_requested n asked e next all hot h = record {
    records = λ t x ht hx. (lane_behind t x _ (omega arith) (omega arith) hx (leaves e next all hot t x ht hx) (h.records t x ht hx)).records;
  }
