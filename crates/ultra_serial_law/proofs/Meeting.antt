-- where the hot requests come to a stage that is empty, they combine there two by two
use Rattle.std.proofs.Common.{◌≡◌, ℕ, suc, ◌+◌, ◌-◌, ◌*◌, ◌/◌, ◌%◌, ◌<◌, ◌≤◌, List, [], ◌∷◌, ◌++◌, Bool, true, false, refl, arith, sym, subst, ◌∙◌, ap, ⊎_elim}
use Rattle.std.specs.Prelude.{Option, Some, None, ◌==◌, nat_lt, nat_le, length}
use Rattle.std.proofs.lemmas.Bool.{eqb-true, cases_Bool, Decides.nat_tests}
use Rattle.ultra_msg.specs.declared.Request.{Request}
use Rattle.ultra_route.specs.Route.{unshuffled, bit_of, with_lowest}
use Rattle.ultra_switch.specs.Arrive.{Lane, empty_lane, entry, sent_for, combined_entry, wait_record, combine, after_arrival, arrive}
use Rattle.ultra_model.specs.{Places.after_leaving, Ranges.AreInRange, Routed.module_of}
use Rattle.ultra_model.specs.Machine.{Settings, Machine, size, last_stage, lane_at, request_exit}
use Rattle.ultra_model.specs.Phases.{arrive_all, has_request_room, request_before, admitted, arriving_request, requests_by, arrivals_by, arrivals, lane_after_leaving, leaving_request, next_lane}
use Rattle.ultra_model.proofs.{Neighbours.{itself, even_half, odd_half}, Routes.{module_small, turns_back, two_ports}}
use Rattle.ultra_serial_law.specs.HotCell.{first_port, second_port, front, old_of, new_of, record_of}
use Rattle.ultra_serial_law.proofs.Lines.{Leads, lead}
use Rattle.ultra_serial_law.proofs.Stages.{IsPort, turned, is_on, fronts, lines, hot_at}

-- ---- an empty lane
room : (w : ℕ) → 1 ≤ w → nat_lt 0 w ≡ true
room w h = grind (arith, nat_tests)

two_room : (q : ℕ) → 2 ≤ q → nat_le (0 + 2) q ≡ true
two_room q h = grind (arith, nat_tests)

one_comes : (w : ℕ) (r : Request) → 1 ≤ w → arrive w empty_lane r ≡ record { queue = entry r false ∷ []; records = [] }
one_comes w r h =
    let f : Bool → Lane = λ b. after_arrival empty_lane r (elim b [ true ↦ combine r [] | false ↦ None ]) in
    ap f (room w h)

two_combine : (w : ℕ) (r q : Request) → 1 ≤ w → (r.cell == q.cell) ≡ true
    → arrive_all w empty_lane (r ∷ q ∷ []) ≡ record { queue = entry (sent_for r q) true ∷ []; records = wait_record (entry r false) q ∷ [] }
two_combine w r q h e =
    let one : Lane = record { queue = entry r false ∷ []; records = [] } in
    let f : Bool → Lane = λ b. after_arrival one q (elim b [ true ↦ combine q one.queue | false ↦ None ]) in
    let g : Bool → Lane = λ b. after_arrival one q (elim b [ true ↦ Some record { queue = combined_entry (entry r false) q ∷ []; old = entry r false } | false ↦ None ]) in
    ap (λ l. arrive w l q) (one_comes w r h) ∙ (ap f (room w h) ∙ ap g e)

nothing_left : (o : Option Request) → ◌≡◌ {A = Lane} (record { queue = after_leaving o []; records = [] }) empty_lane
nothing_left None = refl
nothing_left (Some r) = refl

-- ---- the two ports of a switch
in_order : (b : Bool) (f : ℕ → List Request) (p q : ℕ) → ◌≡◌ {A = List Request} (elim b [ true ↦ f p ++ f q | false ↦ f q ++ f p ]) (f (elim b [ true ↦ p | false ↦ q ]) ++ f (elim b [ true ↦ q | false ↦ p ]))
in_order true f p q = refl
in_order false f p q = refl

either_port : (P : ℕ → Type 0) (b : Bool) (p q : ℕ) → P p → P q → P (elim b [ true ↦ p | false ↦ q ])
either_port P true p q h g = h
either_port P false p q h g = g

module _ (c : Settings) (range : AreInRange c) (a n : ℕ) (asked : ℕ → Request) where
  pub first_is_port : (s x : ℕ) → x < size c → IsPort c x (first_port c.stages n asked s x)
  first_is_port s x h =
      either_port (IsPort c x) ((n + s) % 2 == 0) (2 * (x / 2)) (2 * (x / 2) + 1)
      record { half = even_half (x / 2); small = (two_ports c range x h).0 }
      record { half = odd_half (x / 2); small = (two_ports c range x h).1 }

  pub second_is_port : (s x : ℕ) → x < size c → IsPort c x (second_port c.stages n asked s x)
  second_is_port s x h =
      either_port (IsPort c x) ((n + s) % 2 == 0) (2 * (x / 2) + 1) (2 * (x / 2))
      record { half = odd_half (x / 2); small = (two_ports c range x h).1 }
      record { half = even_half (x / 2); small = (two_ports c range x h).0 }

  pub leads_at : (s y : ℕ) → s < c.stages → y < size c → Leads c.stages s (module_of c a) y
  leads_at s y hs hy = lead c.stages s (module_of c a) y range.some_stages range.most_stages hs (module_small c range a) hy

  same_turn : (s x y : ℕ) → IsPort c x y → turned c a s y ≡ turned c a s x
  same_turn s x y p = ap (λ h. 2 * h + bit_of (last_stage c - s) (module_of c a)) p.half

  pub port_turns : (s x y : ℕ) → s < c.stages → x < size c → IsPort c x y → is_on c a (s + 1) x ≡ true → turned c a s y ≡ x
  port_turns s x y hs hx p e = same_turn s x y p ∙ (leads_at s x hs hx).turns e

  pub port_on : (s x y : ℕ) → s < c.stages → x < size c → IsPort c x y → is_on c a (s + 1) x ≡ true → is_on c a s (unshuffled c.stages y) ≡ true
  port_on s x y hs hx p e = (leads_at s y hs p.small).on ∙ (ap (λ z. is_on c a (s + 1) z) (port_turns s x y hs hx p e) ∙ e)

  port_off : (s x y : ℕ) → s < c.stages → x < size c → IsPort c x y → is_on c a (s + 1) x ≡ false → is_on c a s (unshuffled c.stages y) ≡ true → (turned c a s y == x) ≡ false
  port_off s x y hs hx p off on =
      ⊎_elim (λ e.
      let here : is_on c a (s + 1) (turned c a s y) ≡ true = sym (leads_at s y hs p.small).on ∙ on in
      let same : turned c a s y ≡ x = eqb-true (turned c a s y) x e in
      let there : is_on c a (s + 1) x ≡ true = subst (λ z. is_on c a (s + 1) z ≡ true) same here in
      absurd (cc))
      (λ e. e) (cases_Bool (turned c a s y == x))

  turned_small : (s y : ℕ) (r : Request) → y < size c → request_exit c s y r < size c
  turned_small s y r h = let two = (two_ports c range y h).1 in omega (arith, two)

  pub front_next : (s x : ℕ) → fronts c n asked (suc s) x ≡ sent_for (old_of c.stages n asked s x) (new_of c.stages n asked s x)
  unfolding front
  front_next s x = refl

  pub front_first : (x : ℕ) → fronts c n asked 0 x ≡ asked x
  unfolding front
  front_first x = refl

  module _ (m : Machine) (s : ℕ) (hs : s < c.stages) (empty : (x : ℕ) → x < size c → lane_at m s x ≡ empty_lane) where
    -- ---- who arrives
    all_admitted : (y : ℕ) (o : Option Request) → y < size c → admitted c m s y o ≡ o
    all_admitted y None h = refl
    all_admitted y (Some r) h =
        let f : Bool → Option Request = λ b. elim b [ true ↦ Some r | false ↦ None ] in
        let fits : has_request_room c m s (request_exit c s y r) ≡ true = ap (λ (l : Lane). nat_le (length l.queue + 2) c.request_places) (empty (request_exit c s y r) (turned_small s y r h)) ∙ two_room c.request_places range.some_request_places in
        ap f fits

    pub all_arrive : (y : ℕ) → y < size c → arriving_request c m s y ≡ request_before c m s y
    unfolding arriving_request
    all_arrive y h = all_admitted y (request_before c m s y) h

    module _ (come : (y : ℕ) → y < size c → request_before c m s y ≡ lines c a n asked s (unshuffled c.stages y)) (for_cell : (u : ℕ) → u < size c → (fronts c n asked s u).cell ≡ a) where
      hot_request_arrives : (y : ℕ) → y < size c → arriving_request c m s y ≡ lines c a n asked s (unshuffled c.stages y)
      hot_request_arrives y h = all_arrive y h ∙ come y h

      exit_is : (y : ℕ) → y < size c → request_exit c s y (fronts c n asked s (unshuffled c.stages y)) ≡ turned c a s y
      exit_is y h = ap (λ b. with_lowest y (bit_of (last_stage c - s) (b % size c))) (for_cell (unshuffled c.stages y) (turns_back c range y h).line_small)

      arrives_on : (x y : ℕ) → x < size c → IsPort c x y → is_on c a (s + 1) x ≡ true → arrivals_by c m s y x ≡ fronts c n asked s (unshuffled c.stages y) ∷ []
      arrives_on x y hx p e =
          let r = fronts c n asked s (unshuffled c.stages y) in
          let exit : request_exit c s y r ≡ x = exit_is y p.small ∙ port_turns s x y hs hx p e in
          let there : (request_exit c s y r == x) ≡ true = rw exit (itself x) in
          let f : Bool → Option Request = λ b. elim b [ true ↦ Some r | false ↦ None ] in
          let g : Bool → List Request = λ b. elim b [ true ↦ r ∷ [] | false ↦ [] ] in
          ap (λ o. requests_by c s y x o) (hot_request_arrives y p.small ∙ ap f (port_on s x y hs hx p e)) ∙ ap g there

      off_if : (x y : ℕ) (b : Bool) (r : Request) → (b ≡ true → (request_exit c s y r == x) ≡ false) → requests_by c s y x (elim b [ true ↦ Some r | false ↦ None ]) ≡ []
      off_if x y true r h =
          let f : Bool → List Request = λ b. elim b [ true ↦ r ∷ [] | false ↦ [] ] in
          ap f (h refl)
      off_if x y false r h = refl

      arrives_off : (x y : ℕ) → x < size c → IsPort c x y → is_on c a (s + 1) x ≡ false → arrivals_by c m s y x ≡ []
      arrives_off x y hx p e =
          ap (λ o. requests_by c s y x o) (hot_request_arrives y p.small) ∙ (off_if x y (is_on c a s (unshuffled c.stages y)) (fronts c n asked s (unshuffled c.stages y)) (λ on. ap (λ z. z == x) (exit_is y p.small) ∙ port_off s x y hs hx p e on))

      -- ---- what becomes of them
      arrivals_in_order : (x : ℕ) → m.cycles ≡ n + s → arrivals c m s x ≡ arrivals_by c m s (first_port c.stages n asked s x) x ++ arrivals_by c m s (second_port c.stages n asked s x) x
      arrivals_in_order x t =
          let zero = arrivals_by c m s (2 * (x / 2)) x in
          let one = arrivals_by c m s (2 * (x / 2) + 1) x in
          let f : ℕ → List Request = λ z. elim (z % 2 == 0) [ true ↦ zero ++ one | false ↦ one ++ zero ] in
          ap f t ∙ in_order ((n + s) % 2 == 0) (λ y. arrivals_by c m s y x) (2 * (x / 2)) (2 * (x / 2) + 1)

      lane_is_empty : (x : ℕ) → x < size c → lane_after_leaving c m s x ≡ empty_lane
      lane_is_empty x hx = ap (λ (l : Lane). record { queue = after_leaving (leaving_request c m s x) l.queue; records = l.records }) (empty x hx) ∙ nothing_left (leaving_request c m s x)

      met : (x : ℕ) → m.cycles ≡ n + s → x < size c → {rs qs : List Request} → arrivals_by c m s (first_port c.stages n asked s x) x ≡ rs → arrivals_by c m s (second_port c.stages n asked s x) x ≡ qs
          → next_lane c m s x ≡ arrive_all c.wait_places empty_lane (rs ++ qs)
      met x t hx {rs} {qs} p q =
          ap (λ l. arrive_all c.wait_places l (arrivals c m s x)) (lane_is_empty x hx)
          ∙ ap (λ us. arrive_all c.wait_places empty_lane us) (arrivals_in_order x t ∙ (ap (λ us. us ++ arrivals_by c m s (second_port c.stages n asked s x) x) p ∙ ap (λ us. rs ++ us) q))

      abbrev arrived : ℕ → Lane
      arrived x = hot_at c a n asked s x

      lane_if : 1 ≤ c.wait_places → m.cycles ≡ n + s → (x : ℕ) → x < size c → (is_on c a (s + 1) x ≡ true) → next_lane c m s x ≡ arrived x
      lane_if w t x hx e =
          let p = first_is_port s x hx in
          let q = second_is_port s x hx in
          let old = for_cell (unshuffled c.stages (first_port c.stages n asked s x)) (turns_back c range (first_port c.stages n asked s x) p.small).line_small in
          let new = for_cell (unshuffled c.stages (second_port c.stages n asked s x)) (turns_back c range (second_port c.stages n asked s x) q.small).line_small in
          let cells : ((old_of c.stages n asked s x).cell == (new_of c.stages n asked s x).cell) ≡ true = rw (old, new) (itself a) in
          let come = arrives_on x (first_port c.stages n asked s x) hx p e in
          let next = arrives_on x (second_port c.stages n asked s x) hx q e in
          let f : Request → Lane = λ r. record { queue = entry r true ∷ []; records = record_of c.stages n asked s x ∷ [] } in
          let g : Bool → Lane = λ b. elim b [ true ↦ f (fronts c n asked (suc s) x) | false ↦ empty_lane ] in
          met x t hx come next ∙ (two_combine c.wait_places (old_of c.stages n asked s x) (new_of c.stages n asked s x) w cells ∙ (ap f (sym (front_next s x)) ∙ sym (ap g e)))

      lane_if_not : m.cycles ≡ n + s → (x : ℕ) → x < size c → (is_on c a (s + 1) x ≡ false) → next_lane c m s x ≡ arrived x
      lane_if_not t x hx e =
          let p = first_is_port s x hx in
          let q = second_is_port s x hx in
          let g : Bool → Lane = λ b. elim b [ true ↦ record { queue = entry (fronts c n asked (suc s) x) true ∷ []; records = record_of c.stages n asked s x ∷ [] } | false ↦ empty_lane ] in
          met x t hx (arrives_off x (first_port c.stages n asked s x) hx p e) (arrives_off x (second_port c.stages n asked s x) hx q e) ∙ sym (ap g e)

      pub hot_requests_reach : 1 ≤ c.wait_places → m.cycles ≡ n + s → (x : ℕ) → x < size c → next_lane c m s x ≡ arrived x
      hot_requests_reach w t x hx = ⊎_elim (λ e. lane_if w t x hx e) (λ e. lane_if_not t x hx e) (cases_Bool (is_on c a (s + 1) x))
