-- the reply phase takes the hot replies back by a stage, where each is split in two
use Rattle.std.proofs.Common.{◌≡◌, ◌≢◌, ℕ, suc, ◌+◌, ◌-◌, ◌*◌, ◌/◌, ◌%◌, ◌<◌, ◌≤◌, ◌⊎◌, inl, inr, List, [], ◌∷◌, ◌++◌, Bool, true, false, refl, arith, sym, subst, ◌∙◌, ap, ⊎_elim}
use Rattle.std.specs.Prelude.{Option, Some, None, ◌==◌, ◌&&◌, nat_le, length}
use Rattle.std.specs.List.{filter}
use Rattle.std.proofs.lemmas.{List.append-nil, Bool.{cases_Bool, cases_lt, Decides.nat_tests}}
use Rattle.ultra_msg.specs.declared.{Request.Request, Reply.Reply, ReplyMessage.ReplyMessage}
use Rattle.ultra_route.specs.Route.{unshuffled, bit_of}
use Rattle.ultra_switch.specs.{declared.WaitRecord.WaitRecord, Split.{is_of, replies_of, old_reply, new_reply}}
use Rattle.ultra_model.specs.{Places.after_leaving, Ranges.AreInRange, Routed.module_of}
use Rattle.ultra_model.specs.Machine.{Settings, Machine, size, last_stage, lane_at, replies_at, reply_exit}
use Rattle.ultra_model.specs.Phases.{has_reply_room, reply_before, arriving_reply, replies_made, leaving_reply, replies_at_exit, next_replies}
use Rattle.ultra_model.proofs.{Neighbours.{itself, other, even_half, odd_half}, Routes.two_ports}
use Rattle.ultra_serial_law.specs.HotCell.{first_port, second_port, old_of, record_of}
use Rattle.ultra_serial_law.proofs.{Meeting.leads_at, Fronts.{front_cell, old_goes, new_goes, front_is_old, old_small}, Quiet.{none_left, none_goes_by}}
use Rattle.ultra_serial_law.proofs.Stages.{turned, is_on, IsAsked, fronts, left_behind, AreComing}

four_room : (r : ℕ) → 4 ≤ r → nat_le (0 + 4) r ≡ true
four_room r h = grind (arith, nat_tests)

both : (a b : Bool) → a ≡ true → b ≡ true → (a && b) ≡ true
both true true h g = refl
both true false h g = absurd cc
both false b h g = absurd cc

-- of two replies the first passes a test, and the second does not
first_passes : {X : Type 0} (t : X → Bool) (x y : X) → t x ≡ true → t y ≡ false → filter t (x ∷ y ∷ []) ≡ x ∷ []
first_passes t x y h g = rw (h, g) refl

second_passes : {X : Type 0} (t : X → Bool) (x y : X) → t x ≡ false → t y ≡ true → filter t (x ∷ y ∷ []) ≡ y ∷ []
second_passes t x y h g = rw (h, g) refl

-- a port of a switch is its first or its second, and these differ
pub one_of_ports : (b : Bool) (h y : ℕ) → y / 2 ≡ h → (y ≡ elim b [ true ↦ 2 * h | false ↦ 2 * h + 1 ]) ⊎ (y ≡ elim b [ true ↦ 2 * h + 1 | false ↦ 2 * h ])
one_of_ports true h y e = ⊎_elim (λ l. inl (omega arith)) (λ l. inr (omega arith)) (cases_lt (y % 2) 1)
one_of_ports false h y e = ⊎_elim (λ l. inr (omega arith)) (λ l. inl (omega arith)) (cases_lt (y % 2) 1)

ports_differ : (b : Bool) (h : ℕ) → elim b as (λ z. ℕ) [ true ↦ 2 * h | false ↦ 2 * h + 1 ] ≢ elim b [ true ↦ 2 * h + 1 | false ↦ 2 * h ]
ports_differ true h = omega arith
ports_differ false h = omega arith

module _ (c : Settings) (range : AreInRange c) (a n : ℕ) (asked : ℕ → Request) (each : IsAsked c a asked) (some_waits : 1 ≤ c.wait_places) (m : Machine) (s : ℕ) (hs : s < c.stages) where
  module _ (w : AreComing c a n asked s m) where
    -- ---- one that arrives
    has_room : (x : ℕ) → x < size c → has_reply_room c m s (x / 2) ≡ true
    has_room x hx =
        let ports = two_ports c range x hx in
        let fits = four_room c.reply_places range.some_reply_places in
        both (nat_le (length (replies_at m s (2 * (x / 2))) + 4) c.reply_places) (nat_le (length (replies_at m s (2 * (x / 2) + 1)) + 4) c.reply_places)
        (ap (λ (rs : List ReplyMessage). nat_le (length rs + 4) c.reply_places) (w.room (2 * (x / 2)) ports.0) ∙ fits)
        (ap (λ (rs : List ReplyMessage). nat_le (length rs + 4) c.reply_places) (w.room (2 * (x / 2) + 1) ports.1) ∙ fits)

    arrives : (x : ℕ) → x < size c → arriving_reply c m s x ≡ reply_before c m s x
    unfolding arriving_reply
    arrives x hx =
        let f : Bool → Option ReplyMessage = λ b. elim b [ true ↦ reply_before c m s x | false ↦ None ] in
        ap f (has_room x hx)

    nothing_by : (x y : ℕ) → x < size c → is_on c a (s + 1) x ≡ false → replies_at_exit c m s x y ≡ []
    nothing_by x y hx off = none_goes_by c range m s x y ((w.come x hx).off off)

    -- ---- it is split
    module _ (x : ℕ) (hx : x < size c) (here : is_on c a (s + 1) x ≡ true) where
      abbrev kept : WaitRecord
      kept = record_of c.stages n asked s x

      next : s + 1 ≡ suc s
      next = omega arith

      -- the reply that comes, and its value
      value : Reply
      value = ((w.come x hx).on here).0

      abbrev message : ReplyMessage
      message = record { pe = (fronts c n asked (suc s) x).pe; cell = a; reply = value }

      came : reply_before c m s x ≡ Some message
      unfolding value
      came = ((w.come x hx).on here).1 ∙ ap (λ j. Some record { pe = (fronts c n asked j x).pe; cell = a; reply = value }) next

      -- it has the identity of the hot record, which is the first there
      its_record : is_of message kept ≡ true
      its_record =
          both (kept.pe == message.pe) (kept.cell == a)
          (rw (front_is_old c range a n asked each s x) (itself (old_of c.stages n asked s x).pe))
          (rw (front_cell c range a n asked each s (unshuffled c.stages (first_port c.stages n asked s x)) (old_small c range a n asked each s x hx)) (itself a))

      records_are : (rest : List WaitRecord) → (lane_at m s x).records ≡ left_behind c a n asked s x ++ rest → (lane_at m s x).records ≡ kept ∷ rest
      records_are rest e =
          let f : Bool → List WaitRecord = λ b. elim b [ true ↦ kept ∷ [] | false ↦ [] ] in
          e ∙ ap (λ ws. ws ++ rest) (ap f here)

      split_in_two : (ws rest : List WaitRecord) → ws ≡ kept ∷ rest → replies_of message ws ≡ old_reply message kept ∷ new_reply message kept ∷ []
      split_in_two ws rest e =
          let f : Bool → List ReplyMessage = λ b. elim b [ true ↦ old_reply message kept ∷ new_reply message kept ∷ [] | false ↦ replies_of message rest ] in
          ap (λ us. replies_of message us) e ∙ ap f its_record

      made : replies_made (lane_at m s x).records (arriving_reply c m s x) ≡ old_reply message kept ∷ new_reply message kept ∷ []
      made =
          let k = w.records x hx in
          ap (λ o. replies_made (lane_at m s x).records o) (arrives x hx ∙ came) ∙ split_in_two (lane_at m s x).records k.rest (records_are k.rest k.split)

      abbrev exit : ReplyMessage → ℕ
      exit r = reply_exit c s x r

      old_exit : exit (old_reply message kept) ≡ first_port c.stages n asked s x
      old_exit = ap (λ p. exit record { pe = p; cell = a; reply = value }) (front_is_old c range a n asked each s x) ∙ (old_goes c range a n asked each s x hs hx here).back

      new_exit : exit (new_reply message kept) ≡ second_port c.stages n asked s x
      new_exit = (new_goes c range a n asked each s x hs hx here).back

      differ : first_port c.stages n asked s x ≢ second_port c.stages n asked s x
      differ = ports_differ ((n + s) % 2 == 0) (x / 2)

      by_first : replies_at_exit c m s x (first_port c.stages n asked s x) ≡ old_reply message kept ∷ []
      by_first =
          let y = first_port c.stages n asked s x in
          let yes : (exit (old_reply message kept) == y) ≡ true = rw old_exit (itself y) in
          let no : (exit (new_reply message kept) == y) ≡ false = rw new_exit (other (second_port c.stages n asked s x) y (λ e. differ (sym e))) in
          ap (λ rs. filter (λ (r : ReplyMessage). exit r == y) rs) made ∙ first_passes (λ (r : ReplyMessage). exit r == y) (old_reply message kept) (new_reply message kept) yes no

      by_second : replies_at_exit c m s x (second_port c.stages n asked s x) ≡ new_reply message kept ∷ []
      by_second =
          let y = second_port c.stages n asked s x in
          let no : (exit (old_reply message kept) == y) ≡ false = rw old_exit (other (first_port c.stages n asked s x) y differ) in
          let yes : (exit (new_reply message kept) == y) ≡ true = rw new_exit (itself y) in
          ap (λ rs. filter (λ (r : ReplyMessage). exit r == y) rs) made ∙ second_passes (λ (r : ReplyMessage). exit r == y) (old_reply message kept) (new_reply message kept) no yes

      -- by each port goes one reply, to the hot request on the line of that port
      abbrev OneBy : ℕ → Type 0
      OneBy y = (v : Reply) × (replies_at_exit c m s x y ≡ record { pe = (fronts c n asked s (unshuffled c.stages y)).pe; cell = a; reply = v } ∷ [])

      one_by_first : OneBy (first_port c.stages n asked s x)
      one_by_first =
          let r = old_reply message kept in
          (r.reply, by_first ∙ ap (λ p. record { pe = p; cell = a; reply = r.reply } ∷ []) (front_is_old c range a n asked each s x))

      one_by_second : OneBy (second_port c.stages n asked s x)
      one_by_second = ((new_reply message kept).reply, by_second)

      one_by : (y : ℕ) → y / 2 ≡ x / 2 → OneBy y
      one_by y e =
          ⊎_elim (λ z. subst OneBy (sym z) one_by_first) (λ z. subst OneBy (sym z) one_by_second)
          (one_of_ports ((n + s) % 2 == 0) (x / 2) y e)

    -- ---- the queue at a position
    module _ (y : ℕ) (hy : y < size c) where
      -- the memory-side position by which the hot requests came from there
      abbrev source : ℕ
      source = turned c a s y

      abbrev zero_port : ℕ
      zero_port = 2 * (y / 2)

      abbrev one_port : ℕ
      one_port = 2 * (y / 2) + 1

      on_source : is_on c a s (unshuffled c.stages y) ≡ is_on c a (s + 1) source
      on_source = (leads_at c range a n asked s y hs hy).on

      -- a port that leads on is the source
      is_source : (p : ℕ) → p < size c → p / 2 ≡ y / 2 → is_on c a (s + 1) p ≡ true → p ≡ source
      is_source p hp e h =
          sym ((leads_at c range a n asked s p hs hp).turns h) ∙ ap (λ z. 2 * z + bit_of (last_stage c - s) (module_of c a)) e

      apart : (p : ℕ) → p < size c → p / 2 ≡ y / 2 → p ≢ source → replies_at_exit c m s p y ≡ []
      apart p hp e h = ⊎_elim (λ z. absurd (h (is_source p hp e z))) (λ z. nothing_by p y hp z) (cases_Bool (is_on c a (s + 1) p))

      source_port : (source ≡ zero_port) ⊎ (source ≡ one_port)
      source_port = ⊎_elim (λ l. inl (omega arith)) (λ l. inr (omega arith)) (cases_lt (bit_of (last_stage c - s) (module_of c a)) 1)

      source_half : source / 2 ≡ y / 2
      source_half = omega arith

      ports : (zero_port < size c) × (one_port < size c)
      ports = two_ports c range y hy

      source_small : source < size c
      source_small = ⊎_elim (λ e. rw e ports.0) (λ e. rw e ports.1) source_port

      from_source : next_replies c m s y ≡ replies_at_exit c m s source y
      from_source =
          let left = ap (λ rs. (rs ++ replies_at_exit c m s zero_port y) ++ replies_at_exit c m s one_port y) (ap (λ rs. after_leaving (leaving_reply c m s y) rs) (w.room y hy) ∙ none_left {X = ReplyMessage} (leaving_reply c m s y)) in
          left ∙ ⊎_elim
          (λ e. let none = apart one_port ports.1 (odd_half (y / 2)) (λ z. omega (arith, e, z)) in
          rw none (append-nil (replies_at_exit c m s zero_port y) ∙ ap (λ p. replies_at_exit c m s p y) (sym e)))
          (λ e. let none = apart zero_port ports.0 (even_half (y / 2)) (λ z. omega (arith, e, z)) in
          rw none (ap (λ p. replies_at_exit c m s p y) (sym e))) source_port

      pub one_reply : is_on c a s (unshuffled c.stages y) ≡ true → (v : Reply) × (next_replies c m s y ≡ record { pe = (fronts c n asked s (unshuffled c.stages y)).pe; cell = a; reply = v } ∷ [])
      one_reply h =
          let one = one_by source source_small (sym on_source ∙ h) y (sym source_half) in
          (one.0, from_source ∙ one.1)

      pub no_reply : is_on c a s (unshuffled c.stages y) ≡ false → next_replies c m s y ≡ []
      no_reply h = from_source ∙ nothing_by source y source_small (sym on_source ∙ h)
