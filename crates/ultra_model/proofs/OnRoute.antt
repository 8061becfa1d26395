-- what arrives in a lane, and what a reply becomes there, keeps to what holds of each reference there
use Rattle.std.proofs.Common.{◌≡◌, ℕ, List, [], ◌∷◌, Bool, true, false, refl, subst, sym, length, cond}
use Rattle.std.specs.Prelude.{Option, Some, None, IfSome, ◌==◌, not, nat_lt}
use Rattle.std.specs.List.{filter, AllByRecursion}
use Rattle.std.proofs.lemmas.Bool.{eqb-true}
use Rattle.ultra_msg.specs.declared.{Request.Request, ReplyMessage.ReplyMessage}
use Rattle.ultra_switch.specs.{declared.{QueueEntry.QueueEntry, WaitRecord.WaitRecord}, Split.{is_of, records_after, replies_of, old_reply, new_reply}, Queues.request_of}
use Rattle.ultra_switch.specs.Arrive.{Lane, Combination, entry, behind, can_combine, wait_record, combine, combine_within, combined_entry, after_arrival, arrive}
use Rattle.ultra_pni.specs.{declared.OpenCell.OpenCell, Interface.closed}
use Rattle.ultra_model.specs.Phases.{records_left, replies_made, arrive_all}
use Rattle.ultra_model.proofs.{Each.{each-append, if_tested}, Counting.both_true}

-- what a filter keeps passed its test
kept_if : {X : Type 0} (P : X → Type 0) (x : X) (xs : List X) (b : Bool) → (b ≡ true → P x) → AllByRecursion P xs → AllByRecursion P (cond b (x ∷ xs) xs)
kept_if P x xs true f h = (f refl, h)
kept_if P x xs false f h = h

pub each-filter : {X : Type 0} (P Q : X → Type 0) (t : X → Bool) (xs : List X) → ((x : X) → P x → t x ≡ true → Q x) → AllByRecursion P xs → AllByRecursion Q (filter t xs)
each-filter P Q t [] f h = tt
each-filter P Q t (x ∷ xs) f h = kept_if Q x (filter t xs) (t x) (f x h.0) (each-filter P Q t xs f h.1)

pub each-closed : (P : OpenCell → Type 0) (a : ℕ) (os : List OpenCell) → AllByRecursion P os → AllByRecursion P (closed a os)
each-closed P a [] h = tt
each-closed P a (o ∷ os) h = if_tested (o.cell == a) (λ xs. AllByRecursion P xs) os (o ∷ closed a os) (λ z. h.1) (λ z. (h.0, each-closed P a os h.1))

pub some-request : (P : Request → Type 0) (o : Option QueueEntry) → IfSome o (λ e. P e.request) → IfSome (request_of o) P
some-request P None h = tt
some-request P (Some e) h = h

module _ (Q : ℕ → ℕ → Type 0) where
  abbrev pub Entries : List QueueEntry → Type 0
  Entries es = AllByRecursion (λ (e : QueueEntry). Q e.request.pe e.request.cell) es

  abbrev pub Records : List WaitRecord → Type 0
  Records ws = AllByRecursion (λ (w : WaitRecord). Q w.pe w.cell × Q w.partner w.cell) ws

  abbrev pub Requests : List Request → Type 0
  Requests rs = AllByRecursion (λ (r : Request). Q r.pe r.cell) rs

  abbrev pub Replies : List ReplyMessage → Type 0
  Replies rs = AllByRecursion (λ (r : ReplyMessage). Q r.pe r.cell) rs

  -- ---- an arrival
  abbrev CombinesWell : Request → Option Combination → Type 0
  CombinesWell r o = IfSome o (λ c. Entries c.queue × Q c.old.request.pe c.old.request.cell × (c.old.request.cell ≡ r.cell))

  behind_well : (e : QueueEntry) (r : Request) (o : Option Combination) → Q e.request.pe e.request.cell → CombinesWell r o → CombinesWell r (behind e o)
  behind_well e r None q h = tt
  behind_well e r (Some c) q h = ((q, h.0), h.1, h.2)

  combine_well : (r : Request) (es : List QueueEntry) → Entries es → CombinesWell r (combine r es)
  combine_well r [] h = tt
  combine_well r (e ∷ es) h =
      if_tested (can_combine r e) (λ o. CombinesWell r o) (Some record { queue = combined_entry e r ∷ es; old = e }) (behind e (combine r es))
      (λ z. (h, h.0, eqb-true e.request.cell r.cell (both_true (not e.combined) (e.request.cell == r.cell) z).1))
      (λ z. behind_well e r (combine r es) h.0 (combine_well r es h.1))

  within_well : (w : ℕ) (l : Lane) (r : Request) → Entries l.queue → CombinesWell r (combine_within w l r)
  within_well w l r h = if_tested (nat_lt (length l.records) w) (λ o. CombinesWell r o) (combine r l.queue) None (λ z. combine_well r l.queue h) (λ z. tt)

  arrived_well : (l : Lane) (r : Request) (o : Option Combination) → Entries l.queue → Records l.records → Q r.pe r.cell → CombinesWell r o → Entries (after_arrival l r o).queue × Records (after_arrival l r o).records
  arrived_well l r None h g q k = (each-append (λ (e : QueueEntry). Q e.request.pe e.request.cell) l.queue (entry r false ∷ []) h (q, tt), g)
  arrived_well l r (Some c) h g q k =
      let partner : Q r.pe c.old.request.cell = subst (λ a. Q r.pe a) (sym k.2) q in
      (k.0, each-append (λ (w : WaitRecord). Q w.pe w.cell × Q w.partner w.cell) l.records (wait_record c.old r ∷ []) g ((k.1, partner), tt))

  pub arrive_all_well : (w : ℕ) (l : Lane) (rs : List Request) → Entries l.queue → Records l.records → Requests rs → Entries (arrive_all w l rs).queue × Records (arrive_all w l rs).records
  arrive_all_well w l [] h g q = (h, g)
  arrive_all_well w l (r ∷ rs) h g q =
      let one = arrived_well l r (combine_within w l r) h g q.0 (within_well w l r h) in
      arrive_all_well w (arrive w l r) rs one.0 one.1 q.1

  -- ---- a split
  records_after_well : (m : ReplyMessage) (ws : List WaitRecord) → Records ws → Records (records_after m ws)
  records_after_well m [] h = tt
  records_after_well m (w ∷ ws) h = if_tested (is_of m w) (λ us. Records us) ws (w ∷ records_after m ws) (λ z. h.1) (λ z. (h.0, records_after_well m ws h.1))

  pub records_left_well : (ws : List WaitRecord) (o : Option ReplyMessage) → Records ws → Records (records_left ws o)
  records_left_well ws None h = h
  records_left_well ws (Some m) h = records_after_well m ws h

  replies_of_well : (m : ReplyMessage) (ws : List WaitRecord) → Records ws → Q m.pe m.cell → Replies (replies_of m ws)
  replies_of_well m [] h q = (q, tt)
  replies_of_well m (w ∷ ws) h q =
      if_tested (is_of m w) (λ rs. Replies rs) (old_reply m w ∷ new_reply m w ∷ []) (replies_of m ws)
      (λ z. let same : w.cell ≡ m.cell = eqb-true w.cell m.cell (both_true (w.pe == m.pe) (w.cell == m.cell) z).1 in
      (q, (subst (λ a. Q w.partner a) same h.0.1, tt)))
      (λ z. replies_of_well m ws h.1 q)

  pub replies_made_well : (ws : List WaitRecord) (o : Option ReplyMessage) → Records ws → IfSome o (λ m. Q m.pe m.cell) → Replies (replies_made ws o)
  replies_made_well ws None h q = tt
  replies_made_well ws (Some m) h q = replies_of_well m ws h q
