-- the requests that are served or combine in a cycle are kept, and each is named once
use Rattle.std.proofs.Common.{◌≡◌, ℕ, ◌<◌, ◌≤◌, List, [], ◌∷◌, false, refl, arith, subst}
use Rattle.std.specs.Prelude.{Option, Some, None, IsSome, IfSome, ◌==◌, not}
use Rattle.std.specs.List.{AllByRecursion}
use Rattle.std.proofs.lemmas.Bool.{eqb-true}
use Rattle.ultra_msg.specs.declared.{Request.Request, ReplyMessage.ReplyMessage, Event.{Event, TheVariants.{Delivered, Served, Combined, Issued}}}
use Rattle.ultra_switch.specs.declared.QueueEntry.{QueueEntry}
use Rattle.ultra_switch.specs.Arrive.{Lane, Combination, entry, combine_within, after_arrival, arrive}
use Rattle.ultra_mem.specs.{declared.Placed.Placed, Serve.{to_serve, act_of, served}}
use Rattle.ultra_isa.specs.declared.Instr.{Instr}
use Rattle.ultra_model.specs.{Places.{places, table, joined}, Machine.{Settings, Machine, size, lane_at, module_at}, Ranges.AreInRange, Routed.{IsByLine, IsEntryAt, IsPlacedAt}}
use Rattle.ultra_model.specs.Phases.{serving, combination, combinations, lane_after_leaving, leaving_request, arrivals}
use Rattle.ultra_model.proofs.Each.{each-append, each-weaker, each-places, each-present, each-joined, each-after_leaving}
use Rattle.ultra_model.proofs.{Counting.{is_reference, both_true}, Routes.arrivals_well}
use Rattle.ultra_serial_law.specs.{Tree.{Tree, tree_of}, Legal.given, SerialList.History, Explicable.IsOfMachine}
use Rattle.ultra_serial_law.proofs.{Forest.built, Standing.once, Explained.{bound, IsKept, IsKeptAt}, ReplyForest.each_and, Mentions.mentions, LaneForest.{Combines, within_each}, MemoryForest.{all_taken, inputs_within}, RequestForest.{all_parts, lanes_once, arrivals_kept}, Absorbing.{IsReady, IsFit}, SmallTrees.built_of_machine, Law.{IsSerial, list_of, servings, meetings}}

-- ---- those that combine in a lane
module _ (Q : ℕ → ℕ → Type 0) where
  abbrev AtEntry : QueueEntry → Type 0
  AtEntry e = Q e.request.pe e.request.cell

  abbrev AtRequest : Request → Type 0
  AtRequest r = Q r.pe r.cell

  abbrev pub Meets : Event → Type 0
  Meets (Delivered r) = ⊥
  Meets (Served k r reply now) = ⊥
  Meets (Combined s x a p q f) = Q p a × Q q a
  Meets (Issued r i) = ⊥

  met : (s x : ℕ) (r : Request) (o : Option Combination) → Combines AtEntry AtEntry r o → AtRequest r → AllByRecursion Meets (combination s x r o)
  met s x r None h k = tt
  met s x r (Some v) h k =
      let parts = both_true (not v.old.combined) (v.old.request.cell == r.cell) h.1 in
      ((subst (λ a. Q v.old.request.pe a) (eqb-true v.old.request.cell r.cell parts.1) h.0, k), tt)

  met_later : (l : Lane) (r : Request) (o : Option Combination) → AllByRecursion AtEntry l.queue → Combines AtEntry AtEntry r o → AtRequest r → AllByRecursion AtEntry (after_arrival l r o).queue
  met_later l r None h g k = each-append AtEntry l.queue (entry r false ∷ []) h (k, tt)
  met_later l r (Some v) h g k = g.2 g.0

  pub lane_meets : (w s x : ℕ) (l : Lane) (rs : List Request) → AllByRecursion AtEntry l.queue → AllByRecursion AtRequest rs → AllByRecursion Meets (combinations w s x l rs)
  lane_meets w s x l [] h k = tt
  lane_meets w s x l (r ∷ rs) h k =
      let o = combine_within w l r in
      let g = within_each AtEntry AtEntry w l r (λ e z. z) h in
      each-append Meets (combination s x r o) (combinations w s x (arrive w l r) rs) (met s x r o g k.0) (lane_meets w s x (arrive w l r) rs (met_later l r o h g k.0) k.1)

-- ---- a tree that is known
some_tree : (o : Option Tree) (t : Tree) → o ≡ Some t → IsSome o
some_tree None t e = absurd cc
some_tree (Some u) t e = refl

tree_is : (P : Tree → Type 0) (o : Option Tree) (t : Tree) → o ≡ Some t → P t → IfSome o P
tree_is P None t e h = tt
tree_is P (Some u) t e h = let same : t ≡ u = cc in subst P same h

input_of : (i : Option Placed) (o : Option ReplyMessage) (p : Placed) → elim o [ None ↦ i | Some r ↦ None ] ≡ Some p → i ≡ Some p
input_of i None p e = e
input_of i (Some r) p e = absurd cc

known : (P : Placed → Type 0) (i : Option Placed) (p : Placed) → IfSome i P → i ≡ Some p → P p
known P None p h e = absurd cc
known P (Some q) p h e = let same : q ≡ p = cc in subst P same h

module _ (c : Settings) (range : AreInRange c) (program : List Instr) (n : ℕ) (m : Machine) (h : History) (w : IsSerial c n m h) where
  -- ---- servings
  abbrev acts : List Event
  acts = servings c range program n m

  served_once : (p a : ℕ) → p < size c → mentions (is_reference p a) acts ≤ 1
  served_once p a hp =
      let t = is_reference p a in
      let taken = all_taken c range m w.sound.shape w.sound.routes w.sound.balance h.log.issues h.trees (given c.initial) h (list_of c h) w.forest t in
      let within = inputs_within c range m w.sound.shape w.sound.routes w.sound.balance h.log.issues h.trees (given c.initial) h (list_of c h) w.forest t in
      omega (arith, taken, within, once c range m w.sound.balance p a hp)

  serving_fits : (k : ℕ) → k < size c → (o : Option Placed) → to_serve (module_at m k) ≡ o → IfSome (serving k (act_of (module_at m k) o)) (IsFit (IsOfMachine c) h.trees acts)
  serving_fits k hk None e = tt
  serving_fits k hk (Some p) e =
      let inp = input_of (module_at m k).inp (module_at m k).out p e in
      let placed = known (IsPlacedAt c k) (module_at m k).inp p (w.sound.routes.inputs k hk) inp in
      let kept = known (λ (q : Placed). IsKeptAt c m h.log.issues h.trees c.stages q.request) (module_at m k).inp p (w.forest.inputs k hk) inp in
      let r = p.request in
      let t = built c m h.log.issues c.stages r.pe r.cell in (
        record { tree = some_tree (tree_of r.pe r.cell h.trees) t kept.tree; once = served_once r.pe r.cell placed.0.reference.element },
        tree_is (IsOfMachine c) (tree_of r.pe r.cell h.trees) t kept.tree (built_of_machine c m n h w.recorded r.pe r.cell kept.tree),
      )

  pub servings_fit : AllByRecursion (IsFit (IsOfMachine c) h.trees acts) acts
  servings_fit =
      each-present (IsFit (IsOfMachine c) h.trees acts) (places (size c) (λ k. serving k (served (module_at m k))))
      (each-places (λ o. IfSome o (IsFit (IsOfMachine c) h.trees acts)) (size c) (λ k. serving k (served (module_at m k))) (λ k hk. serving_fits k hk (to_serve (module_at m k)) refl))

  -- ---- combinations
  abbrev meets : List Event
  meets = meetings c range program n m

  met_once : (p a : ℕ) → p < size c → mentions (is_reference p a) meets ≤ 1
  met_once p a hp =
      omega (arith, all_parts c range m w.sound.routes w.sound.balance w.tidy (is_reference p a), lanes_once c range m w.sound.routes w.sound.balance w.tidy p a hp)

  abbrev Ready : ℕ → ℕ → Type 0
  Ready p a = IsReady (IsOfMachine c) h.trees meets p a

  ready : (b p a : ℕ) (r : Request) → p < size c → IsKept c m h.log.issues h.trees b p a r → Ready p a
  ready b p a r hp k = record { tree = some_tree (tree_of p a h.trees) (built c m h.log.issues b p a) k.tree; once = met_once p a hp }

  entries_ready : (s x : ℕ) → s < c.stages → x < size c → AllByRecursion (λ (e : QueueEntry). Ready e.request.pe e.request.cell) (lane_after_leaving c m s x).queue
  entries_ready s x hs hx =
      each-after_leaving (λ (e : QueueEntry). Ready e.request.pe e.request.cell) (leaving_request c m s x) (lane_at m s x).queue
      (each-weaker (λ (e : QueueEntry). IsEntryAt c s x e × IsKeptAt c m h.log.issues h.trees (bound s e.combined) e.request) (λ (e : QueueEntry). Ready e.request.pe e.request.cell) (lane_at m s x).queue
      (λ e g. ready (bound s e.combined) e.request.pe e.request.cell e.request g.0.reference.element g.1)
      (each_and (IsEntryAt c s x) (λ (e : QueueEntry). IsKeptAt c m h.log.issues h.trees (bound s e.combined) e.request) (lane_at m s x).queue (w.sound.routes.requests s x hs hx) (w.forest.queued s x hs hx)))

  arrivals_ready : (s x : ℕ) → s < c.stages → x < size c → AllByRecursion (λ (r : Request). Ready r.pe r.cell) (arrivals c m s x)
  arrivals_ready s x hs hx =
      each-weaker (λ (r : Request). IsByLine c s x r.pe r.cell × IsKeptAt c m h.log.issues h.trees s r) (λ (r : Request). Ready r.pe r.cell) (arrivals c m s x)
      (λ r g. ready s r.pe r.cell r g.0.reference.element g.1)
      (each_and (λ (r : Request). IsByLine c s x r.pe r.cell) (IsKeptAt c m h.log.issues h.trees s) (arrivals c m s x)
      (arrivals_well c range m w.sound.routes s x hs hx)
      (arrivals_kept c range m w.sound.routes w.sound.balance w.tidy h.log.issues h.trees (list_of c h) w.forest s x hs hx))

  meets_fit : (e : Event) → Meets Ready e → IsFit (IsOfMachine c) h.trees meets e
  meets_fit (Delivered r) g = tt
  meets_fit (Served k r reply now) g = absurd g
  meets_fit (Combined s x a p q f) g = g
  meets_fit (Issued r i) g = absurd g

  pub meetings_fit : AllByRecursion (IsFit (IsOfMachine c) h.trees meets) meets
  meetings_fit =
      let at : ℕ → ℕ → List Event = λ s x. combinations c.wait_places s x (lane_after_leaving c m s x) (arrivals c m s x) in
      each-weaker (Meets Ready) (IsFit (IsOfMachine c) h.trees meets) meets (λ e g. meets_fit e g)
      (each-joined (Meets Ready) (joined (table c.stages (size c) at))
      (each-joined (λ es. AllByRecursion (Meets Ready) es) (table c.stages (size c) at)
      (each-places (λ row. AllByRecursion (λ es. AllByRecursion (Meets Ready) es) row) c.stages (λ s. places (size c) (λ x. at s x))
      (λ s hs. each-places (λ es. AllByRecursion (Meets Ready) es) (size c) (λ x. at s x)
      (λ x hx. lane_meets Ready c.wait_places s x (lane_after_leaving c m s x) (arrivals c m s x) (entries_ready s x hs hx) (arrivals_ready s x hs hx))))))
