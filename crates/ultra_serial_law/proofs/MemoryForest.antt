-- the memory phase: the leaves of each request that is served go to the end of the serial list, and its reply answers them
use Rattle.std.proofs.Common.{◌≡◌, ◌≢◌, ℕ, zero, suc, ◌+◌, ◌*◌, ◌/◌, ◌%◌, ◌<◌, ◌≤◌, List, [], ◌∷◌, ◌++◌, Bool, true, false, refl, arith, sym, ◌∙◌, ap, subst, ⊎_elim, length, map, append_assoc}
use Rattle.std.specs.Prelude.{Option, Some, None, IfSome, slice_index, slice_set, ◌==◌, ◌&&◌}
use Rattle.std.specs.List.{AllByRecursion, range_with_len}
use Rattle.std.proofs.lemmas.{Bool.{cases_lt, cases_eq}, Nat.pow_pos, List.{get_or-set_same, get_or-set_other, append-nil}}
use Rattle.ultra_msg.specs.{declared.{Reply.Reply, Request.Request, ReplyMessage.ReplyMessage, Event.{Event, TheVariants.Served}}, Act.act}
use Rattle.ultra_switch.specs.declared.{QueueEntry.QueueEntry, WaitRecord.WaitRecord}
use Rattle.ultra_mem.specs.declared.Placed.{Placed}
use Rattle.ultra_mem.specs.Serve.{ModuleState, serve, served, to_serve, act_of, after_serving, value_at}
use Rattle.ultra_model.specs.{Places.{places, present}, Phases.{serving, memory_phase}, Ranges.AreInRange, Trace.cell_value, Shape.HasShape, Routed.{module_of, IsPlacedAt, IsEntryAt, IsOwn, IsRouted}}
use Rattle.ultra_model.specs.Machine.{Settings, Machine, size, lane_at, replies_at, module_at, element_at}
use Rattle.ultra_model.specs.Balance.{count_option, total, passes, entry_passes, lane_on_way, module_on_way, pending_on_way, on_way, IsBalanced}
use Rattle.ultra_model.proofs.{Each.{each-weaker, some-weaker}, Sums.{total_same, total_plus, total_term, table_term}, Counting.is_reference, Neighbours.other, Routes.{module_small, placed_within}, AtPlaces.memory_module-memory_phase}
use Rattle.ultra_serial_law.specs.{Tree.{Tree, Kept, tree_of, leaves, leaves_of}, Log.LoggedIssue, Legal.{Entry as Done, Cells, cells_after, replayed}, SerialList.{History, noted, after_event}}
use Rattle.ultra_serial_law.proofs.{Series.{sent, value_after, IsSeries, in_series}, Tidy.{that_is, total_most}, Standing.{each_in, some_in, once}, ReplyForest.{each_and, some_and}}
use Rattle.ultra_serial_law.proofs.Forest.{built, built_leaf, built_next, built_proper, grown, position_of, record_at}
use Rattle.ultra_serial_law.proofs.Explained.{IsExplained, explained_more, bound, IsKeptAt, IsAnswered, IsGiven, IsForest}
use Rattle.ultra_serial_law.proofs.Mentions.{mentions, mention_some, present_mentions, sum-places, noted_trees, unmentioned, without_other}
use Rattle.ultra_serial_law.proofs.Replays.{AreFor, cells-append, replayed-append, explained_right, cell_after, cell_kept, built_is_for, for_leaves, replay_explains}

-- the history after an event, if there is one
abbrev pub after_some : ℕ → Option Event → History → History
after_some n None h = h
after_some n (Some e) h = after_event n h e

pub noted_present : (n : ℕ) (o : Option Event) (os : List (Option Event)) (h : History) → noted n (present (o ∷ os)) h ≡ noted n (present os) (after_some n o h)
noted_present n None os h = refl
noted_present n (Some e) os h = refl

pub noted-append : (n : ℕ) (es fs : List Event) (h : History) → noted n (es ++ fs) h ≡ noted n fs (noted n es h)
noted-append n [] fs h = refl
noted-append n (e ∷ es) fs h = noted-append n es fs (after_event n h e)

-- two cells of one module and offset are one
same_cell : (n a b : ℕ) → 0 < n → a % n ≡ b % n → a / n ≡ b / n → a ≡ b
same_cell n a b h e d =
    let p : n * (a / n) ≡ n * (b / n) = ap (λ q. n * q) d in
    omega (arith, h, e, p)

both_false : (a b : Bool) → b ≡ false → (a && b) ≡ false
both_false true b h = h
both_false false b h = refl

module _ (c : Settings) (range : AreInRange c) (m : Machine) (shape : HasShape c m) (w : IsRouted c m) (b : IsBalanced c m) (is : List LoggedIssue) (ks : List Kept) (initial : Cells) (first : History) where
  abbrev after : Machine
  after = memory_phase c m

  abbrev event_at : ℕ → Option Event
  event_at k = serving k (served (module_at m k))

  abbrev pub all_served : List Event
  all_served = present (places (size c) event_at)

  -- the modules below j have acted
  pub record Acted (j : ℕ) (h : History) : Type 0 where
    pub trees : (p a : ℕ) → j ≤ module_of c a → tree_of p a h.trees ≡ tree_of p a first.trees
    pub cells_ahead : (a : ℕ) → j ≤ module_of c a → cells_after initial h.order a ≡ cell_value c m a
    pub cells_done : (a : ℕ) → module_of c a < j → cells_after initial h.order a ≡ cell_value c after a
    pub explained : (k : ℕ) → k < j → IfSome (to_serve (module_at m k)) (λ (p : Placed). IsExplained (replayed initial h.order) (built c m is c.stages p.request.pe p.request.cell) (act p.request.op (value_at (module_at m k) p)).1)
    pub grows : (more : List Done) × (replayed initial h.order ≡ replayed initial first.order ++ more)
    pub log : h.log ≡ first.log

  small : 0 < size c
  small = pow_pos c.stages

  -- the cells of a module that acts, and of one that doesn't
  cells_if_none : (j a : ℕ) → j < size c → module_of c a ≡ j → to_serve (module_at m j) ≡ None → cell_value c after a ≡ cell_value c m a
  cells_if_none j a hj e none =
      let at : module_at after (a % size c) ≡ serve (module_at m (a % size c)) = memory_module-memory_phase c m (a % size c) (module_small c range a) in
      let here : to_serve (module_at m (a % size c)) ≡ None = rw e none in
      let stays : after_serving (module_at m (a % size c)) (to_serve (module_at m (a % size c))) ≡ module_at m (a % size c) = ap (λ o. after_serving (module_at m (a % size c)) o) here in
      ap (λ v. slice_index v.cells (a / size c)) (at ∙ stays)

  cells_if_some : (j a : ℕ) (p : Placed) → j < size c → module_of c a ≡ j → to_serve (module_at m j) ≡ Some p → cell_value c after a ≡ slice_index (slice_set (module_at m j).cells p.offset (act p.request.op (value_at (module_at m j) p)).0) (a / size c)
  cells_if_some j a p hj e some =
      let at : module_at after (a % size c) ≡ serve (module_at m (a % size c)) = memory_module-memory_phase c m (a % size c) (module_small c range a) in
      let moved : serve (module_at m (a % size c)) ≡ serve (module_at m j) = ap (λ k. serve (module_at m k)) e in
      let acts : serve (module_at m j) ≡ after_serving (module_at m j) (Some p) = ap (λ o. after_serving (module_at m j) o) some in
      ap (λ v. slice_index v.cells (a / size c)) (at ∙ (moved ∙ acts))

  acted_none : (n j : ℕ) (h : History) → j < size c → to_serve (module_at m j) ≡ None → Acted j h → Acted (suc j) h
  acted_none n j h hj none g = record {
    trees = λ p a l. g.trees p a (omega (arith, l));
    cells_ahead = λ a l. g.cells_ahead a (omega (arith, l));
    cells_done = λ a l. ⊎_elim (λ k. g.cells_done a k) (λ k. let e : module_of c a ≡ j = omega (arith, l, k) in g.cells_ahead a k ∙ sym (cells_if_none j a hj e none)) (cases_lt (module_of c a) j);
    explained = λ k l. ⊎_elim (λ z. g.explained k z) (λ z. let e : k ≡ j = omega (arith, l, z) in rw (e, none) tt) (cases_lt k j);
    grows = g.grows;
    log = g.log;
  }

  -- the value that a request finds is that of its cell
  value_is : (j : ℕ) (p : Placed) → IsPlacedAt c j p → cell_value c m p.request.cell ≡ value_at (module_at m j) p
  value_is j p placed =
      ap (λ k. slice_index (module_at m k).cells (p.request.cell / size c)) placed.0.home ∙ ap (λ o. slice_index (module_at m j).cells o) (sym placed.1)

  not_same_module : (a z j : ℕ) → a ≡ z → module_of c z ≡ j → suc j ≤ module_of c a → ⊥
  not_same_module a z j e home l =
      let same : module_of c a ≡ module_of c z = ap (λ v. module_of c v) e in
      absurd (omega (arith, same, home, l))

  apart_cells : (q a : ℕ) (r : Request) (j : ℕ) → module_of c r.cell ≡ j → suc j ≤ module_of c a → is_reference q a r.pe r.cell ≡ false
  apart_cells q a r j home l = both_false (r.pe == q) (r.cell == a) (other r.cell a (λ e. absurd (not_same_module a r.cell j (sym e) home l)))

  explained_later : (o : Option Placed) (t : Placed → Tree) (r : Placed → Reply) (old more now : List Done) → now ≡ old ++ more → IfSome o (λ u. IsExplained old (t u) (r u)) → IfSome o (λ u. IsExplained now (t u) (r u))
  explained_later None t r old more now e h = tt
  explained_later (Some u) t r old more now e h = subst (λ es. IsExplained es (t u) (r u)) (sym e) (explained_more old more (t u) (r u) h)

  cell_here : (j a : ℕ) (p : Placed) → j < size c → to_serve (module_at m j) ≡ Some p → IsPlacedAt c j p → a ≡ p.request.cell → cell_value c after a ≡ (act p.request.op (value_at (module_at m j) p)).0
  cell_here j a p hj some placed e =
      let home : module_of c a ≡ j = ap (λ v. module_of c v) e ∙ placed.0.home in
      let place : a / size c ≡ p.offset = ap (λ v. v / size c) e ∙ sym placed.1 in
      let within : p.offset < length (module_at m j).cells = rw (shape.cells j hj) (placed_within c range j p placed) in
      cells_if_some j a p hj home some ∙ rw place (get_or-set_same (module_at m j).cells p.offset (act p.request.op (value_at (module_at m j) p)).0 0 within)

  cell_beside : (j a : ℕ) (p : Placed) → j < size c → to_serve (module_at m j) ≡ Some p → IsPlacedAt c j p → module_of c a ≡ j → a ≢ p.request.cell → cell_value c after a ≡ cell_value c m a
  cell_beside j a p hj some placed home apart =
      let places_apart : a / size c ≢ p.offset = λ e. apart (same_cell (size c) a p.request.cell small (home ∙ sym placed.0.home) (e ∙ placed.1)) in
      cells_if_some j a p hj home some
      ∙ (get_or-set_other (module_at m j).cells p.offset (a / size c) (act p.request.op (value_at (module_at m j) p)).0 0 places_apart
      ∙ ap (λ k. slice_index (module_at m k).cells (a / size c)) (sym home))

  -- a cell of a module that has acted
  cell_done : (j a : ℕ) (p : Placed) (h : History) → j < size c → to_serve (module_at m j) ≡ Some p → IsPlacedAt c j p → module_of c a < suc j → Acted j h → (t : Tree) → AreFor p.request.cell (leaves t)
      → IsSeries t (value_at (module_at m j) p) → cells_after initial h.order p.request.cell ≡ value_at (module_at m j) p → sent t ≡ p.request.op
      → cells_after (cells_after initial h.order) (leaves t) a ≡ cell_value c after a
  cell_done j a p h hj some placed l g t are_for series value op =
      let before = cells_after initial h.order in
      ⊎_elim
      (λ e.
      let acts : value_after (before p.request.cell) (leaves t) ≡ (act p.request.op (value_at (module_at m j) p)).0 = rw (value, ← op) series.value in
      ap (λ z. cells_after before (leaves t) z) e ∙ (cell_after before p.request.cell (leaves t) are_for ∙ (acts ∙ sym (cell_here j a p hj some placed e))))
      (λ apart.
      let kept = cell_kept before p.request.cell a (leaves t) are_for apart in
      kept ∙ ⊎_elim (λ z. g.cells_done a z)
      (λ z. let home : module_of c a ≡ j = omega (arith, l, z) in
      g.cells_ahead a z ∙ sym (cell_beside j a p hj some placed home apart)) (cases_lt (module_of c a) j))
      (cases_eq a p.request.cell)

  module _ (list : List Done) (f : IsForest c m first.trees is list) where
    acted_some : (n j : ℕ) (h : History) (p : Placed) → j < size c → to_serve (module_at m j) ≡ Some p → IsPlacedAt c j p → IsKeptAt c m is first.trees c.stages p.request → Acted j h
        → Acted (suc j) (after_event n h (Served j p.request (act p.request.op (value_at (module_at m j) p)).1 (act p.request.op (value_at (module_at m j) p)).0))
    acted_some n j h p hj some placed k g =
        let r = p.request in
        let t = built c m is c.stages r.pe r.cell in
        let v = value_at (module_at m j) p in
        let home = placed.0.home in
        let there : tree_of r.pe r.cell h.trees ≡ Some t = g.trees r.pe r.cell (omega (arith, home)) ∙ k.tree in
        let served_are : leaves_of (tree_of r.pe r.cell h.trees) ≡ leaves t = ap (λ o. leaves_of o) there in
        let before = cells_after initial h.order in
        let proper = built_proper c m is c.stages r.pe r.cell in
        let is_for = built_is_for c m is c.stages r.pe r.cell in
        let are_for = for_leaves r.cell t is_for in
        let value : before r.cell ≡ v = g.cells_ahead r.cell (omega (arith, home)) ∙ value_is j p placed in
        let now : cells_after initial (h.order ++ leaves_of (tree_of r.pe r.cell h.trees)) ≡ cells_after before (leaves t) = ap (λ ls. cells_after initial (h.order ++ ls)) served_are ∙ cells-append initial h.order (leaves t) in
        let list_now : replayed initial (h.order ++ leaves_of (tree_of r.pe r.cell h.trees)) ≡ replayed initial h.order ++ replayed before (leaves t) = ap (λ ls. replayed initial (h.order ++ ls)) served_are ∙ replayed-append initial h.order (leaves t) in
        record {
          trees = λ q a l. without_other q a r.pe r.cell h.trees (apart_cells q a r j home l) ∙ g.trees q a (omega (arith, l));
          cells_ahead = λ a l.
              let apart : a ≢ r.cell = λ e. absurd (not_same_module a r.cell j e home l) in
              ap (λ f. f a) now ∙ (cell_kept before r.cell a (leaves t) are_for apart ∙ g.cells_ahead a (omega (arith, l)));
          cells_done = λ a l. ap (λ f. f a) now ∙ cell_done j a p h hj some placed l g t are_for (in_series t v proper) value k.op;
          explained = λ i l. ⊎_elim
              (λ z. explained_later (to_serve (module_at m i)) (λ (u : Placed). built c m is c.stages u.request.pe u.request.cell) (λ (u : Placed). (act u.request.op (value_at (module_at m i) u)).1) (replayed initial h.order) (replayed before (leaves t)) _ list_now (g.explained i z))
              (λ z. let e : i ≡ j = omega (arith, l, z) in
              let says = replay_explains r.cell t proper is_for before in
              let reply : (act (sent t) (before r.cell)).1 ≡ (act r.op v).1 = rw (value, k.op) refl in
              let one : IsExplained (replayed initial h.order ++ replayed before (leaves t)) t (act r.op v).1 = explained_right (replayed initial h.order) (replayed before (leaves t)) t (act r.op v).1 (subst (λ q. IsExplained (replayed before (leaves t)) t q) reply says) in
              rw (e, some, list_now) one) (cases_lt i j);
          grows = (g.grows.0 ++ replayed before (leaves t), list_now ∙ (ap (λ es. es ++ replayed before (leaves t)) g.grows.1 ∙ append_assoc (replayed initial first.order) g.grows.0 (replayed before (leaves t))));
          log = g.log;
        }

    -- ---- all modules, in order
    input_of : (i : Option Placed) (o : Option ReplyMessage) (p : Placed) → elim o [ None ↦ i | Some r ↦ None ] ≡ Some p → i ≡ Some p
    input_of i None p e = e
    input_of i (Some r) p e = absurd cc

    known : (P : Placed → Type 0) (i : Option Placed) (p : Placed) → IfSome i P → i ≡ Some p → P p
    known P None p h e = absurd cc
    known P (Some q) p h e = let same : q ≡ p = cc in subst P same h

    acted_by : (n j : ℕ) (h : History) (o : Option Placed) → j < size c → to_serve (module_at m j) ≡ o → Acted j h → Acted (suc j) (after_some n (serving j (act_of (module_at m j) o)) h)
    acted_by n j h None hj e g = acted_none n j h hj e g
    acted_by n j h (Some p) hj e g =
        let inp = input_of (module_at m j).inp (module_at m j).out p e in
        acted_some n j h p hj e (known (IsPlacedAt c j) (module_at m j).inp p (w.inputs j hj) inp)
        (known (λ (q : Placed). IsKeptAt c m is first.trees c.stages q.request) (module_at m j).inp p (f.inputs j hj) inp) g

    acted_from : (n k j : ℕ) (h : History) → j + k ≡ size c → Acted j h → Acted (size c) (noted n (present (map event_at (range_with_len j k))) h)
    acted_from n zero j h e g = let same : j ≡ size c = omega (arith, e) in subst (λ i. Acted i h) same g
    acted_from n (suc k) j h e g =
        let one = acted_by n j h (to_serve (module_at m j)) (omega (arith, e)) refl g in
        let next : suc j ≡ j + 1 = omega arith in
        rw (noted_present n (event_at j) (map event_at (range_with_len (j + 1) k)) h)
        (acted_from n k (j + 1) (after_some n (event_at j) h) (omega (arith, e)) (subst (λ i. Acted i (after_some n (event_at j) h)) next one))

    pub all_acted : (n : ℕ) → ((a : ℕ) → cells_after initial first.order a ≡ cell_value c m a) → Acted (size c) (noted n all_served first)
    unfolding places
    all_acted n cells = acted_from n (size c) 0 first (omega arith) record {
      trees = λ p a l. refl;
      cells_ahead = λ a l. cells a;
      cells_done = λ a l. absurd (omega (arith, l));
      explained = λ k l. absurd (omega (arith, l));
      grows = ([], sym (append-nil (replayed initial first.order)));
      log = refl;
    }

    -- ---- the trees that are taken
    module _ (t : ℕ → ℕ → Bool) where
      abbrev inputs_on_way : ModuleState → ℕ
      inputs_on_way v = count_option (λ (p : Placed). t p.request.pe p.request.cell) v.inp

      taken_of : (k : ℕ) (v : ModuleState) (i : Option Placed) (o : Option ReplyMessage) → v.inp ≡ i → v.out ≡ o
          → let s : Option Placed = elim o [ None ↦ i | Some r ↦ None ] in mention_some t (serving k (act_of v s)) + inputs_on_way (after_serving v s) ≡ inputs_on_way v
      taken_of k v i (Some r) e d = omega arith
      taken_of k v None None e d = omega arith
      taken_of k v (Some p) None e d = rw e (omega arith)

      taken_at : (k : ℕ) → k < size c → mention_some t (event_at k) + inputs_on_way (module_at after k) ≡ inputs_on_way (module_at m k)
      taken_at k h = rw (memory_module-memory_phase c m k h) (taken_of k (module_at m k) (module_at m k).inp (module_at m k).out refl refl)

      pub all_taken : mentions t all_served + total (size c) (λ k. inputs_on_way (module_at after k)) ≡ total (size c) (λ k. inputs_on_way (module_at m k))
      all_taken =
          let named = present_mentions t (places (size c) event_at) ∙ sum-places (mention_some t) (size c) event_at in
          let sum = total_plus (size c) (λ k. mention_some t (event_at k)) (λ k. inputs_on_way (module_at after k)) in
          let each = total_same (size c) (λ k. mention_some t (event_at k) + inputs_on_way (module_at after k)) (λ k. inputs_on_way (module_at m k)) taken_at in
          omega (arith, named, sum, each)

      pub inputs_within : total (size c) (λ k. inputs_on_way (module_at m k)) ≤ total (size c) (λ k. module_on_way t (module_at m k))
      inputs_within = total_most (size c) (λ k. module_on_way t (module_at m k)) (λ k. inputs_on_way (module_at m k)) (λ k l. omega arith)

    -- ---- the trees are the same
    same_record : (s p a : ℕ) → record_at c after s p a ≡ record_at c m s p a
    unfolding memory_phase
    same_record s p a = refl

    same_grown : (s x : ℕ) (t u : Tree) (g h : ℕ → Tree) (o : Option WaitRecord) → t ≡ u → ((q : ℕ) → g q ≡ h q) → grown s x t g o ≡ grown s x u h o
    same_grown s x t u g h None e d = e
    same_grown s x t u g h (Some v) e d = rw (e, d v.partner) refl

    same_tree : (n p a : ℕ) → built c after is n p a ≡ built c m is n p a
    same_tree zero p a = built_leaf c after is p a ∙ sym (built_leaf c m is p a)
    same_tree (suc s) p a =
        built_next c after is s p a
        ∙ (ap (λ o. grown s (position_of c s p a) (built c after is s p a) (λ q. built c after is s q a) o) (same_record s p a)
        ∙ (same_grown s (position_of c s p a) (built c after is s p a) (built c m is s p a) (λ q. built c after is s q a) (λ q. built c m is s q a) (record_at c m s p a) (same_tree s p a) (λ q. same_tree s q a)
        ∙ sym (built_next c m is s p a)))

    module _ (n : ℕ) (cells : (a : ℕ) → cells_after initial first.order a ≡ cell_value c m a) (is_list : list ≡ replayed initial first.order) where
      abbrev last : History
      last = noted n all_served first

      abbrev now : List Done
      now = replayed initial last.order

      acted : Acted (size c) last
      acted = all_acted n cells

      kept_after : (k : ℕ) (r : Request) → mentions (is_reference r.pe r.cell) all_served ≤ 0 → IsKeptAt c m is first.trees k r → IsKeptAt c after is last.trees k r
      kept_after k r none g =
          let same = same_tree k r.pe r.cell in
          let stays : tree_of r.pe r.cell last.trees ≡ tree_of r.pe r.cell first.trees = ap (λ ts. tree_of r.pe r.cell ts) (noted_trees n all_served first) ∙ unmentioned r.pe r.cell all_served first.trees none in
          record { tree = stays ∙ (g.tree ∙ ap (λ t. Some t) (sym same)); op = ap (λ t. sent t) same ∙ g.op }

      answered_after : (k : ℕ) (r : ReplyMessage) → IsAnswered c m is list k r → IsAnswered c after is now k r
      answered_after k r g =
          let t = built c m is k r.pe r.cell in
          let more = explained_more list acted.grows.0 t r.reply g in
          let grown_list : list ++ acted.grows.0 ≡ now = ap (λ es. es ++ acted.grows.0) is_list ∙ sym acted.grows.1 in
          subst (λ es. IsExplained es (built c after is k r.pe r.cell) r.reply) grown_list (subst (λ u. IsExplained (list ++ acted.grows.0) u r.reply) (sym (same_tree k r.pe r.cell)) more)

      -- no act is of a request that is elsewhere
      not_named : (p a : ℕ) → p < size c → 1 + total (size c) (λ k. module_on_way (is_reference p a) (module_at m k)) ≤ on_way (is_reference p a) c m → mentions (is_reference p a) all_served ≤ 0
      not_named p a hp l =
          let t = is_reference p a in
          omega (arith, l, once c range m b p a hp, all_taken t, inputs_within t)

      pending_after : (p : ℕ) → p < size c → AllByRecursion (IsKeptAt c after is last.trees 0) (element_at m p).interface.pending
      pending_after p hp =
          each_in (λ (r : Request). IsOwn c p r × IsKeptAt c m is first.trees 0 r) (IsKeptAt c after is last.trees 0) (element_at m p).interface.pending
          (λ r counts h.
          let hq : r.pe < size c = rw h.0.0 hp in
          let one = counts (passes (is_reference r.pe r.cell)) (that_is r.pe r.cell) in
          let there = total_term (size c) (λ q. pending_on_way (is_reference r.pe r.cell) (element_at m q)) p hp in
          kept_after 0 r (not_named r.pe r.cell hq (omega (arith, one, there))) h.1)
          (each_and (IsOwn c p) (IsKeptAt c m is first.trees 0) (element_at m p).interface.pending (w.pending p hp) (f.pending p hp))

      queued_after : (s x : ℕ) → s < c.stages → x < size c → AllByRecursion (λ (e : QueueEntry). IsKeptAt c after is last.trees (bound s e.combined) e.request) (lane_at m s x).queue
      queued_after s x hs hx =
          each_in (λ (e : QueueEntry). IsEntryAt c s x e × IsKeptAt c m is first.trees (bound s e.combined) e.request) (λ (e : QueueEntry). IsKeptAt c after is last.trees (bound s e.combined) e.request) (lane_at m s x).queue
          (λ e counts h.
          let t = is_reference e.request.pe e.request.cell in
          let one = counts (entry_passes t) (that_is e.request.pe e.request.cell) in
          let there = table_term c.stages (size c) (λ i z. lane_on_way t (lane_at m i z)) s x hs hx in
          kept_after (bound s e.combined) e.request (not_named e.request.pe e.request.cell h.0.reference.element (omega (arith, one, there))) h.1)
          (each_and (IsEntryAt c s x) (λ (e : QueueEntry). IsKeptAt c m is first.trees (bound s e.combined) e.request) (lane_at m s x).queue (w.requests s x hs hx) (f.queued s x hs hx))

      input_left : (k : ℕ) (v : ModuleState) (o : Option Placed) (P : Placed → Type 0) → IfSome v.inp P → IfSome (after_serving v o).inp P
      input_left k v None P h = h
      input_left k v (Some p) P h = tt

      input_after : (k : ℕ) → k < size c → IfSome (module_at after k).inp (λ (p : Placed). IsKeptAt c after is last.trees c.stages p.request)
      input_after k hk =
          some_in (λ (p : Placed). IsPlacedAt c k p × IsKeptAt c m is first.trees c.stages p.request) (λ (p : Placed). IsKeptAt c after is last.trees c.stages p.request) (module_at after k).inp
          (λ p counts h.
          let t = is_reference p.request.pe p.request.cell in
          let hp = h.0.0.reference.element in
          let one = counts (λ (q : Placed). t q.request.pe q.request.cell) (that_is p.request.pe p.request.cell) in
          let there = total_term (size c) (λ z. inputs_on_way t (module_at after z)) k hk in
          let none : mentions t all_served ≤ 0 = omega (arith, one, there, once c range m b p.request.pe p.request.cell hp, all_taken t, inputs_within t) in
          kept_after c.stages p.request none h.1)
          (rw (memory_module-memory_phase c m k hk)
          (input_left k (module_at m k) (to_serve (module_at m k)) (λ (p : Placed). IsPlacedAt c k p × IsKeptAt c m is first.trees c.stages p.request)
          (some_and (IsPlacedAt c k) (λ (p : Placed). IsKeptAt c m is first.trees c.stages p.request) (module_at m k).inp (w.inputs k hk) (f.inputs k hk))))

      output_of : (k : ℕ) (v : ModuleState) (o : Option Placed) → IfSome v.out (IsAnswered c after is now c.stages)
          → IfSome o (λ (p : Placed). IsExplained now (built c after is c.stages p.request.pe p.request.cell) (act p.request.op (value_at v p)).1) → IfSome (after_serving v o).out (IsAnswered c after is now c.stages)
      output_of k v None h g = h
      output_of k v (Some p) h g = g

      output_after : (k : ℕ) → k < size c → IfSome (module_at after k).out (IsAnswered c after is now c.stages)
      output_after k hk =
          rw (memory_module-memory_phase c m k hk)
          (output_of k (module_at m k) (to_serve (module_at m k))
          (some-weaker (IsAnswered c m is list c.stages) (IsAnswered c after is now c.stages) (module_at m k).out (λ r h. answered_after c.stages r h) (f.outputs k hk))
          (some-weaker (λ (p : Placed). IsExplained now (built c m is c.stages p.request.pe p.request.cell) (act p.request.op (value_at (module_at m k) p)).1)
          (λ (p : Placed). IsExplained now (built c after is c.stages p.request.pe p.request.cell) (act p.request.op (value_at (module_at m k) p)).1) (to_serve (module_at m k))
          (λ p h. subst (λ t. IsExplained now t (act p.request.op (value_at (module_at m k) p)).1) (sym (same_tree c.stages p.request.pe p.request.cell)) h) (acted.explained k hk)))

      replies_after : (s v : ℕ) → s < c.stages → v < size c → AllByRecursion (IsAnswered c after is now s) (replies_at m s v)
      replies_after s v hs hv = each-weaker (IsAnswered c m is list s) (IsAnswered c after is now s) (replies_at m s v) (λ r h. answered_after s r h) (f.replies s v hs hv)

      records_after : (s x : ℕ) → s < c.stages → x < size c → AllByRecursion (IsGiven c after is s) (lane_at m s x).records
      records_after s x hs hx =
          each-weaker (IsGiven c m is s) (IsGiven c after is s) (lane_at m s x).records
          (λ u h. record { old = rw (same_tree s u.pe u.cell, same_tree s u.partner u.cell) h.old; new = rw (same_tree s u.pe u.cell, same_tree s u.partner u.cell) h.new }) (f.records s x hs hx)

      same_lane : (s x : ℕ) → lane_at after s x ≡ lane_at m s x
      unfolding memory_phase
      same_lane s x = refl

      same_replies : (s v : ℕ) → replies_at after s v ≡ replies_at m s v
      unfolding memory_phase
      same_replies s v = refl

      same_element : (p : ℕ) → element_at after p ≡ element_at m p
      unfolding memory_phase
      same_element p = refl

      pub forest-memory_phase : IsForest c after last.trees is now
      forest-memory_phase = record {
        pending = λ p h. rw (same_element p) (pending_after p h);
        queued = λ s x hs hx. rw (same_lane s x) (queued_after s x hs hx);
        inputs = input_after;
        outputs = output_after;
        replies = λ s v hs hv. rw (same_replies s v) (replies_after s v hs hv);
        records = λ s x hs hx. rw (same_lane s x) (records_after s x hs hx);
      }
