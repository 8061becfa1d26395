-- many references to one cell are served by one act, whose tree has them all
use Rattle.std.proofs.Common.{◌≡◌, ℕ, suc, ◌+◌, ◌≤◌, List, [], ◌∷◌, ◌++◌, Bool, true, false, refl, arith, sym, subst, ◌∙◌, ap}
use Rattle.std.specs.{Prelude.{Option, Some, None, IfSome}, List.AllByRecursion}
use Rattle.std.proofs.lemmas.List.{append-nil}
use Rattle.ultra_msg.specs.declared.{Request.Request, Event.Event}
use Rattle.ultra_mem.specs.{declared.Placed.Placed, Serve.served}
use Rattle.ultra_isa.specs.declared.Instr.{Instr}
use Rattle.ultra_model.specs.{Machine.{Settings, Machine, size, module_at}, Phases.{delivered, reply_phase, cycle, after}, Ranges.AreInRange, Routed.module_of}
use Rattle.ultra_model.proofs.{Each.each-append, Neighbours.itself, Routes.module_small}
use Rattle.ultra_serial_law.specs.AllAtOnce.{acts_on, AreAllAt, later_events}
use Rattle.ultra_serial_law.proofs.{Fronts.front_cell, Module.leads_last, Stages.{is_on, placed}}
use Rattle.ultra_serial_law.proofs.Acts.{deliveries, servings, meetings, issues, events_are, acts-append, acts_of_cycle, no_deliveries, no_meetings, no_issues}
use Rattle.ultra_serial_law.proofs.HotCellLaw.{asked, each, inside_at, the_request, one_from, served_at_once, events_at}
use Rattle.ultra_serial_law.specs.{Tree.{Tree, tree_of}, SerialList.{History, history}, HotSpot.{trees_taken, IsHotSpot, HotSpotLaw}}
use Rattle.ultra_serial_law.proofs.{Forest.built, Explained.IsKept, Law.serial_after, Everyone.everyone, Grown.{IsFull, hot_tree_is_full}}
use Rattle.ultra_serial_law.proofs.Taken.{none_taken, taken-append, kept_after, one_taken, IsEarly, early_deliveries, early_servings}

module _ (c : Settings) (range : AreInRange c) (some_waits : 1 ≤ c.wait_places) (program : List Instr) (n a : ℕ) (w : AreAllAt c a (after c program n)) where
  abbrev home : ℕ
  home = module_of c a

  abbrev wanted : Request
  wanted = the_request c range some_waits program n a w

  -- the machine as the cycle of the act begins, and what has happened before
  abbrev now : Machine
  now = after c program (n + suc c.stages)

  abbrev before : History
  before = history c program (n + suc c.stages)

  abbrev its_tree : Tree
  its_tree = built c now before.log.issues c.stages wanted.pe a

  -- ---- the tree that is kept for the request

  is_home : is_on c a c.stages home ≡ true
  is_home = leads_last c range a n (asked c range some_waits program n a w) (each c range some_waits program n a w) some_waits home (module_small c range a) ∙ itself home

  abbrev what : ℕ → Request
  what p = asked c range some_waits program n a w p

  wanted_cell : wanted.cell ≡ a
  wanted_cell = front_cell c range a n what (each c range some_waits program n a w) c.stages home (module_small c range a)

  home_holds : (module_at now home).inp ≡ Some (placed c wanted)
  home_holds =
      let f : Bool → Option Placed = λ b. elim b [ true ↦ Some (placed c wanted) | false ↦ None ] in
      (inside_at c range some_waits program n a w).inputs home (module_small c range a) ∙ ap f is_home

  kept_for : IsKept c now before.log.issues before.trees c.stages wanted.pe wanted.cell wanted
  kept_for =
      subst (λ (o : Option Placed). IfSome o (λ (p : Placed). IsKept c now before.log.issues before.trees c.stages p.request.pe p.request.cell p.request)) home_holds
      ((serial_after c range program (n + suc c.stages)).forest.inputs home (module_small c range a))

  tree_is_kept : tree_of wanted.pe a before.trees ≡ Some its_tree
  tree_is_kept = subst (λ b. tree_of wanted.pe b before.trees ≡ Some (built c now before.log.issues c.stages wanted.pe b)) wanted_cell kept_for.tree

  its_tree_full : IsFull c.stages its_tree
  its_tree_full =
      hot_tree_is_full c range a n what (each c range some_waits program n a w) now (inside_at c range some_waits program n a w).left before.log.issues home (module_small c range a) is_home

  -- ---- the act takes it
  abbrev first : List Event
  first = deliveries a c program now

  abbrev acts : List Event
  acts = servings a c program now

  one_act : acts_on a (first ++ acts) ≡ wanted ∷ []
  one_act =
      acts-append a first acts
      ∙ rw (no_deliveries a c program now) (sym (acts_of_cycle a c program now) ∙ one_from c range some_waits program n a w now (inside_at c range some_waits program n a w))

  early : AllByRecursion (IsEarly a) (first ++ acts)
  early = each-append (IsEarly a) first acts (early_deliveries a (size c) (λ p. delivered c now p)) (early_servings a (size c) (λ k. served (module_at (reply_phase c now) k)))

  taken_now : trees_taken a before.trees (cycle c program now).events ≡ its_tree ∷ []
  taken_now =
      let rest = meetings a c program now in
      let last = issues a c program now in
      let ks = before.trees in
      ap (λ es. trees_taken a ks es) (events_are a c program now)
      ∙ (taken-append a ks ((first ++ acts) ++ rest) last
      ∙ rw (
        taken-append a ks (first ++ acts) rest,
        none_taken a (kept_after a ks (first ++ acts)) rest (no_meetings a c program now),
        none_taken a (kept_after a ks ((first ++ acts) ++ rest)) last (no_issues a c program now),
        append-nil (trees_taken a ks (first ++ acts)),
        append-nil (trees_taken a ks (first ++ acts)),
        one_taken a ks wanted (first ++ acts) early one_act,
        tree_is_kept,
      ) refl)

  taken_at : trees_taken a (history c program (n + c.stages + 1)).trees (later_events c program n a (c.stages + 1)) ≡ its_tree ∷ []
  taken_at =
      let next : suc c.stages ≡ c.stages + 1 = omega arith in
      let whole : n + suc c.stages ≡ n + c.stages + 1 = omega arith in
      let here = ap (λ (m : Machine). trees_taken a before.trees m.events) (events_at c range some_waits program n a w (suc c.stages)) ∙ taken_now in
      subst (λ k. trees_taken a (history c program k).trees (later_events c program n a (c.stages + 1)) ≡ its_tree ∷ []) whole
      (subst (λ k. trees_taken a before.trees (after c program (n + k + 1)).events ≡ its_tree ∷ []) next here)

  is_hot_spot : IsHotSpot c program n a wanted its_tree
  is_hot_spot = record {
    served_at_once = served_at_once c range some_waits program n a w;
    taken = taken_at;
    height = its_tree_full.height;
    leaves = its_tree_full.leaves;
    of_all = everyone c range a n what (each c range some_waits program n a w) some_waits now (inside_at c range some_waits program n a w).left before.log.issues;
  }

pub hot_spot : HotSpotLaw
hot_spot c range some_waits program n a w =
    (the_request c range some_waits program n a w, its_tree c range some_waits program n a w, is_hot_spot c range some_waits program n a w)
