-- What units do in a half of a cycle, each by what it is and by what is on its links. No other unit
-- changes either. So after visits of all each has acted once, by what there was at the start. What
-- they list is in the order of their numbers.
use Rattle.std.proofs.Common.{[], ◌≡◌, ◌≢◌, ℕ, ◌+◌, ◌*◌, ◌^◌, ◌<◌, ◌≤◌, List, ◌++◌, Option, Some, None, length, length-append, set, get_or-set_same, get_or-set_other, arith, slice_index_or}
use Rattle.ultra_block_core.proofs.Common.{length-set, append-nil, Event, Stop, Switch, Ports, ModuleState, switch_count, link_number, module_number, element_number, unit_count, of_unit, unit_of, stage_of, index_of, on_link, on_both, is_switch, unit_is, unit_of_switch, unit_of_module, unit_of_element, AreRead, at_both, ports, ProcessingElement}
use Rattle.ultra_topology.specs.declared.unit.Unit.TheVariants as unit
use Rattle.ultra_topology.proofs.Put.{has_places, places_of, writer, written, written_behind}
use Rattle.ultra_topology.specs.Visits.{after_units}
use Rattle.ultra_block_core.proofs.{Few.few_entries, Once.{all_keep, changed_once, entries_before, all_entries}}

-- the units of a block, what is on its links of one kind, and what it lists
pub record Seen (M : Type 0) : Type 0 where
  pub switches : List (Option Switch)
  pub modules : List (Option ModuleState)
  pub elements : List (Option ProcessingElement)
  pub table : List (Option M)
  pub events : List Event
  pub stops : List Stop

-- what unit i of a sort does: its links, if they matter, what becomes of it and of what is on them, and what is listed
pub record UnitUpdate (L X : Type 0) : Type 0 where
  pub at : ℕ → Option (Ports ℕ)
  pub unit : ℕ → X → L → X
  pub links : ℕ → X → L → L
  pub events : ℕ → X → L → List Event
  pub stops : ℕ → X → L → List Stop

-- what is on the links of a unit, if it has any: a switch has two, another unit has one, which is
-- at both ports
module _ {M : Type 0} (t : List (Option M)) where
  abbrev pub on_two : Option (Ports ℕ) → Ports (Option M)
  on_two None = ports None None
  on_two (Some p) = on_both t p

  abbrev pub on_one : Option (Ports ℕ) → Option M
  on_one None = None
  on_one (Some p) = on_link t p.zero

  -- with this on them
  abbrev pub with_two : Option (Ports ℕ) → Ports (Option M) → List (Option M)
  with_two None o = t
  with_two (Some p) o = set (set t p.zero o.zero) p.one o.one

  abbrev pub with_one : Option (Ports ℕ) → Option M → List (Option M)
  with_one None o = t
  with_one (Some p) o = set t p.zero o

-- the same is on them afterwards, if it has none, and else what it leaves there
abbrev pub on_links_after : {L : Type 0} → Option (Ports ℕ) → L → L → L
on_links_after None before l = before
on_links_after (Some p) before l = l

-- a unit that is elsewhere does nothing
abbrev pub after_update : {L X : Type 0} → UnitUpdate L X → ℕ → Option X × L → Option X × L
after_update a i (None, l) = (None, l)
after_update a i (Some x, l) = (Some (a.unit i x l), on_links_after (a.at i) l (a.links i x l))

abbrev pub list_of : {L X E : Type 0} → (ℕ → X → L → List E) → ℕ → Option X × L → List E
list_of list i (None, l) = []
list_of list i (Some x, l) = list i x l

-- these links, if there are any, are those of unit n and of no other
abbrev pub AreOwn : ℕ → (ℕ → ℕ) → ℕ → Option (Ports ℕ) → Type 0
AreOwn d owner n None = Unit {0}
AreOwn d owner n (Some p) = AreRead d owner n p

-- what the units of a machine of d stages do in a half
pub record UnitUpdates (M : Type 0) : Type 0 where
  pub switch : UnitUpdate (Ports (Option M)) Switch
  pub memory_module : UnitUpdate (Option M) ModuleState
  pub element : UnitUpdate (Option M) ProcessingElement

module _ {M : Type 0} (d : ℕ) (a : UnitUpdates M) where
  -- unit i of a sort has acted, by what was on its links, where `put` gives the table with something else there
  abbrev after : {L X : Type 0} → UnitUpdate L X → ℕ → X → L → (L → List (Option M)) → Seen M → Seen M
  after update i x l put v = record v { table = put (update.links i x l); events = v.events ++ update.events i x l; stops = v.stops ++ update.stops i x l }

  -- unit n acts
  abbrev pub update : ℕ → Seen M → Seen M
  update n v = elim (unit_of d n) [
    | unit.Switch s k ↦ elim (slice_index_or v.switches n None) [
      | None ↦ v
      | Some w ↦ let l = on_two v.table (a.switch.at n) in record (after a.switch n w l (with_two v.table (a.switch.at n)) v) { switches = set v.switches n (Some (a.switch.unit n w l)) }
    ]
    | unit.Module m ↦ elim (slice_index_or v.modules m None) [
      | None ↦ v
      | Some x ↦ let l = on_one v.table (a.memory_module.at m) in record (after a.memory_module m x l (with_one v.table (a.memory_module.at m)) v) { modules = set v.modules m (Some (a.memory_module.unit m x l)) }
    ]
    | unit.Element p ↦ elim (slice_index_or v.elements p None) [
      | None ↦ v
      | Some e ↦ let l = on_one v.table (a.element.at p) in record (after a.element p e l (with_one v.table (a.element.at p)) v) { elements = set v.elements p (Some (a.element.unit p e l)) }
    ]
    | unit.Nothing ↦ v
  ]

  -- what there is of a unit, and on its links
  abbrev pub at_switch : ℕ → Seen M → Option Switch × Ports (Option M)
  at_switch n v = (slice_index_or v.switches n None, on_two v.table (a.switch.at n))

  abbrev pub at_module : ℕ → Seen M → Option ModuleState × Option M
  at_module m v = (slice_index_or v.modules m None, on_one v.table (a.memory_module.at m))

  abbrev pub at_element : ℕ → Seen M → Option ProcessingElement × Option M
  at_element p v = (slice_index_or v.elements p None, on_one v.table (a.element.at p))

  -- what unit n lists
  abbrev pub event_entries : ℕ → Seen M → List Event
  event_entries n v = of_unit d (λ s k. list_of a.switch.events n (at_switch n v)) (λ m. list_of a.memory_module.events m (at_module m v)) (λ p. list_of a.element.events p (at_element p v)) [] n

  abbrev pub stop_entries : ℕ → Seen M → List Stop
  stop_entries n v = of_unit d (λ s k. list_of a.switch.stops n (at_switch n v)) (λ m. list_of a.memory_module.stops m (at_module m v)) (λ p. list_of a.element.stops p (at_element p v)) [] n

  pub record IsWhole (v : Seen M) : Type 0 where
    pub switches : length v.switches ≡ switch_count d
    pub modules : length v.modules ≡ 2 ^ d
    pub elements : length v.elements ≡ 2 ^ d
    pub table : length v.table ≡ (d + 1) * 2 ^ d

  -- each unit has its links for itself, and lists few events
  pub record AreFair : Type 0 where
    pub owner : ℕ → ℕ
    pub switches : (n : ℕ) → n < switch_count d → AreOwn d owner n (a.switch.at n)
    pub modules : (m : ℕ) → m < 2 ^ d → AreOwn d owner (module_number d m) (a.memory_module.at m)
    pub elements : (p : ℕ) → p < 2 ^ d → AreOwn d owner (element_number d p) (a.element.at p)
    pub few : (n : ℕ) (v : Seen M) → length (event_entries n v) ≤ 2

  kept : (n : ℕ) (v : Seen M) → IsWhole v → IsWhole (update n v)
  kept n v whole = grind (arith, length-set)

  module _ (own : AreFair) where
    -- what is on another link stays there
    link_stays : (l j : ℕ) (v : Seen M) → own.owner l ≢ j → on_link (update j v).table l ≡ on_link v.table l
    link_stays l j v other = grind (arith, unit_is, get_or-set_other, own.switches, own.modules, own.elements)

    switch_stays : (n : ℕ) → n < switch_count d → (j : ℕ) (v : Seen M) → IsWhole v → j ≢ n → at_switch n (update j v) ≡ at_switch n v
    switch_stays n h j v whole other = grind (arith, get_or-set_other, link_stays, own.switches)

    module_stays : (m : ℕ) → m < 2 ^ d → (j : ℕ) (v : Seen M) → IsWhole v → j ≢ module_number d m → at_module m (update j v) ≡ at_module m v
    module_stays m h j v whole other = grind (arith, get_or-set_other, link_stays, own.modules)

    element_stays : (p : ℕ) → p < 2 ^ d → (j : ℕ) (v : Seen M) → IsWhole v → j ≢ element_number d p → at_element p (update j v) ≡ at_element p v
    element_stays p h j v whole other = grind (arith, get_or-set_other, link_stays, own.elements)

    switch_updates : (n : ℕ) → n < switch_count d → (v : Seen M) → IsWhole v → at_switch n (update n v) ≡ after_update a.switch n (at_switch n v)
    switch_updates n h v whole = grind (arith, unit_of_switch, get_or-set_same, get_or-set_other, length-set, own.switches)

    module_updates : (m : ℕ) → m < 2 ^ d → (v : Seen M) → IsWhole v → at_module m (update (module_number d m) v) ≡ after_update a.memory_module m (at_module m v)
    module_updates m h v whole = grind (arith, unit_of_module, get_or-set_same, own.modules)

    element_updates : (p : ℕ) → p < 2 ^ d → (v : Seen M) → IsWhole v → at_element p (update (element_number d p) v) ≡ after_update a.element p (at_element p v)
    element_updates p h v whole = grind (arith, unit_of_element, get_or-set_same, own.elements)

    pub record AllUpdated (old now : Seen M) : Type 0 where
      pub whole : IsWhole now
      pub switches : (n : ℕ) → n < switch_count d → at_switch n now ≡ after_update a.switch n (at_switch n old)
      pub modules : (m : ℕ) → m < 2 ^ d → at_module m now ≡ after_update a.memory_module m (at_module m old)
      pub elements : (p : ℕ) → p < 2 ^ d → at_element p now ≡ after_update a.element p (at_element p old)
      pub events : now.events ≡ old.events ++ entries_before event_entries 320 old
      pub few : length now.events ≤ length old.events + 640
      pub stops : now.stops ≡ old.stops ++ entries_before stop_entries 320 old

    pub all_updated : unit_count d < 321 → (v : Seen M) → IsWhole v → AllUpdated v (after_units update 320 v)
    all_updated small v whole =
        let events = all_entries update IsWhole kept (λ v. v.events) event_entries (λ n v whole. grind (arith, append-nil, unit_is)) (λ n j v whole other. grind (arith, switch_stays, module_stays, element_stays, unit_is)) 320 v whole in
        record {
          whole = all_keep update IsWhole kept 320 v whole;
          switches = λ n h. changed_once update IsWhole kept (at_switch n) n (switch_stays n h) (after_update a.switch n) (switch_updates n h) 320 v whole (omega arith);
          modules = λ m h. changed_once update IsWhole kept (at_module m) (module_number d m) (module_stays m h) (after_update a.memory_module m) (module_updates m h) 320 v whole (omega arith);
          elements = λ p h. changed_once update IsWhole kept (at_element p) (element_number d p) (element_stays p h) (after_update a.element p) (element_updates p h) 320 v whole (omega arith);
          events = events;
          few = grind (arith, length-append, few_entries event_entries v 2 (λ n. own.few n v) 320);
          stops = all_entries update IsWhole kept (λ v. v.stops) stop_entries (λ n v whole. grind (arith, append-nil, unit_is)) (λ n j v whole other. grind (arith, switch_stays, module_stays, element_stays, unit_is)) 320 v whole;
        }

-- ---- the links on which units put what they send
pub switch_puts : (d behind : ℕ) → 1 ≤ d → d ≤ 6 → (n : ℕ) → n < switch_count d → AreRead d (writer d behind) n (places_of d (stage_of d n) (index_of d n))
switch_puts d behind low high n h =
    let by = written d behind low high n _ _ (is_switch d n h) in grind (arith, has_places, is_switch)

pub end_puts : (d behind : ℕ) → 1 ≤ d → d ≤ 6 → switch_count d ≤ behind → (i : ℕ) → i < 2 ^ d → AreRead d (writer d behind) (behind + i) (at_both (link_number d d i))
end_puts d behind low high past i h = grind (arith, written_behind)
