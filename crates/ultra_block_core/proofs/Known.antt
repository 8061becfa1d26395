-- What a block knows of its units is kept when one of them is put anew and noted, and says which rooms are its own and what leads elsewhere.
use Rattle.std.proofs.Common.{◌≡◌, ◌≢◌, ℕ, ◌-◌, ◌^◌, ◌<◌, ◌≤◌, List, [], ◌∷◌, Bool, true, false, ◌↔◌, Option, None, Some, set, refl, sym, ◌∙◌, ap, arith, get_or-set_same, get_or-set_other, ◌&&◌, slice_index_or, IsTrue, not, IfSome, length, vec_capacity}
use Rattle.ultra_block_core.proofs.Common.{cases_eq, ForSome, length-set, Switch, ModuleState, Instr, ProcessingElement, switch_count, has_unit, IsFirstFrom, is_at_rest, Ports, IsModule, IsElement, of_unit, unit_is, unit_of_element, unit_of_module, unit_of_switch, AreNoted, UnitFacts, facts_at, no_facts, switch_facts, module_facts, element_facts, AreOthersAtRest, IsConsistentBlock, seen_of, own_switch, own_module, own_element, AreTargets, IsNextAway, AreOwnRooms, Rooms, sends_replies, sends_requests}
use Rattle.std.proofs.lemmas.List.{Elements.All-from_get_or, Folds.{list_any_at, list_any_none}}
use Rattle.std.specs.List.{list_all, list_any}
use Rattle.ultra_block_core.proofs.Visited.{sends_no_reply, sends_no_request}
use Rattle.ultra_topology.proofs.{Readers.few_units, Set.none_there, Visits.none_to_do}
use Rattle.ultra_topology.specs.{Visits.after_units, Links.LinksState, Numbers.{IsSmall, element_number}, Set.HasNoneFrom}
use Rattle.ultra_block_core.specs.{declared.{block.Block.TheInside.Inside as Block, sets.Sets.Sets}, Prelude.quiet_element, Quiet.{is_running, or_elsewhere, quiet_block}, Rooms.AreOpenFrom, Sets.if_here}

-- ---- facts of units, where `fs`, `fb` and `fe` give those of a switch, of a module and of a processing element
module _ (d : ℕ) {S B E F : Type 0} (fs : Option S → F) (fb : Option B → F) (fe : Option E → F) (none : F) where
  abbrev all_facts : List (Option S) → List (Option B) → List (Option E) → ℕ → F
  all_facts ws bs es n = of_unit d (λ s k. fs (slice_index_or ws n None)) (λ m. fb (slice_index_or bs m None)) (λ p. fe (slice_index_or es p None)) none n

  module _ (ws : List (Option S)) (bs : List (Option B)) (es : List (Option E)) (old now : ℕ → F) (known : (k : ℕ) → old k ≡ all_facts ws bs es k) (n : ℕ) (same : (k : ℕ) → k ≢ n → now k ≡ old k) where
    switch_anew : (o : Option S) → n < switch_count d → n < length ws → now n ≡ fs o → (k : ℕ) → now k ≡ all_facts (set ws n o) bs es k
    switch_anew o own within is k = grind (arith, unit_is, unit_of_switch, get_or-set_same, get_or-set_other)

    module_anew : (m : ℕ) (o : Option B) → IsModule d n m → m < length bs → now n ≡ fb o → (k : ℕ) → now k ≡ all_facts ws (set bs m o) es k
    module_anew m o own within is k = grind (arith, unit_is, unit_of_module, get_or-set_same, get_or-set_other)

    element_anew : (p : ℕ) (o : Option E) → IsElement d n p → p < length es → now n ≡ fe o → (k : ℕ) → now k ≡ all_facts ws bs (set es p o) k
    element_anew p o own within is k = grind (arith, unit_is, unit_of_element, get_or-set_same, get_or-set_other)

-- block `a` has these units, and these of them are awake. Its network, its wiring and its program
-- are those of `b`, and its links are of as many stages. It has memory for as many events and stops
pub record IsAfter (b : Block) (ws : List (Option Switch)) (bs : List (Option ModuleState)) (es : List (Option ProcessingElement)) (woken : List ℕ) (a : Block) : Type 0 where
  pub network : a.net ≡ b.net
  pub wiring : a.wiring ≡ b.wiring
  pub program : a.program ≡ b.program
  pub switches : a.switches.items ≡ ws
  pub modules : a.modules.items ≡ bs
  pub elements : a.elements.items ≡ es
  pub awake : a.awake ≡ woken
  pub replies : a.replies.stages ≡ b.replies.stages
  pub requests : a.requests.stages ≡ b.requests.stages
  pub events : vec_capacity a.events ≡ vec_capacity b.events
  pub stops : vec_capacity a.stops ≡ vec_capacity b.stops

-- where nothing is noted anew
pub same_facts : (s : Sets) (n : ℕ) → AreNoted n (λ f. f) s s
same_facts s n = record { there = refl; others = λ k other. refl }

-- ---- the processing elements outside a set are at rest, and still are when one of them is put anew or taken away
abbrev IsResting : List Instr → Option ProcessingElement → Type 0
IsResting program o = ForSome o (λ e. IsTrue (is_at_rest program e))

still_at_rest : {d : ℕ} (program : List Instr) (awake : List ℕ) (es : List (Option ProcessingElement)) → AreOthersAtRest d program awake es → length es ≡ 2 ^ d → {n p : ℕ} → IsElement d n p
    → {o : Option ProcessingElement} (now : List ℕ) → ((k : ℕ) → k ≢ n → has_unit now k ≡ has_unit awake k) → (has_unit now n ≡ false → IsResting program o) → AreOthersAtRest d program now (set es p o)
still_at_rest program awake es rests long {n} {p} own {o} now agree rest k small asleep =
    grind (arith, cases_eq, get_or-set_same, get_or-set_other, rests)

-- the set may differ at unit n alone, and `o` is at rest outside it where `was` is
abbrev RestsStill : List Instr → ℕ → List ℕ → List ℕ → Option ProcessingElement → Option ProcessingElement → Type 0
RestsStill program n awake now was o = ((k : ℕ) → k ≢ n → has_unit now k ≡ has_unit awake k) × ((has_unit awake n ≡ false → IsResting program was) → has_unit now n ≡ false → IsResting program o)

-- ---- unit n of block `b` is put anew, and `g` gives what is said of it then by what was said before; the block is `a` afterwards
module _ {b a : Block} (known : IsConsistentBlock b) {n : ℕ} {g : UnitFacts → UnitFacts} (noted : AreNoted n g b.sets a.sets) where
  -- `was` was there, and `o` is there now
  pub switch_kept : (was o : Option Switch) → own_switch b.switches.items n ≡ was → g (switch_facts was) ≡ switch_facts o
      → (n < switch_count b.net) × IsAfter b (set b.switches.items n o) b.modules.items b.elements.items b.awake a → IsConsistentBlock a
  switch_kept was o there is (own, after) =
      let said = known.facts n ∙ rw (of_unit, unit_of_switch b.net n own) (ap switch_facts there) in
      let facts = switch_anew _ switch_facts module_facts element_facts no_facts _ _ _ (facts_at b.sets) (facts_at a.sets) known.facts n noted.others o own (omega (arith, known.switches)) (noted.there ∙ ap g said ∙ is) in
      grind (arith, length-set)

  pub module_kept : (m : ℕ) (was o : Option ModuleState) → own_module b.modules.items m ≡ was → g (module_facts was) ≡ module_facts o
      → IsModule b.net n m × IsAfter b b.switches.items (set b.modules.items m o) b.elements.items b.awake a → IsConsistentBlock a
  module_kept m was o there is (own, after) =
      let said : facts_at b.sets n ≡ module_facts was = grind (arith, known.facts, unit_of_module, own.number, own.small) in
      let facts = module_anew _ switch_facts module_facts element_facts no_facts _ _ _ (facts_at b.sets) (facts_at a.sets) known.facts n noted.others m o own (omega (arith, known.modules, own.small)) (noted.there ∙ ap g said ∙ is) in
      grind (arith, length-set)

  pub element_kept : (p : ℕ) (was o : Option ProcessingElement) → own_element b.elements.items p ≡ was → g (element_facts was) ≡ element_facts o
      → IsElement b.net n p × RestsStill b.program n b.awake a.awake was o × IsAfter b b.switches.items b.modules.items (set b.elements.items p o) a.awake a → IsConsistentBlock a
  element_kept p was o there is (own, (agree, rest), after) =
      let said : facts_at b.sets n ≡ element_facts was = grind (arith, known.facts, unit_of_element, own.number, own.small) in
      let facts = element_anew _ switch_facts module_facts element_facts no_facts _ _ _ (facts_at b.sets) (facts_at a.sets) known.facts n noted.others p o own (omega (arith, known.elements, own.small)) (noted.there ∙ ap g said ∙ is) in
      let still = still_at_rest b.program _ _ known.rests known.elements own a.awake agree (rest (λ asleep. rw (← there) (known.rests p own.small (rw (own.number) at asleep)))) in
      grind (arith, length-set)

-- ---- the set of those that have yet to stop is empty where no processing element of the block has
-- yet to stop, and only there
any_not_all : {X : Type 0} (p q : X → Bool) → ((x : X) → p x ≡ true → q x ≡ false) → (xs : List X) → list_any p xs ≡ true → list_all q xs ≡ false
any_not_all p q apart [] some = absurd cc
any_not_all p q apart (x ∷ xs) some = let rest = any_not_all p q apart xs in grind (arith, apart x)

running_not_quiet : (o : Option ProcessingElement) → if_here is_running o ≡ true → or_elsewhere quiet_element o ≡ false
running_not_quiet None running = absurd cc
running_not_quiet (Some e) running = grind arith

module _ (b : Block) (known : IsConsistentBlock b) where
  none_running : HasNoneFrom b.sets.running 0 → list_any (if_here is_running) b.elements.items ≡ false
  none_running none =
      list_any_none (if_here is_running) b.elements.items (All-from_get_or (λ o. if_here is_running o ≡ false) b.elements.items None (λ p within.
      let said = known.facts (element_number b.net p) in
      let here = unit_of_element b.net p (omega (arith, known.elements)) in
      grind (arith, none (element_number b.net p))))

  none_in_running : list_any (if_here is_running) b.elements.items ≡ false → HasNoneFrom b.sets.running 0
  none_in_running none k _ =
      let said = known.facts k in
      let unit = unit_is b.net k in
      grind (arith, known.elements, list_any_at (if_here is_running) b.elements.items (k - element_number b.net 0) None)

  pub stepping_is : (empty : Bool) → ((empty ≡ true) ↔ HasNoneFrom b.sets.running 0) → (not empty ≡ list_any (if_here is_running) b.elements.items) × (not empty ≡ true → quiet_block (seen_of b) ≡ false)
  stepping_is empty is =
      let value : not empty ≡ list_any (if_here is_running) b.elements.items = grind (arith, none_running, none_in_running, is.0, is.1) in
      (value, λ busy. let some = any_not_all (if_here is_running) (or_elsewhere quiet_element) running_not_quiet b.elements.items (sym value ∙ busy) in grind arith)

-- ---- rooms: those that a block notes that is the first to do so
abbrev pub own_rooms : Sets → Rooms
own_rooms s = record { no_reply_room = s.no_reply_room; no_request_room = s.no_request_room }

pub are_own : {b : Block} → IsConsistentBlock b → AreOwnRooms (seen_of b) (own_rooms b.sets)
are_own known = grind (arith, known.facts, none_there 5)

-- ---- where no unit holds anything to send, nothing is sent
module _ {b : Block} (known : IsConsistentBlock b) where
  pub no_replies_sent : (closed : List ℕ) → HasNoneFrom b.sets.holds_replies 0 → seen_of b ≡ after_units (sends_replies closed) 320 (seen_of b)
  no_replies_sent closed none =
      none_to_do (sends_replies closed) (seen_of b) (λ k. sends_no_reply (seen_of b) closed k (let said = known.facts k in let unit = unit_is b.net k in let not_there = none k in grind arith))

  pub no_requests_sent : (closed : Ports (List ℕ)) → HasNoneFrom b.sets.holds_requests 0 → seen_of b ≡ after_units (sends_requests closed) 320 (seen_of b)
  no_requests_sent closed none =
      none_to_do (sends_requests closed) (seen_of b) (λ k. sends_no_request (seen_of b) closed k (let said = known.facts k in let unit = unit_is b.net k in let not_there = none k in grind arith))

-- ---- in a small machine no unit is past the first word of a set
module _ {b : Block} (known : IsConsistentBlock b) (low : 1 ≤ b.net) (high : b.net ≤ 6) (small : IsSmall b.net) where
  none_past : (k : ℕ) → 64 ≤ k → facts_at b.sets k ≡ no_facts
  none_past k past =
      let few = few_units b.net low high small in
      let unit = unit_is b.net k in
      grind (arith, known.facts)

  pub no_reply_held_past : HasNoneFrom b.sets.holds_replies 64
  no_reply_held_past k past = ap UnitFacts.holds_replies (none_past k past)

  pub no_request_held_past : HasNoneFrom b.sets.holds_requests 64
  no_request_held_past k past = ap UnitFacts.holds_requests (none_past k past)

  pub replies_open_past : HasNoneFrom b.sets.no_reply_room 64
  replies_open_past k past = ap UnitFacts.no_reply_room (none_past k past)

  pub requests_open_past : AreOpenFrom 64 b.sets.no_request_room
  requests_open_past = (λ k past. ap UnitFacts.no_room_zero (none_past k past), λ k past. ap UnitFacts.no_room_one (none_past k past))

-- ---- what leads to units elsewhere
-- `away` are the units outside the block to which messages of a kind lead
module _ {M : Type 0} (inlets : ℕ → ℕ → Option (Ports ℕ)) {b : Block} (known : IsConsistentBlock b) (l : LinksState M) (stages : l.stages ≡ b.net) (targets away : List ℕ)
    (are : AreTargets (inlets l.stages) l.stages l.table targets) (rest : (k : ℕ) → has_unit away k ≡ has_unit targets k && not (has_unit b.sets.here k)) where
  pub next_away : (from : ℕ) (o : Option ℕ) → IfSome o (λ k. IsFirstFrom away from k) → IfSome o (λ k. IsNextAway l.table (inlets b.net) (seen_of b) from k)
  next_away from o found = grind (arith, unit_is, known.facts, are.others)
