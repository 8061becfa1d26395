-- what a block knows of its units
use Rattle.std.specs.Prelude.{◌≡◌, ◌≢◌, ℕ, ◌^◌, Bool, false, not, ◌&&◌, ◌||◌, length, Option, Some, None, is_some, vec_capacity}
use Rattle.ultra_block_core.specs.Prelude.{Switch, ModuleState, has_unit, has_reply_room, has_request_room, holds_replies, holds_requests, keeps_records, holds_request, ProcessingElement, switch_count, of_unit}
use Rattle.ultra_block_core.specs.{declared.{sets.Sets.Sets, block.Block.TheInside.Inside as Block}, Quiet.is_running}
use Rattle.ultra_block_core.specs.BlockState.{AreOthersAtRest, BlockState, own_switch, own_module, own_element, most_events, most_stops}

-- what the sets of a block say of one unit
pub record UnitFacts : Type 0 where
  pub here : Bool
  pub holds_replies : Bool
  pub no_reply_room : Bool
  pub holds_requests : Bool
  pub no_room_zero : Bool
  pub no_room_one : Bool
  pub to_serve : Bool
  pub running : Bool
  pub keeps_records : Bool

-- what they say of the unit with a number
abbrev pub facts_at : Sets → ℕ → UnitFacts
facts_at s k = record {
  here = has_unit s.here k;
  holds_replies = has_unit s.holds_replies k;
  no_reply_room = has_unit s.no_reply_room k;
  holds_requests = has_unit s.holds_requests k;
  no_room_zero = has_unit s.no_request_room.zero k;
  no_room_one = has_unit s.no_request_room.one k;
  to_serve = has_unit s.to_serve k;
  running = has_unit s.running k;
  keeps_records = has_unit s.keeps_records k;
}

-- nothing is true of a unit that isn't here
abbrev pub no_facts : UnitFacts
no_facts = record {
  here = false;
  holds_replies = false;
  no_reply_room = false;
  holds_requests = false;
  no_room_zero = false;
  no_room_one = false;
  to_serve = false;
  running = false;
  keeps_records = false;
}

-- whether a module holds a request and no reply
abbrev pub would_serve : ModuleState → Bool
would_serve b = is_some b.inp && not (is_some b.out)

-- whether a unit is here and something is true of it
abbrev pub if_here : {X : Type 0} → (X → Bool) → Option X → Bool
if_here p None = false
if_here p (Some x) = p x

-- what is true of a switch; nothing is, if it isn't here
abbrev pub switch_facts : Option Switch → UnitFacts
switch_facts o = record no_facts {
  here = is_some o;
  holds_replies = if_here holds_replies o;
  no_reply_room = if_here (λ w. not (has_reply_room w)) o;
  holds_requests = if_here holds_requests o;
  no_room_zero = if_here (λ w. not (has_request_room w).zero) o;
  no_room_one = if_here (λ w. not (has_request_room w).one) o;
  keeps_records = if_here keeps_records o;
}

-- of a module
abbrev pub module_facts : Option ModuleState → UnitFacts
module_facts o = record no_facts {
  here = is_some o;
  holds_replies = if_here (λ b. is_some b.out) o;
  holds_requests = if_here (λ b. is_some b.inp) o;
  no_room_zero = if_here (λ b. is_some b.inp) o;
  to_serve = if_here would_serve o;
}

-- of a processing element
abbrev pub element_facts : Option ProcessingElement → UnitFacts
element_facts o = record no_facts {
  here = is_some o;
  holds_requests = if_here holds_request o;
  running = if_here is_running o;
}

-- ---- what is said of a unit once some of it is noted anew. What was said before counts too: `by`
-- is `◌||◌` after messages came, and `◌&&◌` after some left
module _ (by : Bool → Bool → Bool) where
  abbrev pub replies_noted : Switch → UnitFacts → UnitFacts
  replies_noted w f = record f {
    holds_replies = by f.holds_replies (holds_replies w);
    no_reply_room = by f.no_reply_room (not (has_reply_room w));
  }

  abbrev pub requests_noted : Switch → UnitFacts → UnitFacts
  requests_noted w f = record f {
    holds_requests = by f.holds_requests (holds_requests w);
    no_room_zero = by f.no_room_zero (not (has_request_room w).zero);
    no_room_one = by f.no_room_one (not (has_request_room w).one);
  }

  -- of a module
  abbrev pub request_noted : ModuleState → UnitFacts → UnitFacts
  request_noted b f = record f {
    holds_requests = by f.holds_requests (is_some b.inp);
    no_room_zero = by f.no_room_zero (is_some b.inp);
    to_serve = by f.to_serve (would_serve b);
  }

-- of a switch once requests came, where its records may differ
abbrev pub all_noted : Bool → Switch → UnitFacts → UnitFacts
all_noted may_differ w f = record (requests_noted ◌||◌ w f) {
  keeps_records = f.keeps_records || (may_differ && keeps_records w);
}

-- what was said of unit n before gives what is said of it now, and of the others the same is said
pub record AreNoted (n : ℕ) (noted : UnitFacts → UnitFacts) (old now : Sets) : Type 0 where
  pub there : facts_at now n ≡ noted (facts_at old n)
  pub others : (k : ℕ) → k ≢ n → facts_at now k ≡ facts_at old k

-- what contracts see of a block
abbrev pub seen_of : Block → BlockState
seen_of b = record {
  stages = b.net;
  done = b.done;
  program = b.program;
  switches = b.switches.items;
  modules = b.modules.items;
  elements = b.elements.items;
  replies = b.replies.table;
  requests = b.requests.table;
  events = b.events.items;
  stops = b.stops.items;
}

-- the wiring and the links are those of the network, there is an entry for each unit, and the sets
-- say what is true of it. Processing elements that aren't awake are at rest. There is memory for
-- what happens in a cycle, and for no more: a list that asked for memory would have more places
pub record IsConsistentBlock (b : Block) : Type 0 where
  pub network : b.wiring ≡ b.net
  pub switches : length b.switches.items ≡ switch_count b.net
  pub modules : length b.modules.items ≡ 2 ^ b.net
  pub elements : length b.elements.items ≡ 2 ^ b.net
  pub facts :
      (n : ℕ) → facts_at b.sets n
      ≡ of_unit b.net
      (λ s k. switch_facts (own_switch b.switches.items n))
      (λ m. module_facts (own_module b.modules.items m))
      (λ p. element_facts (own_element b.elements.items p))
      no_facts n
  pub rests : AreOthersAtRest b.net b.program b.awake b.elements.items
  pub replies : b.replies.stages ≡ b.net
  pub requests : b.requests.stages ≡ b.net
  pub event_places : vec_capacity b.events ≡ most_events
  pub stop_places : vec_capacity b.stops ≡ most_stops
