-- the whole machine that units, given by their numbers, make up
use Rattle.std.specs.Prelude.{◌≡◌, ℕ, ◌/◌, ◌%◌, ◌<◌, ◌≤◌, List, length}
use Rattle.ultra_cycle_law.specs.Prelude.{places, table, size, site, switch_number, switch_count, ports, map_ports, element_of}
use Rattle.ultra_switch.specs.Queues.{SizedLane, SizedReplies, empty_requests, empty_replies}
pub use Rattle.ultra_model.specs.Machine.{Settings, Machine}
use Rattle.ultra_model.specs.{Ranges.AreInRange, Sound.IsSound}
use Rattle.ultra_cycle_law.specs.{Frame.{Frame, at_port, Switch}, Course.{Event, Stop}}

module _ (c : Settings) (f : Frame) where
  -- the queues at position x of stage s
  abbrev pub sized_lane : ℕ → ℕ → SizedLane
  sized_lane s x = at_port (f.switch (switch_number c.stages s (x / 2))).to_mm (x % 2)

  abbrev pub sized_replies : ℕ → ℕ → SizedReplies
  sized_replies s y = at_port (f.switch (switch_number c.stages s (y / 2))).to_pe (y % 2)

  -- the machine that the units make up, with how many cycles it has made and what happened in the
  -- last one
  unfoldable pub whole : ℕ → List Event → List Stop → Machine
  whole n events stops = record {
    lanes = table c.stages (size c) (λ s x. (sized_lane s x).lane);
    replies = table c.stages (size c) (λ s y. (sized_replies s y).replies);
    modules = places (size c) (λ k. f.memory_module k);
    elements = places (size c) (λ p. element_of (f.element p));
    cycles = n;
    events = events;
    stops = stops;
  }

module _ (c : Settings) where
  -- a switch with nothing in it
  abbrev pub empty_switch : Switch
  empty_switch =
      let lane = empty_requests c.request_places c.wait_places in
      let queue = empty_replies c.reply_places in
      record { to_mm = ports lane lane; to_pe = ports queue queue }

  -- each unit has the settings' sizes; after n cycles a processing element has issued at most a
  -- request in each
  pub record Fits (n : ℕ) (f : Frame) : Type 0 where
    pub switches : (k : ℕ) → k < switch_count c.stages
        → (let w = f.switch k in record {
          to_mm = map_ports (λ l. empty_requests l.request_places l.wait_places) w.to_mm;
          to_pe = map_ports (λ q. empty_replies q.places) w.to_pe;
        }) ≡ empty_switch
    pub cells : (k : ℕ) → k < size c → length (f.memory_module k).cells ≡ c.cells
    pub sites : (p : ℕ) → p < size c → (f.element p).processor.site ≡ site c p
    pub most_open : (p : ℕ) → p < size c → (f.element p).interface.most_open ≡ c.most_open
    pub issued : (p : ℕ) → p < size c → (f.element p).issued ≤ n

  -- after n cycles, and with what happened in the last one, the units make up the machine m, which
  -- is sound
  pub record IsFrameOf (n : ℕ) (f : Frame) (events : List Event) (stops : List Stop)
      (m : Machine) : Type 0 where
    pub range : AreInRange c
    pub fits : Fits n f
    pub machine : whole c f n events stops ≡ m
    pub sound : IsSound c m
