-- A machine between two cycles settles its blocks, but for what they list of the last one.
use Rattle.std.proofs.Common.{◌≡◌, ℕ, ◌+◌, ◌*◌, ◌^◌, ◌<◌, List, Option, None, length, sym, ◌∙◌, ap, arith, map, replicate}
use Rattle.std.proofs.lemmas.{Bool.Decides.nat_tests, List.{ext_get_or, get_or-map, get_or-replicate, length-map, length-replicate}}
use Rattle.ultra_isa.specs.declared.Instr.{Instr}
use Rattle.ultra_model.specs.Machine.{Machine, Settings, module_at}
use Rattle.ultra_topology.specs.Numbers.{switch_count, switch_number}
use Rattle.ultra_block_core.specs.{Units.{index_of, stage_of}, BlockState.BlockState, Marks.on_link, RepliesSent.without_events}
use Rattle.ultra_block_core.proofs.Standing.{is_switch}
use Rattle.ultra_cycle_law.specs.Frame.{Frame}
use Rattle.ultra_cycle_law.proofs.AtFrame.{memory_module_is, element_is, lane_is, replies_is, size_is}
use Rattle.ultra_partition.specs.{Cut.{block_at, first, frame_of, no_block}, Moments.{AreWhole, machine_in}}
use Rattle.ultra_partition.proofs.{Columns.column_none, Units.{Sort, stands_at, unit}}
use Rattle.ultra_partition.proofs.Units as units
use Rattle.ultra_block.proofs.Seen.{cycles_are}
use Rattle.ultra_crew.proofs.Exchanged.{all_places}
use Rattle.ultra_crew.specs.Start.{element_in, first_block, first_blocks, if_home, state_of, switch_in}

module _ (c : Settings) (program : List Instr) (partition : List ℕ) (n : ℕ) (bs : List BlockState) (w : AreWhole c program partition n bs) where
  abbrev d : ℕ
  d = c.stages

  abbrev f : Frame
  f = frame_of d partition bs

  abbrev m : Machine
  m = machine_in c partition n bs

  -- ---- the units
  switch_is : (i : ℕ) → i < switch_count d → f.switch i ≡ switch_in c m i
  switch_is i h =
      let two = size_is c w.machine.machine.range in
      let at = is_switch d i h in
      let sizes = w.machine.machine.fits.switches i h in
      let own : f.switch (switch_number d (stage_of d i) (index_of d i)) ≡ f.switch i = ap f.switch (sym at.number) in
      grind (arith, lane_is, replies_is)

  module_is : (i : ℕ) → i < 2 ^ d → f.memory_module i ≡ module_at m i
  module_is i h = grind (arith, memory_module_is)

  element_is_so : (p : ℕ) → p < 2 ^ d → f.element p ≡ element_in c m p
  element_is_so p h = grind (arith, element_is)

  -- ---- block k
  module _ (k : ℕ) (within : k < length bs) where
    abbrev b : BlockState
    b = block_at bs k

    entry : {X : Type 0} (sort : Sort X) (at : ℕ → X) → ((i : ℕ) (h : i < sort.count d) → unit sort d partition bs w.machine.blocks.cut i h ≡ at i)
        → (i : ℕ) → i < sort.count d → sort.at b i ≡ if_home partition k (sort.number d) at i
    entry sort at is i h =
        let stands = stands_at sort d partition bs w.machine.blocks.cut i h k within in
        let same = is i h in
        grind (arith, nat_tests)

    empty_entries : {M : Type 0} (links : BlockState → List (Option M)) (count : ℕ) → length (links b) ≡ count → ((l : ℕ) → l < count → first (map (λ b. on_link (links b) l) bs) ≡ None) → links b ≡ replicate count None
    empty_entries links count long clear = ext_get_or None (links b) (replicate count None) (grind (arith, length-replicate)) (λ l h.
        column_none (λ b. on_link (links b) l) bs (clear l (omega (arith, long))) k within ∙ sym (get_or-replicate count l None None (omega (arith, long))))

    block_is : without_events b ≡ first_block (state_of c program partition n bs) k
    block_is =
        let shape = w.machine.blocks.shaped k within in
        let switches = all_places None b.switches (switch_count d) _ shape.switches (entry units.switches (switch_in c m) switch_is) in
        let modules = all_places None b.modules (2 ^ d) _ shape.modules (entry units.modules (module_at m) module_is) in
        let elements = all_places None b.elements (2 ^ d) _ shape.elements (entry units.elements (element_in c m) element_is_so) in
        let replies = empty_entries (λ b. b.replies) ((d + 1) * 2 ^ d) shape.replies w.clear.replies in
        let requests = empty_entries (λ b. b.requests) ((d + 1) * 2 ^ d) shape.requests w.clear.requests in
        grind (arith, cycles_are)

  pub blocks_are : map without_events bs ≡ first_blocks (state_of c program partition n bs)
  unfolding first_blocks
  blocks_are = all_places no_block (map without_events bs) (length bs) _ (length-map bs without_events) (λ k within. get_or-map without_events bs k no_block no_block within ∙ block_is k within)
