-- A machine that is in one block is dealt to the blocks that a partition names: it stays the same machine.
use Rattle.std.proofs.Common.{◌≡◌, ℕ, ◌+◌, ◌<◌, ◌≤◌, List, [], ◌∷◌, None, length, map, set, arith, get_or-set_same, get_or-set_other, ◌==◌, ◌&&◌, nat_lt, cond, refl, true, All}
use Rattle.std.proofs.lemmas.{Bool.{eq-eqb, Decides.nat_tests}, List.{get_or-replicate, get_or_past, length-replicate, length-set, append-nil}}
use Rattle.ultra_partition.specs.{Merging.merged, Cut.is_partition, Events.{merged_events, merged_stops}}
use Rattle.ultra_topology.proofs.Marks.{length-put_on}
use Rattle.ultra_block_core.specs.Building.{empty_block, with_unit, without_unit}
use Rattle.ultra_cycle_law.proofs.AtFrame.{whole_alike}
use Rattle.ultra_partition.proofs.{Columns.column_empty, Happenings.joined_home, Units.{Sort, elements, modules, switches}}
use Rattle.ultra_partition.proofs.Common.{AreAlike, AreWhole, BlockState, Instr, IsShaped, OfEach, Settings, block_at, by_kind, event_rank, frame_of, value_or, home, machine_in, no_block, put_apart, put_there, is_in_block, stop_rank, unit_count}
use Rattle.ultra_block.specs.{Dealt.IsLastNamed, State.MakeUp}

ruleset moving = (nat_tests, put_there, put_apart, length-set, get_or-set_same, get_or-set_other)

-- ---- blocks of a machine of d stages: its units were in block b, and those with numbers below n
-- have gone to their blocks
module _ (d : ℕ) (partition : List ℕ) (b : BlockState) where
  -- of a sort those are in their blocks, and the others are left
  record SortIsCarried {X : Type 0} (sort : Sort X) (n : ℕ) (left : BlockState) (now : List BlockState) : Type 0 where
    rest : (i : ℕ) → i < sort.count d → n ≤ sort.number d i → sort.at left i ≡ sort.at b i
    there : (k i : ℕ) → k < length now → i < sort.count d
        → sort.at (block_at now k) i ≡ cond (nat_lt (sort.number d i) n && (home partition (sort.number d i) == k)) (sort.at b i) None

  -- block 0 lists what block b listed
  pub record AreCarried (n : ℕ) (left : BlockState) (now : List BlockState) : Type 0 where
    pub few : length now ≤ 64
    pub last : IsLastNamed partition (length now)
    pub named : All (λ (k : ℕ). k < length now) partition
    pub stages : left.stages ≡ d
    pub shaped : OfEach (IsShaped d) now
    rest : (k : ℕ) → k < length now
        → block_at now k ≡ record (empty_block b.stages b.program) { done = b.done; switches = (block_at now k).switches; modules = (block_at now k).modules; elements = (block_at now k).elements; events = (block_at (b ∷ []) k).events; stops = (block_at (b ∷ []) k).stops }
    switches : SortIsCarried switches n left now
    modules : SortIsCarried modules n left now
    elements : SortIsCarried elements n left now

  -- no unit yet
  pub none_carried : (count : ℕ) (e x left : BlockState) (bs : List BlockState) → b.stages ≡ d → All (λ (k : ℕ). k < 64) partition → IsLastNamed partition count → All (λ (k : ℕ). k < count) partition → (length bs ≡ count) × All (λ (y : BlockState). y ≡ e) bs → e ≡ record (empty_block b.stages b.program) { done = b.done }
      → x ≡ record (block_at bs 0) { events = b.events; stops = b.stops } → left ≡ record b { events = left.events; stops = left.stops } → AreCarried 0 left (set bs 0 x)
  none_carried count e x left bs stages few last named are empty is rest = grind (arith, last.1, moving, get_or-replicate, get_or_past, length-replicate)

  -- one unit more
  module _ (n : ℕ) (left : BlockState) (now : List BlockState) (was : AreCarried n left now) (small : n < length partition) where
    abbrev next : List BlockState
    next = set now (home partition n) (with_unit n left (block_at now (home partition n)))

    pub unit_carried : AreCarried (n + 1) (without_unit n left) next
    unit_carried =
        let within = was.named n 0 small in
        let here : IsShaped d (with_unit n left (block_at now (home partition n))) = grind (arith, was.shaped, length-put_on) in
        let switches : SortIsCarried switches (n + 1) (without_unit n left) next = grind (arith, moving) in
        let modules : SortIsCarried modules (n + 1) (without_unit n left) next = grind (arith, moving) in
        let elements : SortIsCarried elements (n + 1) (without_unit n left) next = grind (arith, moving) in
        grind (arith, moving, was.shaped)

-- ---- all units
module _ (c : Settings) (program : List Instr) (was : List ℕ) (n : ℕ) (b : BlockState) (whole : AreWhole c program was n (b ∷ [])) (partition : List ℕ) (left : BlockState) (now : List BlockState)
    (carried : AreCarried c.stages partition b (unit_count c.stages) left now) (count : length partition ≡ unit_count c.stages) where
  module _ {X : Type 0} (sort : Sort X) (there : SortIsCarried c.stages partition b sort (unit_count c.stages) left now) where
    sort_stands : (k : ℕ) → k < length now → (i : ℕ) → i < sort.count c.stages → sort.number c.stages i < unit_count c.stages → is_in_block (sort.number c.stages i) (block_at now k) ≡ (home partition (sort.number c.stages i) == k)
    sort_stands k h i is small =
        grind (arith, nat_tests, whole.machine.blocks.cut.homes, whole.machine.blocks.cut.stand 0, sort.stand c.stages b (whole.machine.blocks.cut.stages 0 (omega arith)), sort.stand c.stages (block_at now k) (carried.shaped k h).stages)

    alike_at : (i : ℕ) → i < sort.count c.stages → value_or sort.nothing (sort.at (block_at now (home partition (sort.number c.stages i))) i) ≡ value_or sort.nothing (sort.at (block_at (b ∷ []) (home was (sort.number c.stages i))) i)
    alike_at i small = grind (arith, nat_tests, eq-eqb, whole.machine.blocks.cut.homes, carried.named, sort.small)

  stand_now : (k : ℕ) → k < length now → (u : ℕ) → u < unit_count c.stages → is_in_block u (block_at now k) ≡ (home partition u == k)
  stand_now k h = by_kind c.stages _ (sort_stands switches carried.switches k h) (sort_stands modules carried.modules k h) (sort_stands elements carried.elements k h) (λ u past small. absurd (omega arith))

  alike : AreAlike c.stages (frame_of c.stages partition now) (frame_of c.stages was (b ∷ []))
  alike = grind (arith, get_or-replicate, column_empty, alike_at switches carried.switches, alike_at modules carried.modules, alike_at elements carried.elements)

  same_merged : {X : Type 0} (list : BlockState → List X) (rank : X → ℕ) (count : ℕ) → list no_block ≡ [] → ((k : ℕ) → k < length now → list (block_at now k) ≡ list (block_at (b ∷ []) k))
      → merged rank count (map list now) ≡ merged rank count (map list (b ∷ []))
  unfolding merged
  same_merged list rank count nothing same = grind (arith, append-nil, get_or_past, joined_home list now 0)

  same_machine : machine_in c partition n now ≡ machine_in c was n (b ∷ [])
  unfolding merged_events merged_stops
  same_machine =
      grind (arith, same_merged (λ x. x.events) (event_rank c.stages) 1280 refl, same_merged (λ x. x.stops) stop_rank 64 refl, whole_alike c whole.machine.machine.range (frame_of c.stages partition now) (frame_of c.stages was (b ∷ [])) alike)

  pub dealt : MakeUp c program partition n (machine_in c was n (b ∷ [])) now
  dealt = grind (arith, whole.in_order 0, stand_now, alike, same_machine)

pub same_cut : {c : Settings} {program : List Instr} {was : List ℕ} {n : ℕ} {bs : List BlockState} {partition : List ℕ} {b left : BlockState} {now : List BlockState} {d u : ℕ} → AreWhole c program was n bs → bs ≡ b ∷ [] → AreCarried d partition b u left now → d ≡ c.stages → u ≡ length partition → is_partition c partition ≡ true
    → MakeUp c program partition n (machine_in c was n bs) now
same_cut {c = c} {partition = partition} whole only carried stages all is =
    let count : length partition ≡ unit_count c.stages = grind (arith, nat_tests) in
    rw only (dealt c _ _ _ _ (rw only at whole) partition _ _ (rw (all, count, stages) at carried) count)
