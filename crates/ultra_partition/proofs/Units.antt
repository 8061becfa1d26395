-- The units of a machine in its blocks: each is at home, in the block that the partition names, and in no other.
use Rattle.std.proofs.Common.{◌≡◌, ◌≢◌, ℕ, ◌^◌, ◌<◌, ◌≤◌, nat_lt, refl, List, Bool, Option, Some, None, length, sym, ◌∙◌, arith, ◌==◌, ◌&&◌, is_some}
use Rattle.ultra_partition.proofs.Common.{nat_tests, empty_module, switch_count, unit_count, module_number, element_number, own_switch, own_module, is_in_block, if_here, switch_stands, module_stands, element_stands, IsCut, block_at, value_or, home, no_element, no_switch, BlockState, other as other_number, Switch, ModuleState, ProcessingElement, all_below, each_network}
use Rattle.ultra_block_core.specs.BlockState.{own_element}

-- a machine has at most 320 units
pub few_units : (d : ℕ) → 1 ≤ d → d ≤ 6 → unit_count d < 321
unfolding all_below
few_units d low high = let it = each_network (λ d. nat_lt (unit_count d) 321) refl d low high in grind (arith, nat_tests)

-- ---- switches, modules, processing elements
-- units of one sort: what a block has of number i among them, and the number of that among all units
pub record Sort (X : Type 0) : Type 0 where
  pub at : BlockState → ℕ → Option X
  pub nothing : X
  pub number : ℕ → ℕ → ℕ
  pub count : ℕ → ℕ
  pub small : (d i : ℕ) → i < count d → number d i < unit_count d
  pub stand : (d : ℕ) (b : BlockState) → b.stages ≡ d → (i : ℕ) → i < count d → is_in_block (number d i) b ≡ is_some (at b i)

abbrev pub switches : Sort Switch
switches = record {
  at = λ b n. own_switch b.switches n;
  nothing = no_switch;
  number = λ d n. n;
  count = switch_count;
  small = λ d n h. omega arith;
  stand = switch_stands;
}

abbrev pub modules : Sort ModuleState
modules = record {
  at = λ b m. own_module b.modules m;
  nothing = empty_module;
  number = module_number;
  count = λ d. 2 ^ d;
  small = λ d m h. omega arith;
  stand = module_stands;
}

abbrev pub elements : Sort ProcessingElement
elements = record {
  at = λ b p. own_element b.elements p;
  nothing = no_element;
  number = element_number;
  count = λ d. 2 ^ d;
  small = λ d p h. omega arith;
  stand = element_stands;
}

-- ---- unit i of a sort
module _ {X : Type 0} (sort : Sort X) (d : ℕ) (partition : List ℕ) (bs : List BlockState) (cut : IsCut d partition bs) (i : ℕ) (h : i < sort.count d) where
  abbrev n : ℕ
  n = sort.number d i

  abbrev pub unit : X
  unit = value_or sort.nothing (sort.at (block_at bs (home partition n)) i)

  pub home_small : home partition n < length bs
  home_small = cut.homes n (sort.small d i h)

  pub stands_at : (k : ℕ) → k < length bs → is_some (sort.at (block_at bs k) i) ≡ (home partition n == k)
  stands_at k within = sym (sort.stand d (block_at bs k) (cut.stages k within) i h) ∙ cut.stand k n within (sort.small d i h)

  pub at_home : sort.at (block_at bs (home partition n)) i ≡ Some unit
  at_home = let it = stands_at (home partition n) home_small in grind (arith, nat_tests)

  pub away : (k : ℕ) → k < length bs → k ≢ home partition n → sort.at (block_at bs k) i ≡ None
  away k within other = let it = stands_at k within in grind (arith, other_number)

  -- what is in a block is at home there, and is that of the machine
  pub here : (k : ℕ) → k < length bs → (x : X) → sort.at (block_at bs k) i ≡ Some x → (home partition n ≡ k) × (unit ≡ x)
  here k within x is = let it = stands_at k within in grind (arith, nat_tests)

  -- a test of what is in a block is that of the machine's unit, if it is there
  pub if_home : (p : X → Bool) (k : ℕ) → k < length bs → if_here p (sort.at (block_at bs k) i) ≡ ((home partition n == k) && p unit)
  if_home p k within = let is_in_block = stands_at k within in grind (arith, here)
