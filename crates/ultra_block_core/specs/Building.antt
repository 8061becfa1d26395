-- a block without units, and units that go from one block to another
use Rattle.std.specs.Prelude.{ℕ, ◌+◌, ◌*◌, ◌^◌, List, [], None, replicate, slice_set}
use Rattle.ultra_block_core.specs.{Prelude.{Instr, switch_count, unit_of, put_on}, BlockState.{BlockState, own_switch, own_module, own_element}}
use Rattle.ultra_topology.specs.declared.unit.Unit.TheVariants as unit

-- of a machine of d stages that runs this program, before its first cycle
abbrev pub empty_block : ℕ → List Instr → BlockState
empty_block d program = record {
  stages = d;
  done = 0;
  program = program;
  switches = replicate (switch_count d) None;
  modules = replicate (2 ^ d) None;
  elements = replicate (2 ^ d) None;
  replies = replicate ((d + 1) * 2 ^ d) None;
  requests = replicate ((d + 1) * 2 ^ d) None;
  events = [];
  stops = [];
}

-- a block without the unit with number n
abbrev pub without_unit : ℕ → BlockState → BlockState
without_unit n b = elim (unit_of b.stages n) [
  | unit.Switch s k ↦ record b { switches = slice_set b.switches n None }
  | unit.Module m ↦ record b { modules = slice_set b.modules m None }
  | unit.Element p ↦ record b { elements = slice_set b.elements p None }
  | unit.Nothing ↦ b
]

-- block `b` with the unit with number n of block `from`, if `from` has it
abbrev pub with_unit : ℕ → BlockState → BlockState → BlockState
with_unit n from b = elim (unit_of from.stages n) [
  | unit.Switch s k ↦ record b { switches = put_on b.switches n (own_switch from.switches n) }
  | unit.Module m ↦ record b { modules = put_on b.modules m (own_module from.modules m) }
  | unit.Element p ↦ record b { elements = put_on b.elements p (own_element from.elements p) }
  | unit.Nothing ↦ b
]
