-- The words and lemmas of the crates below and of this one that proofs here use. Those of std's `Common` come from there.
pub use Rattle.std.proofs.lemmas.{Bool.{cases_lt, eqb-true, Decides.nat_tests}, List.{get_or-replicate, get_or_past, length-replicate, length-set, set_comm}}
pub use Rattle.ultra_route.proofs.Table.{all_below_at, sizes}
pub use Rattle.ultra_switch.specs.declared.Ports.{Ports}
pub use Rattle.ultra_topology.specs.Inlets.{AreInlets, AreTargets, LeadOn, LeadsTo, LeadsToNoOther, at_both, link_count, reply_inlets, request_inlets}
unfoldable pub use Rattle.ultra_topology.specs.Inlets.{IsInletOf}
pub use Rattle.ultra_topology.specs.{Links.put_on, Visits.{HasCome, IsWalk, comes_to}, declared.pass.Walk.Walk}
pub use Rattle.ultra_topology.specs.Marks.{delivery_link, memory_link, on_link, ports_in_turn, reply_links, request_links, without_both}
pub use Rattle.ultra_topology.specs.Numbers.{element_number, module_number, link_number, reply_target, request_target, switch_count, switch_number, unit_count}
pub use Rattle.ultra_topology.specs.Set.{AreBits, AreSameBut, HasNoneFrom, HasNoneWithin, IsFirstOf, has_bit, has_unit, word_end}
pub use Rattle.ultra_topology.specs.Units.{IsElement, IsModule, IsSwitch, IsUnit, index_of, stage_of, unit_of}
