-- The words of the crates below that contracts and definitions here use. Those of std's own prelude
-- come from there.
pub use Rattle.std.specs.{List.{list_all, list_any}, Option.ForSome}
pub use Rattle.ultra_unit_steps.specs.Elements.{delivered_to, element_of, element_without, executed, holds_request, is_at_rest, quiet_element, step_at}
pub use Rattle.ultra_unit_steps.specs.{Halves.{lane_without, where_room}, Modules.{module_with, quiet_module}, Prelude.CanDeliver, declared.elements.ProcessingElement.ProcessingElement}
pub use Rattle.ultra_unit_steps.specs.Switches.{CanTakeReplies, CanTakeRequests, HasWay, after_both, after_replies, after_requests, combinations_of, combinations_of_both, first_request, has_reply_room, has_request_room, holds_replies, holds_requests, keeps_records, quiet_switch, replies_leaving, request_heads, requests_leaving, without_replies, without_requests}
pub use Rattle.ultra_isa.specs.{Step.has_stopped, declared.Instr.Instr}
pub use Rattle.ultra_mem.specs.Serve.{ModuleState, serve, served}
pub use Rattle.ultra_model.specs.{Phases.{delivery, issue_event, serving, stop_of, without_reply}, Places.present}
pub use Rattle.ultra_msg.specs.declared.{ReplyMessage.ReplyMessage, Request.Request}
pub use Rattle.ultra_switch.specs.declared.{Ports.Ports, Switch.Switch}
pub use Rattle.ultra_topology.specs.Inlets.{AreEmpty, AreInlets, LeadOn, LeadsTo, link_count, put_on_both, reply_inlets, request_inlets, taken_by_turns}
pub use Rattle.ultra_topology.specs.{Links.put_on, Set.{HasNoneFrom, IsFirstFrom, has_unit}, Visits.after_units, Ways.{places_of, request_targets, request_ways}, declared.unit.Unit.Unit}
pub use Rattle.ultra_topology.specs.Marks.{delivery_link, memory_link, on_both, on_link, ports_in_turn, reply_links, request_links, without_both}
pub use Rattle.ultra_topology.specs.Numbers.{IsSmall, element_number, module_number, link_number, request_target, switch_count}
pub use Rattle.ultra_topology.specs.Units.{IsElement, IsModule, IsSwitch, IsUnit, index_of, of_unit, stage_of, unit_of}
