-- The words of the crates below that contracts and definitions here use. Those of std's own prelude
-- come from there.
pub use Rattle.std.specs.{List.list_all, Option.ForSome}
pub use Rattle.ultra_cycle_law.specs.Course.{Event, Instr, Stop, combinations, delivery_events, executes, issues, reply_to, sends_replies, sends_requests, serves, servings, stops, takes_replies, takes_requests}
pub use Rattle.ultra_cycle_law.specs.Frame.{AreAlike, AreClosedToReplies, AreClosedToRequests, Frame, IsClear, Ports, ProcessingElement, ReplyMessage, Request, Switch}
pub use Rattle.ultra_cycle_law.specs.{Law.{CanExecute, CanTakeReplies, CanTakeRequests}, Whole.{IsFrameOf, Machine, Settings, whole}}
pub use Rattle.ultra_unit_steps.specs.Halves.{has_none, ports}
pub use Rattle.ultra_isa.specs.Step.{fresh_core}
pub use Rattle.ultra_mem.specs.Serve.{empty_module}
pub use Rattle.ultra_partition.specs.Merging.{IsRanked, merged, of_rank}
pub use Rattle.ultra_model.specs.{Machine.{Element, module_at, is_quiet, lane_at, replies_at}, Places.joined}
pub use Rattle.ultra_msg.specs.declared.Event.TheVariants.{Combined, Delivered, Issued, Served}
pub use Rattle.ultra_pni.specs.Interface.{empty_interface}
pub use Rattle.ultra_block_core.specs.Away.{AllStayWithin, AreEmpty, IsNextAway, put_on_both, reply_inlets, request_inlets, is_in_block, taken_by_turns}
pub use Rattle.ultra_block_core.specs.{BlockState.{own_element, own_module, most_events, own_switch}, Building.empty_block, Holding.{IsSetOf, module_holds}, Making.{CanMake, after_half, after_own_half}, Marks.{on_link, without_both}, Shape.IsShaped, Units.of_unit, declared.{held.Held.Held, rooms.Rooms.Rooms}}
pub use Rattle.ultra_switch.specs.Queues.{empty_replies, empty_requests}
pub use Rattle.ultra_topology.specs.Numbers.{element_number, module_number, switch_number, unit_count}
