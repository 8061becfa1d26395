-- The words and lemmas of the crates below and of this one that proofs here use. Those of std's `Common` come from there.
pub use Rattle.std.proofs.lemmas.{Bool.{cases_eq, Decides.nat_tests}, Grind.common_steps, List.{append-nil, get_or_default, length-replicate, length-set, set-get_or}}
pub use Rattle.std.specs.Option.{ForSome}
pub use Rattle.ultra_unit_steps.proofs.{Arrivals.arrive_all_no_shorter, Combinations.{all_in_order, combined_alone, combined_both, none_combined}}
pub use Rattle.ultra_unit_steps.proofs.Rests.{faulted_stops, holds_as_before, issued_holds, issued_runs, left_at_rest, went_on}
pub use Rattle.ultra_unit_steps.specs.{Elements.{holds_request, is_at_rest}, Switches.{after_both, combinations_of, combinations_of_both, holds_replies, holds_requests}, declared.elements.ProcessingElement.ProcessingElement}
pub use Rattle.ultra_unit_steps.specs.Halves.{coming_to, first_of, has_none, in_order, lane_with, ports, second_of}
pub use Rattle.ultra_isa.specs.declared.Instr.{Instr}
pub use Rattle.ultra_mem.specs.Serve.{ModuleState}
pub use Rattle.ultra_model.specs.{declared.Stop.Stop, Phases.{arrive_all, combination, combinations, records_left}, Places.{after_leaving, present}}
pub use Rattle.ultra_msg.specs.declared.{Event.Event, ReplyMessage.ReplyMessage, Request.Request}
pub use Rattle.ultra_switch.specs.{Arrive.{Lane, arrive}, declared.{Ports.Ports, Switch.Switch, WaitRecord.WaitRecord}}
pub use Rattle.ultra_topology.proofs.Marks.{Fewer, emptied, emptied_first, emptied_in_turn, fewer_both, fewer_set, no_entry}
pub use Rattle.ultra_topology.proofs.{Readers.{AreRead, are_inlets, replies_read, requests_read}, Standing.{is_switch, unit_is, unit_of_element, unit_of_module, unit_of_switch}}
pub use Rattle.ultra_topology.specs.{Inlets.{AreEmpty, AreTargets, at_both}, Marks.{on_both, on_link, reply_links, request_links}, Numbers.{element_number, module_number, link_number, switch_count, unit_count}, Set.{IsFirstFrom, has_unit}, declared.unit.Unit.Unit}
pub use Rattle.ultra_topology.specs.Units.{IsElement, IsModule, IsUnit, index_of, of_unit, stage_of, unit_of}
pub use Rattle.ultra_block_core.specs.{Away.{IsNextAway, is_in_block}, Execution.{CanExecuteAt, element_executes, executes, executes_own}, Making.{CanMake, after_half, after_own_half}, RepliesSent.sends_replies, RequestsSent.sends_requests, Rooms.AreOwnRooms, Serving.serves, declared.{half.Half.Half, rooms.Rooms.Rooms}}
pub use Rattle.ultra_block_core.specs.BlockState.{AreOthersAtRest, BlockState, HasEventRoom, HasStopRoom, own_element, own_module, most_events, own_switch}
pub use Rattle.ultra_block_core.specs.Holding.{GetsNoReply, GetsNoRequest, HoldsNoReply, HoldsNoRequest, IsAsleep, ServesNothing}
pub use Rattle.ultra_block_core.specs.RepliesTaken.{CanTakeRepliesAt, UnitCanTakeReplies, element_takes_reply, reply_at_element, switch_takes_replies, takes_replies}
pub use Rattle.ultra_block_core.specs.RequestsTaken.{CanTakeRequestsAt, UnitCanTakeRequests, module_takes_request, request_at_module, switch_takes_requests, takes_requests}
pub use Rattle.ultra_block_core.specs.Sets.{AreNoted, IsConsistentBlock, UnitFacts, all_noted, element_facts, facts_at, if_here, module_facts, no_facts, seen_of, switch_facts, would_serve}
