-- The words and lemmas of the crates below and of this one that proofs here use. Those of std's `Common` come from there.
pub use Rattle.std.proofs.lemmas.{Bool.{Decides.nat_tests, cases_lt}, Grind.common_steps, List.{Elements.{All-from_get_or, All-from_recursion, filter-append}, Folds.{list_any_at, list_any_more, list_any_none}, Sums.{AllPass-from_list_all, list_all-from_AllPass}}}
pub use Rattle.std.proofs.lemmas.List.{append-nil, ext_get_or, get_or-append_right, get_or-map, get_or_append_left, get_or_default, get_or_past, length-map, length-set}
pub use Rattle.std.specs.List.{AllByRecursion, list_all, list_any, range_with_len}
pub use Rattle.ultra_cycle_law.proofs.AtFrame.{at_number, memory_module_is, element_is, joined_next, joined_none, lane_is, number_small, replies_is, same_places}
pub use Rattle.ultra_cycle_law.specs.{Law.{CanTakeReplies, CanTakeRequests}, Course.{Event, Instr, Stop, on_links, pending_head}, Whole.{IsFrameOf, Machine, Settings, sized_lane, sized_replies}}
pub use Rattle.ultra_cycle_law.specs.Frame.{AreAlike, ModuleState, Frame, IsClear, Ports, ProcessingElement, ReplyMessage, Request, Switch}
pub use Rattle.ultra_unit_steps.specs.Elements.{delivered_to, element_of, element_without, executed, quiet_element, step_at}
pub use Rattle.ultra_unit_steps.specs.{Halves.{ports, where_room}, Modules.{module_with, quiet_module}}
pub use Rattle.ultra_unit_steps.specs.Switches.{after_replies, after_requests, combinations_of, has_reply_room, has_request_room, quiet_switch, replies_leaving, request_heads, requests_leaving, without_replies, without_requests}
pub use Rattle.ultra_isa.specs.Step.{has_stopped}
pub use Rattle.ultra_mem.specs.Serve.{empty_module, serve, served}
pub use Rattle.ultra_partition.proofs.Merged.{merged_alone, of_rank_none}
pub use Rattle.ultra_partition.specs.{Merging.of_rank, Events.{event_rank, stop_rank}, Holding.{IsSetOfAll, holds, stage_holds}, Moments.{AreMachine, AreRoomsOfAll, AreWhole, machine_in}}
pub use Rattle.ultra_model.proofs.{Each.{each-append, length-places, places_at}, Neighbours.{itself, other}, Routes.delivered_well}
pub use Rattle.ultra_model.specs.Machine.{Element, module_at, element_at, is_empty, is_quiet, lane_at, replies_at, size}
pub use Rattle.ultra_model.specs.Phases.{combinations, delivery, issue_event, memory_phase, processor_phase, reply_phase, request_phase, serving, stop_of, without_reply}
pub use Rattle.ultra_model.specs.Places.{joined, present}
pub use Rattle.ultra_route.proofs.Table.{all_below_at, sizes}
pub use Rattle.ultra_block_core.proofs.UnitUpdates.{UnitUpdate, UnitUpdates, AllUpdated, AreFair, Seen, update, after_update, all_updated, end_puts, event_entries, list_of, on_links_after, on_one, on_two, stop_entries, switch_puts}
pub use Rattle.ultra_block_core.proofs.{Few.two_combine, Holding.at_switch, Marks.{emptied, emptied_first, length-put_on}, OfKind.{by_kind, element_stands, module_stands, switch_stands, unit_of_none}, Once.same_visits, OwnProgram.made_by_own, Standing.{is_switch, unit_is, unit_of_element, unit_of_module, unit_of_switch}, Visited.same_entry}
pub use Rattle.ultra_block_core.proofs.Put.{has_places, places_of, places_twice, put_apart, put_or, put_there}
pub use Rattle.ultra_block_core.proofs.Readers.{AreRead, are_read, each_network, is_among, leads_there, replies_read, replies_to_switch, reply_reader, reply_to_element, request_reader, request_to_module, requests_read, requests_to_switch}
pub use Rattle.ultra_block_core.specs.{Away.{AllStayWithin, AreEmpty, reply_inlets, request_inlets, is_in_block}, BlockState.{own_module, own_switch}, Execution.{counted, executes}, Holding.{element_holds, holds_at, module_holds, switch_holds}, Making.{after_half, after_own_half}, Quiet.{or_elsewhere, quiet_block}, RepliesSent.{without_events, has_way_from_module, reply_ways, sends_replies}, RepliesTaken.{UnitCanTakeReplies, takes_replies}, RequestsSent.{has_way_from_element, request_ways, sends_requests}, RequestsTaken.{UnitCanTakeRequests, takes_requests}, Rooms.{AreOwnRooms, HasNoted, all_open}, Serving.serves, Sets.if_here, Shape.IsShaped, Units.{IsUnit, index_of, stage_of}, declared.{held.Held.Held, rooms.Rooms.Rooms}}
pub use Rattle.ultra_block_core.specs.Marks.{delivery_link, memory_link, on_both, on_link, reply_links, request_links}
pub use Rattle.ultra_switch.specs.Arrive.{Lane, arrive}
pub use Rattle.ultra_topology.proofs.Set.{none_there}
pub use Rattle.ultra_topology.specs.{Inlets.at_both, Set.has_unit, declared.unit.Unit.Unit}
pub use Rattle.ultra_topology.specs.Numbers.{element_number, module_number, link_number, switch_count, switch_number, unit_count}
pub use Rattle.ultra_partition.specs.Cut.{BlockState, IsCut, block_at, first, frame_of, value_or, home, no_block, no_element, no_switch}
pub use Rattle.ultra_partition.specs.Exchange.{AreSingle, AreThere, HasNoneFor, MessageKind, MessageOf, OnlyMove, Replies, Requests, carried, inlets, message_on, on_each, link_table, with_link_table}
pub use Rattle.ultra_partition.specs.Halves.{AllCanMake, AreBlocks, AreBlocksAfter, AreMerged, AreNamed, AreReady, AreRooms, CanMakeLaw, CanMakeTogether, Execute, Half, HalfLaw, HasHalfRoom, HaveLeft, HaveMade, HaveStopped, InRanks, MergedLaw, OfEach, SendReplies, SendRequests, Serve, TakeReplies, TakeRequests, all_after_half, all_after_own_half, cycles_made, events_in, first_rank, frame_after, listed_before, rank_after}
unfoldable pub use Rattle.{ultra_cycle_law.specs.Whole.whole, ultra_partition.specs.Merging.merged, ultra_model.specs.Phases.cycle, ultra_model.specs.Places.places, ultra_route.proofs.Table.all_below, ultra_block_core.proofs.Once.entries_before, ultra_partition.specs.Events.merged_events, ultra_partition.specs.Events.merged_stops}
