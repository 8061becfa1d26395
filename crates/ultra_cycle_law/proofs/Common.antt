-- The words and lemmas of the crates below and of this one that proofs here use. Those of std's `Common` come from there.
pub use Rattle.std.proofs.lemmas.{Bool.Decides.nat_tests, Nat.{div-mul-add, mod-mul-add, mul-add-lt, pow_pos}}
pub use Rattle.ultra_unit_steps.specs.Halves.{both_coming, first_of, going_by, lane_after_reply, lane_with, lane_without, second_of}
pub use Rattle.ultra_mem.specs.Serve.{serve, served}
pub use Rattle.ultra_model.specs.Machine.{Element, module_at, element_at, lane_at, last_stage, replies_at, request_exit}
pub use Rattle.ultra_model.specs.{Ranges.AreInRange, Sound.IsSound}
pub use Rattle.ultra_route.proofs.Table.{Back, back, sizes}
pub use Rattle.ultra_switch.specs.Arrive.{Lane}
pub use Rattle.ultra_topology.specs.Numbers.{link_number, reply_source, request_source}
pub use Rattle.ultra_cycle_law.specs.Prelude.{element_of, joined, places, ports, present, size, switch_count, switch_number, table, where_room}
pub use Rattle.ultra_cycle_law.specs.Course.{Event, Instr, Stop, at_switch, executes, on_links, replies_from, reply_from, reply_to, request_from, request_to, requests_from, sends_replies, sends_requests, serves, takes_replies, takes_requests}
pub use Rattle.ultra_cycle_law.specs.Frame.{AreAlike, AreClosedToReplies, AreClosedToRequests, ModuleState, Frame, Ports, ReplyMessage, Request, Switch, at_port}
pub use Rattle.ultra_cycle_law.specs.Whole.{Fits, IsFrameOf, Machine, Settings, sized_lane, sized_replies}
