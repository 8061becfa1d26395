-- The words and lemmas of the crates below and of this one that proofs here use. Those of std's `Common` come from there.
pub use Rattle.std.proofs.lemmas.Grind.{common_steps}
pub use Rattle.ultra_unit_steps.specs.Prelude.{Combined, Event, Instr, Ports, ReplyMessage, Request, Stop, Switch, SizedLane, SizedReplies, arrive_all, has_stopped, is_fixed, issue_event, present, replies_made, stop_of}
pub use Rattle.ultra_switch.specs.declared.WaitRecord.{WaitRecord}
pub use Rattle.ultra_unit_steps.specs.Halves.{combination_by, combination_in, coming_to, going_by, in_order, are_ports_reversed, lane_with, leaves_by, with_replies}
