-- The words of the crates below that contracts and definitions here use. Those of std's own prelude
-- come from there.
pub use Rattle.std.specs.{List.filter, Option.ForSome}
pub use Rattle.ultra_isa.specs.{Step.{Core, StepResult, has_stopped, step_of}, declared.Instr.Instr}
pub use Rattle.ultra_model.specs.{Machine.{Element, is_nothing}, Places.{after_leaving, present}, declared.Stop.Stop}
pub use Rattle.ultra_model.specs.Phases.{arrive_all, combinations, deliver, issue_event, records_left, replies_made, stepped, stop_of, without_reply}
pub use Rattle.ultra_msg.specs.{Pair.{is_fixed, pair_of}, declared.{Event.{Event, TheVariants.Combined}, ReplyMessage.ReplyMessage, Request.Request}}
pub use Rattle.ultra_pni.specs.Interface.{CanDeliver}
pub use Rattle.ultra_route.specs.Route.{bit_of}
pub use Rattle.ultra_switch.specs.{Queues.{SizedLane, SizedReplies, request_of}, declared.{Ports.Ports, Switch.Switch}}
