-- The words of the crates below that contracts and definitions here use. Those of std's own prelude
-- come from there.
pub use Rattle.ultra_unit_steps.specs.{Elements.{delivered_to, element_of, element_without, executed, step_at}, Halves.{map_ports, ports, where_room}, Prelude.CanDeliver}
pub use Rattle.ultra_unit_steps.specs.Switches.{after_replies, after_requests, combinations_of, has_reply_room, has_request_room, replies_leaving, request_heads, requests_leaving, without_replies, without_requests}
pub use Rattle.ultra_model.specs.{Machine.{is_nothing, site, size}, Places.{joined, places, present, table}}
pub use Rattle.ultra_model.specs.Phases.{cycle, delivery, issue_event, serving, stop_of, without_reply}
pub use Rattle.ultra_topology.specs.Numbers.{module_number, switch_count, switch_number}
