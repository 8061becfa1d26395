use Rattle.std.proofs.Common.{arith}
use Rattle.ultra_measure.proofs.Events.{goes_on}
use Rattle.ultra_statistics.specs.Ports.{is_combination_at}
use Rattle.ultra_statistics.proofs.queues.add_combinations.Goals as goal

pub loop-event-init : goal.loop-event-init
loop-event-init c = record {
  places = c.requires.count;
  each = λ s x hs hx. omega arith;
  few = λ k h. omega arith;
}

pub add_combination-requires-clause-room : goal.add_combination-requires-clause-room
add_combination-requires-clause-room c k h = omega (arith, c.loop-event.invariant.few k h, c.loop-event-test.true, c.requires.room k h)

pub loop-event-preserved : goal.loop-event-preserved
loop-event-preserved c =
    let inv = c.loop-event.invariant in
    let now = c.add_combination.ensures in
    record {
      places = now.count;
      each = λ s x hs hx. goes_on (is_combination_at s x) c.args.events.now c.loop-event.event-index _ _ c.loop-event-test.true (inv.each s x hs hx) (now.each s x hs hx);
      few = λ k h. omega (arith, inv.few k h, now.few k h);
    }
