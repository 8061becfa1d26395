use Rattle.std.proofs.{Common.{◌^◌, ◌∙◌, arith}, lemmas.Grind.common_steps}
use Rattle.ultra_measure.specs.EventKinds.{is_issue, is_delivery, is_act, is_act_of, is_combination, is_combination_in}
use Rattle.ultra_measure.proofs.{Events.{goes_on, has_room}, Known.{none_answered, one_answered}}
use Rattle.ultra_measure.proofs.event_sums.EventSums.add_events.Goals as goal

pub add-requires : goal.add-requires
add-requires c =
    let at = c.loop-event.event-index in
    let are = c.loop-event.invariant.0 in
    let es = c.args.events.now in
    let here = c.loop-event-test.true in
    let room = c.requires.room in
    record {
      issued = has_room is_issue es at _ c.requires.few here are.issued room.issued;
      answered = has_room is_delivery es at _ c.requires.few here are.answered room.answered;
      acts = has_room is_act es at _ c.requires.few here are.acts room.acts;
      combined = has_room is_combination es at _ c.requires.few here are.combined room.combined;
      combined_in = λ s h. has_room (is_combination_in s) es at _ c.requires.few here (are.combined_in s h) (room.combined_in s h);
      acts_of = λ s h. has_room (is_act_of s) es at _ c.requires.few here (are.acts_of s h) (room.acts_of s h);
    }

pub loop-event-init : goal.loop-event-init
loop-event-init c = (grind (arith, common_steps), none_answered (2 ^ c.args.net) _ c.empty-answered.ensures)

pub loop-event-preserved : goal.loop-event-preserved
loop-event-preserved c =
    let at = c.loop-event.event-index in
    let are = c.loop-event.invariant.0 in
    let es = c.args.events.now in
    let here = c.loop-event-test.true in
    let now = c.add.ensures in (
      record {
        issued = goes_on is_issue es at _ _ here are.issued now.issued;
        answered = goes_on is_delivery es at _ _ here are.answered now.answered;
        acts = goes_on is_act es at _ _ here are.acts now.acts;
        combined = goes_on is_combination es at _ _ here are.combined now.combined;
        faults = now.faults ∙ are.faults;
        combined_in = λ s h. goes_on (is_combination_in s) es at _ _ here (are.combined_in s h) (now.combined_in s h);
        acts_of = λ s h. goes_on (is_act_of s) es at _ _ here (are.acts_of s h) (now.acts_of s h);
      },
      one_answered (2 ^ c.args.net) es at _ _ _ here c.loop-event.invariant.1 now.elements,
    )
