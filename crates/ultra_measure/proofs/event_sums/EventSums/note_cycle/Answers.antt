use Rattle.std.proofs.Common.{◌+◌, length, ap, arith}
use Rattle.ultra_model.specs.Balance.{count}
use Rattle.ultra_measure.specs.EventKinds.{is_issue, is_delivery, is_act, is_act_of, is_combination, is_combination_in}
use Rattle.ultra_measure.proofs.{Events.count_small, Keeping.sum_goes_on}
use Rattle.ultra_measure.proofs.event_sums.EventSums.note_cycle.Goals as goal

pub add_events-answered-requires-clause-room : goal.add_events-answered-requires-clause-room
add_events-answered-requires-clause-room c =
    let old = c.requires.kept in
    let fits = c.ranges.cycle.fits in
    record {
      issued = omega (arith, old.issued.small, fits);
      answered = omega (arith, old.answered.small, fits);
      acts = omega (arith, old.acts.small, fits);
      combined = omega (arith, old.combined.small, fits);
      combined_in = λ s h. omega (arith, (old.combined_in s h).small, fits);
      acts_of = λ s h. omega (arith, (old.acts_of s h).small, fits);
    }

pub returns-clause-kept : goal.returns-clause-kept
returns-clause-kept c =
    let b = c.args.blocks.now in
    let old = c.requires.kept in
    let from = c.args.from in
    let to = c.args.cycle in
    let es = c.events_of_one.result.now in
    let events = c.events_of_one.ensures in
    let now = c.add_events-answered.ensures.sums in
    record {
      issued = sum_goes_on b.config b.program from to c.requires.order b.machine c.requires.run (λ m. count is_issue m.events) old.issued (ap (count is_issue) events) (omega (arith, count_small is_issue es, ap length events, c.requires.few)) now.issued;
      answered = sum_goes_on b.config b.program from to c.requires.order b.machine c.requires.run (λ m. count is_delivery m.events) old.answered (ap (count is_delivery) events) (omega (arith, count_small is_delivery es, ap length events, c.requires.few)) now.answered;
      acts = sum_goes_on b.config b.program from to c.requires.order b.machine c.requires.run (λ m. count is_act m.events) old.acts (ap (count is_act) events) (omega (arith, count_small is_act es, ap length events, c.requires.few)) now.acts;
      combined = sum_goes_on b.config b.program from to c.requires.order b.machine c.requires.run (λ m. count is_combination m.events) old.combined (ap (count is_combination) events) (omega (arith, count_small is_combination es, ap length events, c.requires.few)) now.combined;
      faults = sum_goes_on b.config b.program from to c.requires.order b.machine c.requires.run (λ m. length m.stops) old.faults (ap length c.stops_of_one-faults.ensures) (omega (arith, ap length c.stops_of_one-faults.ensures, c.requires.few_stops)) (ap (λ v. v + length c.stops_of_one-faults.result.now) now.faults);
      combined_in = λ s h. sum_goes_on b.config b.program from to c.requires.order b.machine c.requires.run (λ m. count (is_combination_in s) m.events) (old.combined_in s h) (ap (count (is_combination_in s)) events) (omega (arith, count_small (is_combination_in s) es, ap length events, c.requires.few)) (now.combined_in s h);
      acts_of = λ s h. sum_goes_on b.config b.program from to c.requires.order b.machine c.requires.run (λ m. count (is_act_of s) m.events) (old.acts_of s h) (ap (count (is_act_of s)) events) (omega (arith, count_small (is_act_of s) es, ap length events, c.requires.few)) (now.acts_of s h);
    }
