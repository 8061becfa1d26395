use Rattle.std.proofs.{lemmas.Grind.common_steps, Common.{◌+◌, length, ap, arith}}
use Rattle.ultra_model.specs.{Machine.{Machine, size}, Balance.total}
use Rattle.ultra_measure.specs.Held.{waiting_in, waiting_out}
use Rattle.ultra_measure.proofs.Keeping.{sum_goes_on}
use Rattle.ultra_measure.proofs.window.Window.note_cycle.Goals as goal

pub note_cycle-answered-requires-clause-few : goal.note_cycle-answered-requires-clause-few
note_cycle-answered-requires-clause-few g c =
    let b = c.args.blocks.now in
    let law = rw c.config.ensures at (c.law_of_few_events.ensures b.program c.args.cycle) in
    omega (arith, law.events, ap (λ (m : Machine). length m.events) c.requires.run)

pub note_cycle-answered-requires-clause-few_stops : goal.note_cycle-answered-requires-clause-few_stops
note_cycle-answered-requires-clause-few_stops g c =
    let b = c.args.blocks.now in
    let law = rw c.config.ensures at (c.law_of_few_events.ensures b.program c.args.cycle) in
    omega (arith, law.stops, ap (λ (m : Machine). length m.stops) c.requires.run)

pub returns-clause-kept : goal.returns-clause-kept
returns-clause-kept g c =
    let b = c.args.blocks.now in
    let old = c.requires.kept in
    let from = c.args.self.now.from in
    let to = c.args.cycle in
    record {
      events = c.note_cycle-answered.ensures.kept;
      latencies = c.note_latencies.ensures.kept;
      elements = c.note_cycle.ensures;
      inputs = sum_goes_on b.config b.program from to c.requires.order b.machine c.requires.run (λ m. total (size b.config) (waiting_in m)) old.inputs c.modules_that_hold-inputs.ensures.value (omega (arith, c.modules_that_hold-inputs.ensures.few)) (ap (λ v. c.args.self.now.inputs + v) c.from.ensures);
      outputs = sum_goes_on b.config b.program from to c.requires.order b.machine c.requires.run (λ m. total (size b.config) (waiting_out m)) old.outputs c.modules_that_hold-outputs.ensures.value (omega (arith, c.modules_that_hold-outputs.ensures.few)) (ap (λ v. c.args.self.now.outputs + v) c.from-2.ensures);
      requests = c.note_cycle-2.ensures;
      replies = c.note_cycle-3.ensures;
      records = c.note_cycle-4.ensures;
    }

pub returns-clause-from : goal.returns-clause-from
returns-clause-from g c = grind (arith, common_steps)

pub returns-clause-table : goal.returns-clause-table
returns-clause-table g c = c.note_latencies.ensures.table
