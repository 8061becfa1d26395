use Rattle.std.proofs.Common.{◌<◌, ◌^◌, length, ap, ◌∙◌, arith}
use Rattle.ultra_model.specs.{Machine.{Settings, Machine, size}}
use Rattle.ultra_latency.proofs.Deliveries.{length_rows}
use Rattle.ultra_steps.specs.{StepLines.reply_line_at}
use Rattle.ultra_steps.proofs.Cursor.{counted, one_at_most, event_count}
use Rattle.ultra_steps.proofs.Loops.{begins, can_here, copy_here, events_first, goes_on, here, line_here, next_left, none_shown, one_shown}
use Rattle.ultra_steps.proofs.cycle.put_replies.Goals as goal

pub loop-pe-init : goal.loop-pe-init
loop-pe-init g c =
    let b = c.args.blocks.now in
    record {
      few = omega arith;
      events = events_first b.config b.program c.args.cycle c.events_of_one-events.result.now (c.events_of_one-events.ensures ∙ ap (λ (m : Machine). m.events) c.requires.made.state);
      copies = begins b.config _ _ c.args.copies.now c.requires.copies;
      written = none_shown _ _ c.args.is_shown (reply_line_at b.config b.program c.args.cycle) c.args.buffer.now;
    }

pub put_reply_to-requires-clause-can : goal.put_reply_to-requires-clause-can
put_reply_to-requires-clause-can g c =
    let b = c.args.blocks.now in
    let range = rw c.config.ensures at c.initial-valid.ensures.valid.range in
    let count = c.size-pe-end.ensures.value ∙ ap (λ d. 2 ^ d) (c.net.ensures ∙ ap (λ (s : Settings). s.stages) c.config-2.ensures) in
    let h : c.loop-pe.pe < size b.config = omega (arith, count, c.loop-pe-test.true) in
    can_here b.config b.program c.args.cycle range c.loop-pe.pe h c.events_of_one-events.result.now c.loop-pe.next c.loop-pe.invariant.events _ (here b.config _ _ c.loop-pe.pe h c.loop-pe.copies c.loop-pe.invariant.copies c.index-copies-pe.result) c.reply_to-reply.result c.reply_to-reply.ensures

pub put_reply_to-requires-clause-row : goal.put_reply_to-requires-clause-row
put_reply_to-requires-clause-row g c =
    let b = c.args.blocks.now in
    let range = rw c.config.ensures at c.initial-valid.ensures.valid.range in
    let count = c.size-pe-end.ensures.value ∙ ap (λ d. 2 ^ d) (c.net.ensures ∙ ap (λ (s : Settings). s.stages) c.config-2.ensures) in
    let rows = ap length c.requires.table.rows ∙ length_rows b.config range b.program c.args.cycle in
    omega (arith, count, rows, c.loop-pe-test.true)

pub loop-pe-preserved : goal.loop-pe-preserved
loop-pe-preserved g c =
    let b = c.args.blocks.now in
    let n = c.args.cycle in
    let p = c.loop-pe.pe in
    let es = c.events_of_one-events.result.now in
    let are = c.loop-pe.invariant in
    let range = rw c.config.ensures at c.initial-valid.ensures.valid.range in
    let count = c.size-pe-end.ensures.value ∙ ap (λ d. 2 ^ d) (c.net.ensures ∙ ap (λ (s : Settings). s.stages) c.config-2.ensures) in
    let h : c.loop-pe.pe < size c.args.blocks.now.config = omega (arith, count, c.loop-pe-test.true) in
    let reply = c.reply_to-reply.ensures in
    let taken = counted c.reply_to-reply.result c.is_some.result c.from-next.result c.is_some.ensures c.from-next.ensures in
    let at_most = one_at_most c.reply_to-reply.result in
    let copy = here b.config _ _ p h c.loop-pe.copies are.copies c.index-copies-pe.result in
    record {
      few = omega (arith, taken, at_most, are.few);
      events = next_left b.config b.program n range p h es c.loop-pe.next are.events c.from-next.result (taken ∙ ap event_count reply);
      copies = goes_on b.config _ _ p h c.loop-pe.copies are.copies c.put_reply_to.new.copy (copy_here b.config b.program n range p h es c.loop-pe.next are.events _ copy c.reply_to-reply.result reply c.put_reply_to.new.copy c.put_reply_to.ensures.copy);
      written = one_shown _ _ c.args.is_shown (reply_line_at b.config b.program n) p are.written (rw (line_here b.config b.program n range p h es c.loop-pe.next are.events _ copy c.reply_to-reply.result reply c.args.table.now.rows.items c.requires.table.rows) at c.put_reply_to.ensures.writes);
    }
