use Rattle.std.proofs.Common.{◌+◌, ◌<◌, length, ap, subst, drop}
use Rattle.ultra_msg.specs.declared.sink.SinkFault.{SinkFault}
use Rattle.ultra_msg.proofs.Writing.{IsSoFar, so_far_more, so_far_failed}
use Rattle.ultra_sweep.specs.Report.{text_as, texts_from}
use Rattle.ultra_sweep.proofs.JobTexts.{next_of}
use Rattle.ultra_sweep.proofs.reporting.write_jobs.Goals as goal

pub returns-in_err-write_job : goal.returns-in_err-write_job
returns-in_err-write_job g c =
    let texts = c.args.gathered.now in
    let written = text_as c.args.form in
    let k = c.loop-text.text-index in
    let below : k < length c.gathered.inside.texts.items = rw c.deref-text-items.ensures.value at c.loop-text-test.true in
    let next = next_of written texts c.gathered.inside.texts.items k c.loop-text.number c.text-item.result c.as_slice.result.now c.gathered.view_is below (rw c.deref-text-items.ensures.value at c.text-item.is) c.as_slice.ensures.value c.loop-text.invariant.number in
    let so_far = subst (λ rest. IsSoFar SinkFault (texts_from written 0 texts) rest (g.S.Sink.taken c.args.sink.now) (g.S.Sink.taken c.loop-text.sink) (g.S.Sink.failures c.args.sink.now) (g.S.Sink.failures c.loop-text.sink)) next c.loop-text.invariant.wrote in
    so_far_failed (written c.loop-text.number c.as_slice.result.now) (texts_from written (k + 1) (drop (k + 1) texts)) c.from_residual.result c.from_residual.ensures.0 so_far c.in_err-write_job.ensures

pub loop-text-preserved : goal.loop-text-preserved
loop-text-preserved g c =
    let texts = c.args.gathered.now in
    let written = text_as c.args.form in
    let k = c.loop-text.text-index in
    let below : k < length c.gathered.inside.texts.items = rw c.deref-text-items.ensures.value at c.loop-text-test.true in
    let next = next_of written texts c.gathered.inside.texts.items k c.loop-text.number c.text-item.result c.as_slice.result.now c.gathered.view_is below (rw c.deref-text-items.ensures.value at c.text-item.is) c.as_slice.ensures.value c.loop-text.invariant.number in
    let so_far = subst (λ rest. IsSoFar SinkFault (texts_from written 0 texts) rest (g.S.Sink.taken c.args.sink.now) (g.S.Sink.taken c.loop-text.sink) (g.S.Sink.failures c.args.sink.now) (g.S.Sink.failures c.loop-text.sink)) next c.loop-text.invariant.wrote in
    record {
      number = ap (λ n. n + 1) c.loop-text.invariant.number;
      wrote = so_far_more (written c.loop-text.number c.as_slice.result.now) (texts_from written (k + 1) (drop (k + 1) texts)) so_far c.in_ok-write_job.ensures;
    }
