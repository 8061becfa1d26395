use Rattle.std.proofs.Common.{◌≡◌, drop}
use Rattle.ultra_msg.specs.declared.sink.SinkFault.{SinkFault}
use Rattle.ultra_msg.proofs.Writing.{IsSoFar}
use Rattle.ultra_sweep.specs.Report.{text_as, texts_from}
use Rattle.ultra_sweep.proofs.reporting.write_jobs.Given as goal

abbrev pub invariant-loop-text : goal.invariant-loop-text
invariant-loop-text g l = record {
  number : l.number ≡ l.text-index;
  wrote : IsSoFar SinkFault (texts_from (text_as l.form) 0 l.gathered) (texts_from (text_as l.form) l.text-index (drop l.text-index l.gathered)) (g.S.Sink.taken l.initial.sink) (g.S.Sink.taken l.sink) (g.S.Sink.failures l.initial.sink) (g.S.Sink.failures l.sink);
}
