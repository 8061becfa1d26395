use Rattle.std.proofs.Common.{◌^◌}
use Rattle.ultra_io.proofs.Writing.{writes_nothing}
use Rattle.ultra_model.specs.Trace.{by_number}
use Rattle.ultra_trace_text.proofs.Numbered.{writes_number}
use Rattle.ultra_statistics.specs.Rows.{counts_row}
use Rattle.ultra_statistics.proofs.queues.put_rows.Goals as goal

pub loop-stage-init : goal.loop-stage-init
loop-stage-init g c = writes_nothing c.args.buffer.now

pub loop-stage-preserved : goal.loop-stage-preserved
loop-stage-preserved g c = writes_number (λ s. by_number (2 ^ c.args.config.now.stages) (counts_row c.args.table.now c.args.end s)) c.loop-stage.stage c.loop-stage.invariant (rw c.net-net.ensures at c.put_stage.ensures)
