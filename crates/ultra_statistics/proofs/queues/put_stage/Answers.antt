use Rattle.ultra_io.proofs.Writing.{writes_nothing}
use Rattle.ultra_trace_text.proofs.Numbered.{writes_number}
use Rattle.ultra_statistics.specs.Rows.{counts_row}
use Rattle.ultra_statistics.proofs.queues.put_stage.Goals as goal

pub loop-position-init : goal.loop-position-init
loop-position-init g c = writes_nothing c.args.buffer.now

pub loop-position-preserved : goal.loop-position-preserved
loop-position-preserved g c = writes_number (counts_row c.args.table.now c.args.end c.args.stage) c.loop-position.position c.loop-position.invariant c.put_port.ensures
