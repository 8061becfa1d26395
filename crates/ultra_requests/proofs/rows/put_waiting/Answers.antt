use Rattle.ultra_io.proofs.Writing.{writes_nothing}
use Rattle.ultra_latency.specs.Open.{row}
use Rattle.ultra_requests.specs.Along.{waiting_text}
use Rattle.ultra_trace_text.proofs.Numbered.{writes_number}
use Rattle.ultra_requests.proofs.rows.put_waiting.Goals as goal

pub loop-pe-init : goal.loop-pe-init
loop-pe-init g c = writes_nothing c.args.buffer.now

pub loop-pe-preserved : goal.loop-pe-preserved
loop-pe-preserved g c = writes_number (λ p. waiting_text p (row c.args.table.now.rows.items p)) c.loop-pe.pe c.loop-pe.invariant (rw c.requests.ensures at c.put_waiting_of.ensures)
