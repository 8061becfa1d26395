use Rattle.ultra_io.proofs.Writing.{◌then◌}
use Rattle.ultra_trace_text.proofs.Listed.{not_zero}
use Rattle.ultra_trace_text.proofs.ending.put_register.Goals as goal

pub returns-then-value-gt0 : goal.returns-then-value-gt0
returns-then-value-gt0 g c =
    rw (not_zero c.args.value _ c.if-value-gt0.true, ← c.index.ensures.value)
    (c.put.ensures then c.put_count.ensures then c.put-then-value-gt0.ensures then c.put_number.ensures)
