use Rattle.ultra_io.proofs.Writing.{◌then◌}
use Rattle.ultra_trace_text.proofs.ending.put_pe.Goals as goal

pub returns : goal.returns
returns g c =
    rw (← c.activity.ensures, ← c.pc.ensures.value)
    (c.put.ensures then c.put_number.ensures then c.put-2.ensures then c.put_activity.ensures then c.put-3.ensures then c.put_count.ensures then c.put_registers.ensures then c.put-4.ensures)
