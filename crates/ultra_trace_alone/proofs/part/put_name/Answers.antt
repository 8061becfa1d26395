use Rattle.ultra_io.proofs.Writing.{◌then◌}
use Rattle.ultra_trace_alone.proofs.part.put_name.Goals as goal

pub returns : goal.returns
returns g c =
    let word = rw c.word.ensures at c.put-4.ensures in
    c.put.ensures then c.put_number.ensures then c.put-2.ensures then c.put_number-2.ensures then c.put-3.ensures then word then c.put-5.ensures
