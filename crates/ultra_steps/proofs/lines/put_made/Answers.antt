use Rattle.ultra_io.proofs.Writing.{◌then◌, ◌moved◌}
use Rattle.ultra_steps.proofs.lines.put_made.Goals as goal

pub returns : goal.returns
returns g c =
    let begun = rw c.requires.pe at c.begin_line-at.ensures.goes_on in
    let place = rw c.pc.ensures.value at c.write_count-at.ensures.goes_on in
    begun then c.write-at.ensures.goes_on then place then c.write-at-2.ensures.goes_on moved c.end.ensures then c.put_instruction_made.ensures then c.put.ensures
