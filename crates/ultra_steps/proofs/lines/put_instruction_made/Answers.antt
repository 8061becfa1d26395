use Rattle.ultra_io.proofs.Writing.{◌then◌}
use Rattle.ultra_steps.proofs.lines.put_instruction_made.Goals as goal

pub returns-in-Some : goal.returns-in-Some
returns-in-Some g c = rw c.in-Some.is (c.put_instruction.ensures then (rw c.requires.pe at c.put_deed.ensures))
