use Rattle.ultra_example_law.proofs.MachineTickets.{different}
use Rattle.ultra_example_law.proofs.tickets_on_machine.Goals as goal

pub returns : goal.returns
returns c = record { different = different c.paracomputer_law.ensures.sees_paracomputer c.tickets_law.ensures.different }
