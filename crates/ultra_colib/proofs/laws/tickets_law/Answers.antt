use Rattle.ultra_colib.proofs.Tickets.{different}
use Rattle.ultra_colib.proofs.laws.tickets_law.Goals as goal

pub returns : goal.returns
returns c = record { different = λ s ranged empty schedule elements. different s ranged empty schedule elements }
