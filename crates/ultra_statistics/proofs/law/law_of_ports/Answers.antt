use Rattle.ultra_statistics.proofs.PortLaws.{port_law}
use Rattle.ultra_statistics.proofs.law.law_of_ports.Goals as goal

pub returns : goal.returns
returns c = record { ports = port_law }
