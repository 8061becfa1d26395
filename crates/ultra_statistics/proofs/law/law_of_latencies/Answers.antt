use Rattle.ultra_statistics.proofs.PortLaws.{latency_law}
use Rattle.ultra_statistics.proofs.law.law_of_latencies.Goals as goal

pub returns : goal.returns
returns c = record { latencies = latency_law }
