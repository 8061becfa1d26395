use Rattle.ultra_statistics.proofs.Histograms.{none_by_latency, none_counted}
use Rattle.ultra_statistics.proofs.latencies.LatencyCounts.new.Goals as goal

pub returns-clause-table : goal.returns-clause-table
returns-clause-table c = λ p. record {
  table = c.in_ok-table.ensures p;
  by_latency = none_by_latency _ c.new-2.ensures.items;
  counts = none_counted c.args.config.now p c.args.from _ c.new-2.ensures.items;
}
