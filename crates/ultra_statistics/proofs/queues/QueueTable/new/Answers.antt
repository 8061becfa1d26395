use Rattle.std.proofs.Common.{refl}
use Rattle.ultra_statistics.proofs.Keeping.{none_in_table}
use Rattle.ultra_statistics.proofs.queues.QueueTable.new.Goals as goal

pub returns-clause-table : goal.returns-clause-table
returns-clause-table c = λ s p. none_in_table s p c.args.from _ refl c.in_ok-empty_counts.ensures c.in_ok-empty_counts-2.ensures c.in_ok-empty_counts-3.ensures c.in_ok-no_combinations.ensures
