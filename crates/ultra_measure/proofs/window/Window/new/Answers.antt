use Rattle.std.proofs.Common.{refl}
use Rattle.ultra_model.specs.{Machine.size, Balance.total}
use Rattle.ultra_block.specs.Held.TheVariants.{Reply, Request, Record}
use Rattle.ultra_measure.specs.Held.{waiting_in, waiting_out}
use Rattle.ultra_measure.proofs.{Keeping.nothing_summed, Waiting.no_latencies}
use Rattle.ultra_measure.proofs.window.Window.new.Goals as goal

pub returns-clause-kept : goal.returns-clause-kept
returns-clause-kept c = λ s program same. record {
  events = c.new-events.ensures s program c.args.from;
  latencies = no_latencies s program c.args.from c.new-latencies.result c.new-latencies.ensures.summary c.new-latencies.ensures.small c.new-latencies.ensures.none;
  elements = c.new-elements.ensures s program c.args.from same;
  inputs = nothing_summed s program c.args.from (λ m. total (size s) (waiting_in m)) 0 refl;
  outputs = nothing_summed s program c.args.from (λ m. total (size s) (waiting_out m)) 0 refl;
  requests = c.new-depths.ensures s program c.args.from Request;
  replies = c.new-depths.ensures s program c.args.from Reply;
  records = c.new-depths.ensures s program c.args.from Record;
}
