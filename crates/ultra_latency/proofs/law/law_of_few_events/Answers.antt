use Rattle.ultra_latency.proofs.Few.{few_events}
use Rattle.ultra_latency.proofs.law.law_of_few_events.Goals as goal

pub returns : goal.returns
returns c program n = few_events c.args.config.now c.initial-valid.ensures.valid.range program n
