use Rattle.ultra_latency.proofs.OpenLaw.{open_law}
use Rattle.ultra_latency.proofs.law.law_of_open_requests.Goals as goal

pub returns : goal.returns
returns c program n = open_law c.args.config.now c.initial-valid.ensures.valid.range program n
