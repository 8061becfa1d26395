use Rattle.std.proofs.Common.{arith}
use Rattle.std.proofs.lemmas.Grind.{common_steps}
use Rattle.ultra_statistics.proofs.counts.add_position.Goals as goal

pub returns : goal.returns
returns c = grind (arith, common_steps, c.seen_at-seen.ensures.held, c.seen_at-seen.ensures.room, c.seen_at-seen.ensures.leaves)
