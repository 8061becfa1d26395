use Rattle.ultra_io.proofs.Pairs.{pair_is}
use Rattle.ultra_io.proofs.filled_bytes.pair_of.Goals as goal

pub returns : goal.returns
returns c = pair_is c.args.number c.requires
