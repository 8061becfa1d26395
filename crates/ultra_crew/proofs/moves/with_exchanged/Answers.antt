use Rattle.std.proofs.{Common.arith, lemmas.List.with_items_is}
use Rattle.ultra_crew.proofs.Exchanged.{are_exchanged}
use Rattle.ultra_crew.proofs.moves.with_exchanged.Goals as goal

pub returns : goal.returns
returns c =
    rw (with_items_is c.args.blocks c.exchange.new.blocks (grind arith))
    (are_exchanged c.args.kind c.args.net c.args.partition.now c.args.blocks.items c.exchange.new.blocks c.requires.blocks (rw c.as_mut_slice.ensures.value at c.exchange.ensures.only) c.exchange.ensures.there)
