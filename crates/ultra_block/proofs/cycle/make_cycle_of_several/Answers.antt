use Rattle.std.proofs.Common.{arith}
use Rattle.ultra_partition.proofs.Whole.{can_execute, can_serve, can_take_replies, can_take_requests, left_cut, left_single, next, stages}
use Rattle.ultra_partition.specs.declared.kind.MessageKind.TheVariants.{Replies, Requests}
use Rattle.ultra_block.proofs.cycle.make_cycle_of_several.Goals as goal

pub exchange-requires : goal.exchange-requires
exchange-requires c = record { cut = left_cut c.requires.whole.1 {kind = Replies} (search stages) c.net-net.ensures; single = left_single c.requires.whole.1 {kind = Replies} (search stages) }

pub make-requires-2 : goal.make-requires-2
make-requires-2 c = (c.requires.whole.0, can_take_replies c.requires.whole.1 (search (arith, stages) fits 4000 depth 9))

pub make-requires-3 : goal.make-requires-3
make-requires-3 c = (c.requires.whole.0, can_serve c.requires.whole.1 (search (arith, stages) fits 4000 depth 9))

pub exchange-requires-2 : goal.exchange-requires-2
exchange-requires-2 c = record { cut = left_cut c.requires.whole.1 {kind = Requests} (search (arith, stages) fits 4000 depth 9) c.net-net.ensures; single = left_single c.requires.whole.1 {kind = Requests} (search (arith, stages) fits 4000 depth 9) }

pub make-requires-5 : goal.make-requires-5
make-requires-5 c = (c.requires.whole.0, can_take_requests c.requires.whole.1 (search (arith, stages) fits 4000 depth 9))

pub make-requires-6 : goal.make-requires-6
make-requires-6 c = (c.requires.whole.0, can_execute c.requires.whole.1 (search (arith, stages) fits 4000 depth 9) c.requires.counted)

pub returns : goal.returns
returns c = λ program whole. next whole (search (arith, stages) fits 4000 depth 9) c.requires.counted c.make-6.ensures
