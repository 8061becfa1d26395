use Rattle.std.proofs.Common.{arith}
use Rattle.ultra_block_core.proofs.Known.{are_own, own_rooms, requests_open_past}
use Rattle.ultra_block_core.proofs.block.Block.send_requests_by_own_rooms.Goals as goal

pub returns : goal.returns
returns g c = (own_rooms c.self.inside.sets, rw (c.self.view_is) at (are_own c.self.invariant), c.send_requests_sized.ensures)

pub send_requests_sized-requires-clause-closed : goal.send_requests_sized-requires-clause-closed
send_requests_sized-requires-clause-closed g c = λ is. requests_open_past c.self.invariant (omega arith) (omega arith) (rw (← c.self.view_is) at (c.requires.small is))
