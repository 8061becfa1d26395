use Rattle.std.proofs.Common.{◌-◌, arith, ◌≤◌}
use Rattle.ultra_route.proofs.{Bits.low_bit, Table.turn}
use Rattle.ultra_route.proofs.Net.request_port.Goals as goal

pub returns-clause-there : goal.returns-clause-there
returns-clause-there c p hp hm =
    let low : 1 ≤ c.args.self = omega (arith, c.self.view_is) in
    let high : c.args.self ≤ 6 = omega (arith, c.self.view_is) in
    rw c.self.view_is (turn c.args.self c.args.stage p c.args.target low high c.requires hp hm).forth

pub returns-clause-low : goal.returns-clause-low
returns-clause-low c =
    let low : 1 ≤ c.args.self = omega (arith, c.self.view_is) in
    rw c.self.view_is (low_bit c.args.self (c.args.self - 1 - c.args.stage) c.args.target (omega arith))
