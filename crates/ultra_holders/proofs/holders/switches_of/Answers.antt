use Rattle.std.proofs.Common.{◌≡◌, ◌-◌, ◌/◌, ◌^◌, arith}
use Rattle.ultra_holders.proofs.holders.switches_of.Goals as goal

pub returns : goal.returns
returns g c =
    let half : c.size.result / 2 ≡ 2 ^ (c.args.net - 1) = omega (arith, c.size.ensures.even) in
    rw (← c.switch_number.ensures.value, ← half) c.numbered_from.ensures
