use Rattle.std.proofs.Common.{◌-◌, ◌^◌, ◌<◌, ◌++◌, ap, arith}
use Rattle.ultra_holders.specs.Holders.{numbers_from}
use Rattle.ultra_holders.proofs.Bits.{first_number}
use Rattle.ultra_holders.proofs.holders.Holders.take_first.Goals as goal

pub returns : goal.returns
returns c =
    let now = c.args.self.now in
    let fits : now.bits < 2 ^ 64 = omega arith in
    rw c.from.ensures (ap (λ xs. xs ++ numbers_from now.units.now now.base now.next (now.end - now.next)) (first_number now.bits now.from c.requires fits))
