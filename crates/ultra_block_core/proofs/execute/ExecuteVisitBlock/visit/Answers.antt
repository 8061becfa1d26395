use Rattle.std.proofs.Common.{arith, get_or-set_other}
use Rattle.ultra_block_core.proofs.Visited.{later_element}
use Rattle.ultra_block_core.proofs.execute.ExecuteVisitBlock.visit.Goals as goal

pub returns-in-Some-clause-later : goal.returns-in-Some-clause-later
returns-in-Some-clause-later g c = λ k order can.
    let later = later_element c.args.block.now c.args.unit k c.in-Some.pe order in
    grind (arith, later)

pub returns-in-Some-clause-idle : goal.returns-in-Some-clause-idle
returns-in-Some-clause-idle g c = λ k order asleep q at. let was = asleep q in grind (arith, was, get_or-set_other)
