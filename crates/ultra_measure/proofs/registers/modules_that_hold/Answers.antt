use Rattle.std.proofs.Common.{◌^◌, ◌∙◌, ap, length}
use Rattle.ultra_topology.specs.Numbers.{module_number}
use Rattle.ultra_holders.specs.Holders.{numbers_in}
use Rattle.ultra_measure.proofs.ModuleCounts.{holders_counted}
use Rattle.ultra_measure.proofs.registers.modules_that_hold.Goals as goal

pub count_modules-requires : goal.count_modules-requires
count_modules-requires g c = c.requires.net.small

pub returns-clause-value : goal.returns-clause-value
returns-clause-value g c =
    let b = c.args.blocks.now in
    let units = c.holding_of_one.result.now in
    c.count_modules.ensures.value
    ∙ ap (λ d. length (numbers_in units (module_number d 0) (2 ^ d))) c.requires.net.is
    ∙ holders_counted b.config.stages b.machine c.args.held units c.holding_of_one.ensures
