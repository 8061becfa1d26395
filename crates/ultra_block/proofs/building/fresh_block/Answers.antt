use Rattle.std.proofs.{lemmas.Grind.common_steps, Common.{◌≡◌, arith}}
use Rattle.ultra_cycle_law.specs.Whole.{empty_switch}
use Rattle.ultra_block.specs.Fresh.{first_element, first_module}
use Rattle.ultra_block.proofs.Built.{is_fresh, row_put}
use Rattle.ultra_block.proofs.building.fresh_block.Goals as goal

pub returns : goal.returns
returns c = is_fresh _ _ c.initial-initial.ensures.valid.range _ (grind arith)

pub loop-number-preserved : goal.loop-number-preserved
loop-number-preserved c =
    let empty : c.in_ok-switch.switch ≡ empty_switch c.args.config.now = grind arith in
    let row = row_put _ _ _ _ _ c.loop-number.invariant.switches (grind arith) empty in
    grind arith

pub returns-in_err-block : goal.returns-in_err-block
returns-in_err-block c = grind (arith, common_steps)

pub loop-number-init : goal.loop-number-init
loop-number-init c = grind (arith, common_steps)

pub returns-in_err-switch : goal.returns-in_err-switch
returns-in_err-switch c = grind (arith, common_steps)

pub loop-number-2-init : goal.loop-number-2-init
loop-number-2-init c = grind (arith, common_steps)

pub returns-in_err-new_module : goal.returns-in_err-new_module
returns-in_err-new_module c = grind (arith, common_steps)

pub loop-number-2-preserved : goal.loop-number-2-preserved
loop-number-2-preserved c =
    let first : c.in_ok-new_module.field-0 ≡ first_module c.args.config.now c.loop-number-2.number = grind arith in
    let row = row_put _ _ _ _ _ c.loop-number-2.invariant.modules (grind arith) first in
    grind arith

pub loop-pe-preserved : goal.loop-pe-preserved
loop-pe-preserved c =
    let first : c.new_element.result ≡ first_element c.args.config.now c.loop-pe.pe = grind arith in
    let row = row_put _ _ _ _ _ c.loop-pe.invariant.elements (grind arith) first in
    grind arith
