use Rattle.std.proofs.{lemmas.Grind.common_steps, Common.{arith, get_or-set_other}}
use Rattle.ultra_block_core.proofs.Common.{combined_alone, combined_both, emptied, emptied_first, emptied_in_turn, none_combined}
use Rattle.ultra_block_core.proofs.take_requests.take_into_switch.Goals as goal
use Rattle.ultra_block_core.proofs.take_requests.take_into_switch.Goals.{then-first_combines-second_combines, else-first_combines-second_combines}

pub returns-clause-switch : goal.returns-clause-switch
returns-clause-switch c = let apart = c.requires.inlets.apart c.requires.is.within in grind (arith, get_or-set_other)

pub returns-clause-events : goal.returns-clause-events
returns-clause-events c =
    let apart = c.requires.inlets.apart c.requires.is.within in
    let first = c.take_request-first_combines in
    let alone = combined_alone c.args.net c.args.stage c.args.index c.args.switch.now c.take-first.result c.take-second.result first.new.to_mm first.ensures.zero first.ensures.one in
    let both = combined_both c.args.net c.args.stage c.args.index c.args.switch.now c.take-first.result c.take-second.result first.new.to_mm first.ensures.zero first.ensures.one in
    elim c.if-first_combines-second_combines.branch [
      | then-first_combines-second_combines b ↦
          let are = both c.args.events.now.items c.take_request-second_combines.new.events.items b.put_in_order.new.events.items (grind arith) (grind arith) (λ front x y is. grind (arith, is)) in
          grind (arith, get_or-set_other)
      | else-first_combines-second_combines b ↦ grind (arith, get_or-set_other, alone)
    ]

pub returns-clause-none : goal.returns-clause-none
returns-clause-none c = let apart = c.requires.inlets.apart c.requires.is.within in grind (arith, get_or-set_other, none_combined)

pub returns-clause-links : goal.returns-clause-links
returns-clause-links c = let apart = c.requires.inlets.apart c.requires.is.within in grind (arith, emptied_in_turn)

pub clear-requires : goal.clear-requires
clear-requires c = grind (arith, emptied, emptied_first)

pub returns-clause-places : goal.returns-clause-places
returns-clause-places c = grind (arith, common_steps)

pub returns-clause-few : goal.returns-clause-few
returns-clause-few c = grind (arith, common_steps)
