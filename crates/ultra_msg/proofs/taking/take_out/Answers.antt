use Rattle.std.proofs.{lemmas.Grind.common_steps, Common.{◌∙◌, ap, get_or, arith}}
use Rattle.ultra_msg.proofs.Moving.{moved_on}
use Rattle.ultra_msg.proofs.taking.take_out.Goals as goal

pub loop-at-preserved : goal.loop-at-preserved
loop-at-preserved g c =
    let read = c.index-deref-at.result in
    moved_on _ c.loop-at.list.items c.deref_mut.result.now _ c.loop-at.at read c.loop-at.invariant (omega arith) (c.index-deref-at.is ∙ ap (λ ys. get_or ys c.loop-at.at read) c.deref-in-loop-at.ensures.0) c.deref_mut.ensures.value

pub loop-at-init : goal.loop-at-init
loop-at-init g c = grind (arith, common_steps)

pub returns-clause-value : goal.returns-clause-value
returns-clause-value g c = grind (arith, common_steps)

pub returns-clause-items : goal.returns-clause-items
returns-clause-items g c = grind (arith, common_steps)
