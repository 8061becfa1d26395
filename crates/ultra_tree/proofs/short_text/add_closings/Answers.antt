use Rattle.std.proofs.Common.{◌++◌, ◌∷◌, [], ap, ◌∙◌, arith}
use Rattle.ultra_tree.proofs.ShortTexts.{one_closing_more}
use Rattle.ultra_tree.proofs.short_text.add_closings.Goals as goal

pub loop-preserved : goal.loop-preserved
loop-preserved c =
    let len = c.loop.invariant.len in
    let more = c.push.ensures.len in
    record {
      items = c.push.ensures.items ∙ (ap (λ t. t ++ 93 ∷ []) c.loop.invariant.items ∙ one_closing_more c.args.text.now.items c.loop.counter);
      len = omega (arith, len, more);
    }
