use Rattle.std.proofs.Common.{◌≡◌, ◌∙◌, ◌<◌, ◌^◌, sym, ap, arith}
use Rattle.std.specs.List.{sum_by}
use Rattle.std.proofs.lemmas.{Bool.lt-ltb, List.take_all}
use Rattle.ultra_condition.specs.Limits.{most_term, most_sum}
use Rattle.ultra_condition.proofs.reading.fits.Goals as goal

pub returns : goal.returns
returns c =
    let all = take_all c.loop-term.term-index c.args.terms.now c.loop-term-test.false in
    let value : c.loop-term.most ≡ most_sum c.args.elements c.args.terms.now = c.loop-term.invariant.value ∙ ap (sum_by (most_term c.args.elements)) all in
    sym (lt-ltb _ _ (omega (arith, c.loop-term.invariant.small, value)))
