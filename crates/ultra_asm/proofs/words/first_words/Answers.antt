use Rattle.std.proofs.{Common.{rules, tests}, lemmas.Iterator.{YieldsList-from_take, Consumers.{map_from_collect, YieldsList-at, YieldsList-from_filter}, Splits.YieldsList-from_slice_split}}
use Rattle.ultra_asm.specs.Words.{is_separator}
use Rattle.ultra_asm.proofs.words.first_words.Goals as goal

pub returns : goal.returns
returns c =
    rw (← c.before_comment.ensures) (map_from_collect _ c.collect.ensures.ran (YieldsList-from_take 6 (YieldsList-at c.take.ensures.source (YieldsList-from_filter _ _ (YieldsList-from_slice_split _ is_separator c.before_comment.result.now (cc) (cc) (cc) (λ x b q k. search (rules, tests))) c.filter.ensures.closure (λ x r q k. search (rules, tests)))) c.take.ensures.count))
