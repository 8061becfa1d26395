use Rattle.std.proofs.{Common.{sym, ◌∙◌, rules, tests}, lemmas.Iterator.{Consumers.{YieldsList-at, YieldsList-from_filter}, Splits.YieldsList-from_slice_split}}
use Rattle.ultra_asm.specs.Words.{is_separator}
use Rattle.ultra_para_run.proofs.Lines.{bad_word, word_more, number_more, words_all, numbers_all}
use Rattle.ultra_para_run.proofs.reading.push_line.Goals as goal

pub returns-in_default-clause-good : goal.returns-in_default-clause-good
returns-in_default-clause-good c = sym (bad_word c.args.size c.args.line.now c.before_comment-code.result.now c.before_comment-code.ensures c.loop-word.yielded _ c.loop-word.yielded_by _ _ c.next.ensures.steps (YieldsList-at c.into_iter-word-iterator.ensures.into_iter_gives (YieldsList-from_filter _ _ (YieldsList-from_slice_split _ is_separator c.before_comment-code.result.now (cc) (cc) (cc) (λ x b q k. search (rules, tests))) c.filter-word-items.ensures.closure (λ x r q k. search (rules, tests)))) c.in-Some.word c.in-Some.is (sym c.pe_written.ensures ∙ c.in_default.is))

pub loop-word-preserved : goal.loop-word-preserved
loop-word-preserved c = record {
  words = word_more c.args.size c.args.line.now c.before_comment-code.result.now c.before_comment-code.ensures c.loop-word.yielded _ c.loop-word.yielded_by _ _ c.next.ensures.steps (YieldsList-at c.into_iter-word-iterator.ensures.into_iter_gives (YieldsList-from_filter _ _ (YieldsList-from_slice_split _ is_separator c.before_comment-code.result.now (cc) (cc) (cc) (λ x b q k. search (rules, tests))) c.filter-word-items.ensures.closure (λ x r q k. search (rules, tests)))) c.in-Some.word c.in-Some.is c.in-Some-pe_written.pe (sym c.pe_written.ensures ∙ c.in-Some-pe_written.is) c.loop-word.invariant.words;
  numbers = number_more c.args.size c.args.line.now c.before_comment-code.result.now c.before_comment-code.ensures c.loop-word.yielded _ c.loop-word.yielded_by _ _ c.next.ensures.steps (YieldsList-at c.into_iter-word-iterator.ensures.into_iter_gives (YieldsList-from_filter _ _ (YieldsList-from_slice_split _ is_separator c.before_comment-code.result.now (cc) (cc) (cc) (λ x b q k. search (rules, tests))) c.filter-word-items.ensures.closure (λ x r q k. search (rules, tests)))) c.in-Some.word c.in-Some.is c.in-Some-pe_written.pe (sym c.pe_written.ensures ∙ c.in-Some-pe_written.is) c.args.schedule.now.items c.loop-word.schedule.items c.push.new.self.items c.loop-word.invariant.numbers c.in_ok-push.ensures.items;
}

pub returns-clause-good : goal.returns-clause-good
returns-clause-good c = sym (words_all c.args.size c.args.line.now c.before_comment-code.result.now c.before_comment-code.ensures c.loop-word.yielded _ c.loop-word.yielded_by _ _ c.next.ensures.steps (YieldsList-at c.into_iter-word-iterator.ensures.into_iter_gives (YieldsList-from_filter _ _ (YieldsList-from_slice_split _ is_separator c.before_comment-code.result.now (cc) (cc) (cc) (λ x b q k. search (rules, tests))) c.filter-word-items.ensures.closure (λ x r q k. search (rules, tests)))) c.in-None.is c.loop-word.invariant.words)

pub returns-clause-pushed : goal.returns-clause-pushed
returns-clause-pushed c = λ ok. numbers_all c.args.size c.args.line.now c.before_comment-code.result.now c.before_comment-code.ensures c.loop-word.yielded _ c.loop-word.yielded_by _ _ c.next.ensures.steps (YieldsList-at c.into_iter-word-iterator.ensures.into_iter_gives (YieldsList-from_filter _ _ (YieldsList-from_slice_split _ is_separator c.before_comment-code.result.now (cc) (cc) (cc) (λ x b q k. search (rules, tests))) c.filter-word-items.ensures.closure (λ x r q k. search (rules, tests)))) c.in-None.is c.args.schedule.now.items c.loop-word.schedule.items c.loop-word.invariant.numbers
