use Rattle.std.proofs.Common.{Ok, sym, ◌∙◌, ap, eqb, rules, tests}
use Rattle.std.proofs.lemmas.Iterator.{Consumers.{YieldsList-at, YieldsList-from_enumerate}, Splits.YieldsList-from_slice_split}
use Rattle.ultra_para_run.proofs.Lines.{bad_line, line_more, pes_more, text_is, text_below}
use Rattle.ultra_para_run.proofs.reading.read_schedule.Goals as goal

pub returns-then-not-branch-clause-refused : goal.returns-then-not-branch-clause-refused
returns-then-not-branch-clause-refused c = bad_line c.args.size c.args.bytes.now c.loop-index.yielded _ c.loop-index.yielded_by _ _ c.next.ensures.steps (YieldsList-at c.into_iter-index-iterator.ensures.into_iter_gives (YieldsList-from_enumerate (YieldsList-at c.enumerate-index-items.ensures.source (YieldsList-from_slice_split _ (λ b. eqb b 10) c.args.bytes.now (cc) (cc) (cc) (λ x b q k. search (rules, tests)))) c.enumerate-index-items.ensures.count)) c.in-Some.index c.in-Some.line c.in-Some.is c.loop-index.invariant.words (sym c.in_ok-push_line.ensures.good ∙ c.if-not-branch.true)

pub loop-index-preserved : goal.loop-index-preserved
loop-index-preserved c = record {
  words = line_more c.args.size c.args.bytes.now c.loop-index.yielded _ c.loop-index.yielded_by _ _ c.next.ensures.steps (YieldsList-at c.into_iter-index-iterator.ensures.into_iter_gives (YieldsList-from_enumerate (YieldsList-at c.enumerate-index-items.ensures.source (YieldsList-from_slice_split _ (λ b. eqb b 10) c.args.bytes.now (cc) (cc) (cc) (λ x b q k. search (rules, tests)))) c.enumerate-index-items.ensures.count)) c.in-Some.index c.in-Some.line c.in-Some.is c.loop-index.invariant.words (sym c.in_ok-push_line.ensures.good ∙ c.if-not-branch.false);
  numbers = pes_more c.args.size c.args.bytes.now c.loop-index.yielded _ c.loop-index.yielded_by _ _ c.next.ensures.steps (YieldsList-at c.into_iter-index-iterator.ensures.into_iter_gives (YieldsList-from_enumerate (YieldsList-at c.enumerate-index-items.ensures.source (YieldsList-from_slice_split _ (λ b. eqb b 10) c.args.bytes.now (cc) (cc) (cc) (λ x b q k. search (rules, tests)))) c.enumerate-index-items.ensures.count)) c.in-Some.index c.in-Some.line c.in-Some.is c.loop-index.schedule.items c.push_line.new.schedule.items c.loop-index.invariant.numbers (c.push_line.ensures.pushed (c.in_ok-push_line.was ∙ ap Ok c.if-not-branch.false));
}

pub returns-clause-ok : goal.returns-clause-ok
returns-clause-ok c = text_is c.args.size c.args.bytes.now c.loop-index.yielded _ c.loop-index.yielded_by _ _ c.next.ensures.steps (YieldsList-at c.into_iter-index-iterator.ensures.into_iter_gives (YieldsList-from_enumerate (YieldsList-at c.enumerate-index-items.ensures.source (YieldsList-from_slice_split _ (λ b. eqb b 10) c.args.bytes.now (cc) (cc) (cc) (λ x b q k. search (rules, tests)))) c.enumerate-index-items.ensures.count)) c.in-None.is c.loop-index.schedule.items c.loop-index.invariant.words c.loop-index.invariant.numbers

pub returns-clause-below : goal.returns-clause-below
returns-clause-below c = text_below c.args.size c.args.bytes.now c.loop-index.schedule.items (text_is c.args.size c.args.bytes.now c.loop-index.yielded _ c.loop-index.yielded_by _ _ c.next.ensures.steps (YieldsList-at c.into_iter-index-iterator.ensures.into_iter_gives (YieldsList-from_enumerate (YieldsList-at c.enumerate-index-items.ensures.source (YieldsList-from_slice_split _ (λ b. eqb b 10) c.args.bytes.now (cc) (cc) (cc) (λ x b q k. search (rules, tests)))) c.enumerate-index-items.ensures.count)) c.in-None.is c.loop-index.schedule.items c.loop-index.invariant.words c.loop-index.invariant.numbers)
