use Rattle.std.proofs.Common.{arith, below_more}
use Rattle.ultra_partition.proofs.{Moved.{both_moved, gone_until}, Units.few_units}
use Rattle.ultra_partition.proofs.moving.exchange.Goals as goal

pub loop-unit-preserved : goal.loop-unit-preserved
loop-unit-preserved c =
    let known = c.loop-unit.invariant in
    let kept = c.move_messages.ensures.kept in
    record {
      within = omega (arith, c.in-Some.ensures.some.within);
      only = both_moved _ _ _ _ known.only c.move_messages.ensures.only;
      there = λ k before n small. kept k n (known.there k before n small);
      gone = below_more _ _ (λ n before small. kept c.loop-from.from n (gone_until c.args.kind _ _ _ _ _ _ _ _ known.only c.requires.cut (omega arith) c.in-Some.ensures.some.between known.gone n before small)) (rw c.requires.cut.count at c.move_messages.ensures.gone);
    }

pub loop-from-preserved : goal.loop-from-preserved
loop-from-preserved c =
    let known = c.loop-unit.invariant in
    let gone = gone_until c.args.kind _ _ _ _ _ _ _ _ known.only c.requires.cut (omega arith) c.in_default.ensures.none known.gone in
    record { only = known.only; there = below_more _ _ known.there (λ n small. gone n (omega (arith, few_units c.args.net (omega arith) (omega arith))) small) }

pub returns-clause-there : goal.returns-clause-there
returns-clause-there c = λ k n within small. c.loop-from.invariant.there k (omega (arith, c.loop-from.invariant.only.count)) n small
