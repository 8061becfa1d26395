use Rattle.std.proofs.Common.{◌≡◌, ◌+◌, ◌-◌, ◌%◌, refl, sym, arith, rules}
use Rattle.ultra_topology.specs.Set.{word_end}
use Rattle.ultra_holders.proofs.{Bits.{none_from, with_others}, holders.numbered_from.Goals.{then-is_empty, else-is_empty}}
use Rattle.ultra_holders.proofs.holders.numbered_from.Goals as goal

pub returns-then-this-ne0 : goal.returns-then-this-ne0
returns-then-this-ne0 g c =
    let small = c.requires.small (search rules) in
    let none : 0 + c.args.count - (word_end (c.args.base % 64) - c.args.base) ≡ 0 = omega (arith, small) in
    rw none at (with_others c.args.units.now c.args.base 0 (c.args.base % 64) c.args.count c.bits_below.result (omega (arith, small)) c.bits_below.ensures)

pub returns-after-is_empty : goal.returns-after-is_empty
returns-after-is_empty g c =
    let all : c.args.count - 0 ≡ c.args.count = omega arith in
    elim c.if-is_empty.branch [
      | then-is_empty w ↦
          let none = none_from c.args.units.now c.args.base 0 c.args.count (λ k after. c.is_empty.ensures.0 w.if-is_empty.true k (omega arith)) in
          rw w.end-is (sym (rw all at none))
      | else-is_empty w ↦ rw (w.end-is, all) refl
    ]
