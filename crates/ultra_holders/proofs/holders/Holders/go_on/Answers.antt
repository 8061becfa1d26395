use Rattle.std.proofs.Common.{◌≡◌, ◌+◌, ◌-◌, sym, ◌∙◌, arith}
use Rattle.ultra_holders.proofs.Bits.{behind_alone, from_first, none_below, none_from, some_bits, with_others}
use Rattle.ultra_holders.proofs.holders.Holders.go_on.Goals as goal

pub returns-in_default-clause-none : goal.returns-in_default-clause-none
returns-in_default-clause-none c =
    let now = c.args.self.now in
    let empty = behind_alone now c.requires ∙ none_from now.units.now now.base now.next now.end c.in_default.ensures.none in
    λ _. (empty, empty)

pub returns-then-number-end-clause-none : goal.returns-then-number-end-clause-none
returns-then-number-end-clause-none c =
    let now = c.args.self.now in
    let empty = behind_alone now c.requires ∙ none_below now.units.now now.base now.next now.end c.in-Some.unit c.in-Some.ensures.some c.if-number-end.true in
    λ _. (empty, empty)

pub returns-clause-some : goal.returns-clause-some
returns-clause-some c =
    let now = c.args.self.now in
    let first = c.in-Some.ensures.some in
    λ _. some_bits now.units.now now.base (c.in-Some.unit - now.base) c.in-Some.unit (now.end - (c.in-Some.unit - now.base)) c.bits_below-self.result (omega (arith, first.after)) c.bits_below-self.ensures (omega arith) first.there

pub returns-clause-same : goal.returns-clause-same
returns-clause-same c =
    let now = c.args.self.now in
    let unit = c.in-Some.unit in
    let first = c.in-Some.ensures.some in
    let number = unit - now.base in
    let end : number + (now.end - number) ≡ now.end = omega arith in
    let all = with_others now.units.now now.base number unit (now.end - number) c.bits_below-self.result (omega (arith, first.after)) c.bits_below-self.ensures in
    λ _. rw end at all ∙ sym (from_first now.units.now now.base now.next now.end unit first c.if-number-end.false) ∙ sym (behind_alone now c.requires)
