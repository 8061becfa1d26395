use Rattle.std.proofs.Common.{◌≡◌, ◌∙◌, ◌+◌, ◌-◌, true, false, slice_get, refl, sym, ap, inl, inr, arith}
use Rattle.std.proofs.lemmas.Bool.{cases_lt}
use Rattle.ultra_condition.specs.Grammar.{some_refers, has_reference}
use Rattle.ultra_condition.proofs.{Agreement.or_right, References.{or_false, one_more, grows}}
use Rattle.ultra_condition.proofs.scope.refers_between.Goals as goal

pub returns-then-refers_at : goal.returns-then-refers_at
returns-then-refers_at c =
    let is = c.args.program.now in
    let from = c.args.from in
    let k = c.loop-pc.pc - from in
    let at : c.from.result ≡ from + k = omega (arith, c.from.ensures) in
    let refers : some_refers (slice_get is (from + k)) ≡ true = ap (λ n. some_refers (slice_get is n)) (sym at) ∙ sym c.refers_at.ensures ∙ c.if-refers_at.true in
    let more : has_reference is from (k + 1) ≡ true = one_more is from k (k + 1) refl ∙ or_right _ _ refers in
    sym (grows is from (k + 1) (c.args.to - from) (omega arith) more)

pub loop-pc-preserved : goal.loop-pc-preserved
loop-pc-preserved c =
    let is = c.args.program.now in
    let from = c.args.from in
    let k = c.loop-pc.pc - from in
    let at : c.from.result ≡ from + k = omega (arith, c.from.ensures) in
    let none : some_refers (slice_get is (from + k)) ≡ false = ap (λ n. some_refers (slice_get is n)) (sym at) ∙ sym c.refers_at.ensures ∙ c.if-refers_at.false in
    one_more is from k (c.loop-pc.pc + 1 - from) (omega arith) ∙ or_false _ _ c.loop-pc.invariant none

pub returns : goal.returns
returns c =
    let is = c.args.program.now in
    let from = c.args.from in
    elim (cases_lt c.args.to from) [
      | inl above ↦ let none : c.args.to - from ≡ 0 = omega arith in sym (ap (λ n. has_reference is from n) none)
      | inr within ↦
          let all : c.args.to - from ≡ c.loop-pc.pc - from = omega (arith, within) in
          sym (ap (λ n. has_reference is from n) all ∙ c.loop-pc.invariant)
    ]
