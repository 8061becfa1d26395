use Rattle.std.proofs.Common.{◌≡◌, ℕ, ◌^◌, ◌<◌, false, sym, ap, ◌∙◌, eqb, inl, inr, arith, eq-eqb, w32}
use Rattle.std.specs.Int.{bit_at, trailing_zeros}
use Rattle.std.proofs.lemmas.{Bool.{cases_eq, eqb-true, true≢false}, Nat.Bits.{bit_at-zero, bit_at-trailing_zeros}}
use Rattle.ultra_pni.specs.Registers.{has_register}
use Rattle.ultra_pni.proofs.registers.RegisterSet.is_empty.Goals as goal

-- of a number that isn't 0 some bit is set
no_register : (word : ℕ) → word < 2 ^ 32 → ((r : ℕ) → has_register word r ≡ false) → word ≡ 0
no_register word fits none = elim (cases_eq word 0) [
  | inl zero ↦ zero
  | inr other ↦
      let lowest = bit_at-trailing_zeros w32 word (omega arith) fits in
      absurd (true≢false (sym (eq-eqb (bit_at word (trailing_zeros w32 word)) 1 lowest.1) ∙ none (trailing_zeros w32 word)))
]

pub returns : goal.returns
returns c = (
  λ zero r.
      let none : c.args.self ≡ 0 = rw (← c.self.view_is) (eqb-true c.self.inside.word 0 zero) in
      ap (λ w. eqb (bit_at w r) 1) none ∙ ap (λ b. eqb b 1) (bit_at-zero r),
  λ none. eq-eqb c.self.inside.word 0 (no_register c.self.inside.word c.self.invariant (rw c.self.view_is none)),
)
