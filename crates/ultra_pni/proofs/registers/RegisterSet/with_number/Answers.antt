use Rattle.std.proofs.Common.{◌≡◌, ◌≢◌, ℕ, Bool, true, false, refl, sym, ◌∙◌, inl, inr, arith}
use Rattle.std.specs.{Prelude.{◌||◌, ◌==◌}, Int.w32}
use Rattle.std.proofs.lemmas.{Bool.{cases_eq, Decides.nat_tests}, Nat.Bits.{bit_at_set_same, bit_at_set_other}}
use Rattle.ultra_pni.specs.Registers.{has_register}
use Rattle.ultra_pni.proofs.registers.RegisterSet.with_number.Goals as goal

-- the register that is put into the set is there, and each other one is there as it was before
put : (now was : Bool) (r n : ℕ) → r ≡ n → now ≡ true → now ≡ (was || (r == n))
put now true r n same is = is
put now false r n same is = let e : (r == n) ≡ true = grind (arith, nat_tests) in is ∙ sym e

kept : (now was : Bool) (r n : ℕ) → r ≢ n → now ≡ was → now ≡ (was || (r == n))
kept now true r n other is = is
kept now false r n other is = let e : (r == n) ≡ false = grind (arith, nat_tests) in is ∙ sym e

pub returns : goal.returns
returns c r = elim (cases_eq r c.args.number) [
  | inl same ↦ put _ _ r c.args.number same (rw (same, has_register, bit_at_set_same w32 c.self.inside.word c.args.number (omega arith)) refl)
  | inr other ↦ kept _ _ r c.args.number other (rw (← c.self.view_is, has_register, bit_at_set_other w32 c.self.inside.word c.args.number (omega arith) r other) refl)
]
