-- a program is careful if each of its ends is
use Rattle.std.proofs.Common.{◌≡◌, ℕ, zero, suc, ◌+◌, List, [], ◌∷◌, drop, true, false, refl, arith, ◌∙◌, ap}
use Rattle.std.specs.Prelude.{slice_get, ◌&&◌, ◌||◌, not}
use Rattle.ultra_isa.specs.declared.Instr.{Instr}
use Rattle.ultra_para.specs.Careful.{refers_to_cell, is_some_fence, begins_with_fence, is_careful, is_fenced_pc}

begins : (is : List Instr) → begins_with_fence is ≡ is_some_fence (slice_get is 0)
begins [] = refl
begins (i ∷ is) = refl

pub careful_from : (xs : List Instr) (k : ℕ) → is_careful (drop k xs) ≡ (is_fenced_pc xs k && is_careful (drop (k + 1) xs))
careful_from [] zero = refl
careful_from [] (suc k) = let next : suc k + 1 ≡ suc (k + 1) = omega arith in rw next refl
careful_from (i ∷ is) zero = ap (λ b. (not (refers_to_cell i) || b) && is_careful is) (begins is)
careful_from (i ∷ is) (suc k) =
    let next : suc k + 1 ≡ suc (k + 1) = omega arith in
    rw next (careful_from is k)

pub careful_on : (xs : List Instr) (k : ℕ) → is_fenced_pc xs k ≡ true → is_careful (drop k xs) ≡ is_careful (drop (k + 1) xs)
careful_on xs k h = careful_from xs k ∙ ap (λ b. b && is_careful (drop (k + 1) xs)) h

pub careless : (xs : List Instr) (k : ℕ) → is_fenced_pc xs k ≡ false → is_careful (drop k xs) ≡ false
careless xs k h = careful_from xs k ∙ ap (λ b. b && is_careful (drop (k + 1) xs)) h
