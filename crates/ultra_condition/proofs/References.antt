-- whether one of some places holds a reference to a cell
use Rattle.std.proofs.Common.{◌≡◌, ◌∙◌, ℕ, zero, suc, ◌+◌, ◌≤◌, Bool, true, false, ◌||◌, List, slice_get, refl, sym, ap, subst, inl, inr, arith}
use Rattle.std.proofs.lemmas.Bool.{true≢false, cases_lt}
use Rattle.ultra_isa.specs.declared.Instr.{Instr}
use Rattle.ultra_condition.specs.Grammar.{some_refers, has_reference}
use Rattle.ultra_condition.proofs.Agreement.{or_left}

pub or_false : (a b : Bool) → a ≡ false → b ≡ false → (a || b) ≡ false
or_false true b h k = h
or_false false b h k = k

pub one_more : (is : List Instr) (from n m : ℕ) → m ≡ n + 1 → has_reference is from m ≡ (has_reference is from n || some_refers (slice_get is (from + n)))
one_more is from n m e = let next : m ≡ suc n = omega arith in rw next refl

pub grows : (is : List Instr) (from n m : ℕ) → n ≤ m → has_reference is from n ≡ true → has_reference is from m ≡ true
grows is from n zero le h = let none : n ≡ 0 = omega arith in absurd (true≢false (sym h ∙ ap (λ j. has_reference is from j) none))
grows is from n (suc m) le h = elim (cases_lt m n) [
  | inl above ↦ let all : n ≡ suc m = omega arith in subst (λ j. has_reference is from j ≡ true) all h
  | inr within ↦ or_left _ _ (grows is from n m within h)
]
