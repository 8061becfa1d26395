-- the operands are read in order, up to the first that is wrong
use Rattle.std.proofs.Common.{◌≡◌, ◌∙◌, ℕ, ◌<◌, ◌≤◌, List, length, get_or, sym, ap, ap₂, arith}
use Rattle.std.specs.Prelude.{Result, Err}
use Rattle.ultra_asm.specs.{declared.AsmFaultKind.AsmFaultKind, Reading.{both_operands, two_in}}
use Rattle.ultra_asm.proofs.{Refused.passed_on, Counted.two_are, Turns.{Lent, texts}}
use Rattle.ultra_asm.proofs.reading.read_two.Goals as goal

module _ {A B : Type 0} (f : List ℕ → Result A AsmFaultKind) (g : List ℕ → Result B AsmFaultKind) where
  first_wrong : (os : List Lent) (d : Lent) (k : AsmFaultKind) → 2 ≤ length os → length os < 3 → (p : Result A AsmFaultKind) → p ≡ f ((get_or os 0 d).now) → p ≡ Err k → Err k ≡ two_in f g (texts os)
  first_wrong os d k l h p is is' = sym (ap (λ (xs : List Lent). two_in f g (texts xs)) (two_are os d d l h) ∙ ap (λ (r : Result A AsmFaultKind). both_operands r (g ((get_or os 1 d).now))) (sym is ∙ is'))

  both_read : (os : List Lent) (d e : Lent) (r : Result A AsmFaultKind) (s : Result B AsmFaultKind) → 2 ≤ length os → length os < 3 → (p : Result A AsmFaultKind) → p ≡ f ((get_or os 0 d).now) → p ≡ r → (q : Result B AsmFaultKind) → q ≡ g ((get_or os 1 e).now) → q ≡ s → both_operands r s ≡ two_in f g (texts os)
  both_read os d e r s l h p is is' q are are' = sym (ap (λ (xs : List Lent). two_in f g (texts xs)) (two_are os d e l h) ∙ ap₂ (λ (r : Result A AsmFaultKind) (s : Result B AsmFaultKind). both_operands r s) (sym is ∙ is') (sym are ∙ are'))

pub returns-in_err-read-in-len2 : goal.returns-in_err-read-in-len2
returns-in_err-read-in-len2 g c =
    let gives = passed_on c.from_residual.result c.in_err-read-in-len2.field-0.0 c.from_residual.ensures in
    gives ∙ first_wrong _ _ c.args.operands.now _ _ (omega arith) (omega arith) _ c.read.ensures c.in_err-read-in-len2.was

pub returns-in_err-read-in-len2-2 : goal.returns-in_err-read-in-len2-2
returns-in_err-read-in-len2-2 g c =
    let gives = passed_on c.from_residual-in_err-read-in-len2-2.result c.in_err-read-in-len2-2.field-0.0 c.from_residual-in_err-read-in-len2-2.ensures in
    gives ∙ both_read _ _ c.args.operands.now _ _ _ _ (omega arith) (omega arith) _ c.read.ensures c.in_ok-read-in-len2.was _ c.read-in-len2.ensures c.in_err-read-in-len2-2.was

pub returns-in_ok-read-in-len2-2 : goal.returns-in_ok-read-in-len2-2
returns-in_ok-read-in-len2-2 g c =
    both_read _ _ c.args.operands.now _ _ _ _ (omega arith) (omega arith) _ c.read.ensures c.in_ok-read-in-len2.was _ c.read-in-len2.ensures c.in_ok-read-in-len2-2.was
