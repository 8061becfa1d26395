-- the operands are read in order, up to the first that is wrong
use Rattle.std.proofs.Common.{◌≡◌, ◌∙◌, ℕ, ◌<◌, ◌≤◌, List, length, get_or, sym, ap, ap₂, arith}
use Rattle.std.specs.Prelude.{Result, Ok, Err}
use Rattle.ultra_asm.specs.{declared.AsmFaultKind.AsmFaultKind, Reading.{three_in, all_three_operands}}
use Rattle.ultra_asm.proofs.{Refused.passed_on, Counted.three_are, Turns.{Lent, texts}}
use Rattle.ultra_asm.proofs.reading.read_three.Goals as goal

module _ {A B C : Type 0} (f : List ℕ → Result A AsmFaultKind) (g : List ℕ → Result B AsmFaultKind) (h : List ℕ → Result C AsmFaultKind) where
  first_wrong : (os : List Lent) (d : Lent) (k : AsmFaultKind) → 3 ≤ length os → length os < 4 → (p : Result A AsmFaultKind) → p ≡ f ((get_or os 0 d).now) → p ≡ Err k → Err k ≡ three_in f g h (texts os)
  first_wrong os d k l m p is is' = sym (ap (λ (xs : List Lent). three_in f g h (texts xs)) (three_are os d d d l m) ∙ ap (λ (r : Result A AsmFaultKind). all_three_operands r (g ((get_or os 1 d).now)) (h ((get_or os 2 d).now))) (sym is ∙ is'))

  second_wrong : (os : List Lent) (d e : Lent) (a : A) (k : AsmFaultKind) → 3 ≤ length os → length os < 4 → (p : Result A AsmFaultKind) → p ≡ f ((get_or os 0 d).now) → p ≡ Ok a → (q : Result B AsmFaultKind) → q ≡ g ((get_or os 1 e).now) → q ≡ Err k → Err k ≡ three_in f g h (texts os)
  second_wrong os d e a k l m p is is' q are are' = sym (ap (λ (xs : List Lent). three_in f g h (texts xs)) (three_are os d e d l m) ∙ ap₂ (λ (r : Result A AsmFaultKind) (s : Result B AsmFaultKind). all_three_operands r s (h ((get_or os 2 d).now))) (sym is ∙ is') (sym are ∙ are'))

  all_read : (os : List Lent) (d e i : Lent) (a : A) (b : B) (t : Result C AsmFaultKind) → 3 ≤ length os → length os < 4 → (p : Result A AsmFaultKind) → p ≡ f ((get_or os 0 d).now) → p ≡ Ok a → (q : Result B AsmFaultKind) → q ≡ g ((get_or os 1 e).now) → q ≡ Ok b → (u : Result C AsmFaultKind) → u ≡ h ((get_or os 2 i).now) → u ≡ t → all_three_operands (Ok a) (Ok b) t ≡ three_in f g h (texts os)
  all_read os d e i a b t l m p is is' q are are' u too too' = sym (ap (λ (xs : List Lent). three_in f g h (texts xs)) (three_are os d e i l m) ∙ ap₂ (λ (r : Result A AsmFaultKind) (s : Result B AsmFaultKind). all_three_operands r s (h ((get_or os 2 i).now))) (sym is ∙ is') (sym are ∙ are') ∙ ap (λ (t : Result C AsmFaultKind). all_three_operands (Ok a) (Ok b) t) (sym too ∙ too'))

pub returns-in_err-read-in-len3 : goal.returns-in_err-read-in-len3
returns-in_err-read-in-len3 g c =
    let gives = passed_on c.from_residual.result c.in_err-read-in-len3.field-0.0 c.from_residual.ensures in
    gives ∙ first_wrong _ _ _ c.args.operands.now _ _ (omega arith) (omega arith) _ c.read.ensures c.in_err-read-in-len3.was

pub returns-in_err-read-in-len3-2 : goal.returns-in_err-read-in-len3-2
returns-in_err-read-in-len3-2 g c =
    let gives = passed_on c.from_residual-in_err-read-in-len3-2.result c.in_err-read-in-len3-2.field-0.0 c.from_residual-in_err-read-in-len3-2.ensures in
    gives ∙ second_wrong _ _ _ c.args.operands.now _ _ _ _ (omega arith) (omega arith) _ c.read.ensures c.in_ok-read-in-len3.was _ c.read-in-len3.ensures c.in_err-read-in-len3-2.was

pub returns-in_err-read-in-len3-3 : goal.returns-in_err-read-in-len3-3
returns-in_err-read-in-len3-3 g c =
    let gives = passed_on c.from_residual-in_err-read-in-len3-3.result c.in_err-read-in-len3-3.field-0.0 c.from_residual-in_err-read-in-len3-3.ensures in
    gives ∙ all_read _ _ _ c.args.operands.now _ _ _ _ _ _ (omega arith) (omega arith) _ c.read.ensures c.in_ok-read-in-len3.was _ c.read-in-len3.ensures c.in_ok-read-in-len3-2.was _ c.read-in-len3-2.ensures c.in_err-read-in-len3-3.was

pub returns-in_ok-read-in-len3-3 : goal.returns-in_ok-read-in-len3-3
returns-in_ok-read-in-len3-3 g c =
    all_read _ _ _ c.args.operands.now _ _ _ _ _ _ (omega arith) (omega arith) _ c.read.ensures c.in_ok-read-in-len3.was _ c.read-in-len3.ensures c.in_ok-read-in-len3-2.was _ c.read-in-len3-2.ensures c.in_ok-read-in-len3-3.was
