-- a fault that is passed on
use Rattle.std.proofs.Common.{◌≡◌, ap}
use Rattle.std.specs.{Prelude.{Result, Ok, Err}, Result.{IsErr, IsErrAnd}}
use Rattle.ultra_asm.specs.declared.AsmFaultKind.{AsmFaultKind}

module _ {A : Type 0} where
  pub passed_on : (r : Result A AsmFaultKind) (k : AsmFaultKind) → IsErr r × IsErrAnd r (λ e. e ≡ k) → r ≡ Err k
  passed_on (Ok a) k h = absurd h.1
  passed_on (Err e) k h = ap (λ (x : AsmFaultKind). Err x) h.1
