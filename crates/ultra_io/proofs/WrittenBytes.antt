-- texts among the bytes of a buffer, in order
use Rattle.std.proofs.Common.{ℕ, List, ◌++◌, take, ◌∙◌, ap, arith, append_assoc, length-append}
use Rattle.ultra_io.specs.FilledBytes.{IsWritten}

infixl 20 ◌next◌
pub ◌next◌ : {a b : List ℕ} {at m n : ℕ} {s t u : List ℕ} → IsWritten a at s t m → IsWritten b m t u n → IsWritten (a ++ b) at s u n
◌next◌ {a} {b} {at} {m} {n} {s} {t} {u} v w = record {
  longer = omega (arith, v.longer, w.longer, length-append a b);
  text = w.text ∙ (ap (λ x. x ++ b) v.text ∙ append_assoc (take at s) a b);
}
