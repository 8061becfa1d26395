-- the lines of the units of a kind, by a walk over those that hold something
use Rattle.std.proofs.Common.{ℕ, ◌≡◌, ◌+◌, ◌<◌, List, [], ◌∷◌, false, arith}
use Rattle.ultra_topology.specs.Set.{has_unit}
use Rattle.ultra_io.specs.{declared.text_buffer.TextBuffer.TextBuffer, TextBuffer.Writes}
use Rattle.ultra_model.specs.Trace.{by_number}
use Rattle.ultra_holders.specs.Holders.{numbers_in}
use Rattle.ultra_holders.proofs.Skipped.{next_small}
use Rattle.ultra_trace_text.proofs.{Skipped.skipped, Yielded.{AreWritten, all_written}}

-- by a walk over those that are in a set the lines of the n units of a kind, whose first has number base among all
module _ (units : List ℕ) (base n : ℕ) {S : Type 0} {taken : S → List ℕ} {failures : S → ℕ} {line : ℕ → List ℕ} {came left : List ℕ} {s t : TextBuffer S}
    (are : AreWritten taken failures line (numbers_in units base n) came left s t) where
  -- the next is one of the kind
  pub next_within : {x : ℕ} {rest : List ℕ} → left ≡ x ∷ rest → x < n
  next_within {x} {rest} next = next_small (λ k. has_unit units (base + k)) n came left rest x are.parts next

  -- in the end all are written, since the others have none
  pub walked : left ≡ [] → ((k : ℕ) → k < n → has_unit units (base + k) ≡ false → line k ≡ []) → Writes taken failures (by_number n line) s t
  walked none silent = rw (skipped (λ k. has_unit units (base + k)) line 0 n (λ k within outside. silent k (omega arith) outside)) at (all_written are none)
