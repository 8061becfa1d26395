-- lines of the items of an iterator or a list, in order
use Rattle.std.proofs.Common.{ℕ, ◌≡◌, ◌+◌, ◌<◌, ◌≤◌, List, [], ◌∷◌, ◌++◌, length, take, get_or, sym, ◌∙◌, ap, append_assoc, append-nil}
use Rattle.std.proofs.lemmas.List.{take_all, take_more}
use Rattle.std.specs.List.{flat_map}
use Rattle.ultra_io.specs.{declared.text_buffer.TextBuffer.TextBuffer, TextBuffer.Writes}
use Rattle.ultra_io.proofs.Writing.{◌then◌, writes_nothing}
use Rattle.ultra_trace_text.proofs.Numbered.{last_line}

-- of all items some came, and their lines are written; the others are left
pub record AreWritten {S X : Type 0} (taken : S → List ℕ) (failures : S → ℕ) (line : X → List ℕ) (all came left : List X) (s t : TextBuffer S) : Type 0 where
  pub written : Writes taken failures (flat_map line came) s t
  pub parts : came ++ left ≡ all

-- at the start none came
pub none_written : {S X : Type 0} {taken : S → List ℕ} {failures : S → ℕ} {line : X → List ℕ} {all left : List X} (s : TextBuffer S) → left ≡ all → AreWritten taken failures line all [] left s s
none_written s is = record { written = writes_nothing s; parts = is }

module _ {S X : Type 0} {taken : S → List ℕ} {failures : S → ℕ} {line : X → List ℕ} {all came left : List X} {s t : TextBuffer S} (are : AreWritten taken failures line all came left s t) where
  -- one more comes
  pub one_more : {u : TextBuffer S} {x : X} {rest : List X} → left ≡ x ∷ rest → Writes taken failures (line x) t u → AreWritten taken failures line all (came ++ x ∷ []) rest s u
  one_more {u} {x} {rest} next w = record {
    written = rw (last_line line came x) (are.written then w);
    parts = append_assoc came (x ∷ []) rest ∙ ap (λ xs. came ++ xs) (sym next) ∙ are.parts;
  }

  -- none is left
  pub all_written : left ≡ [] → Writes taken failures (flat_map line all) s t
  all_written none = rw (sym (append-nil came) ∙ ap (λ xs. came ++ xs) (sym none) ∙ are.parts) at are.written

-- the same of the items of a list, by their places
module _ {S : Type 0} {taken : S → List ℕ} {failures : S → ℕ} {X : Type 0} (line : X → List ℕ) (all : List X) (n : ℕ) where
  pub writes_next : {s t u : TextBuffer S} (d : X) → n < length all → Writes taken failures (flat_map line (take n all)) s t → Writes taken failures (line (get_or all n d)) t u → Writes taken failures (flat_map line (take (n + 1) all)) s u
  writes_next d here v w = rw (take_more all n d here, last_line line (take n all) (get_or all n d)) (v then w)

  -- once none is left all are written
  pub writes_all : {s t : TextBuffer S} {items : List X} → all ≡ items → length all ≤ n → Writes taken failures (flat_map line (take n all)) s t → Writes taken failures (flat_map line items) s t
  writes_all is past v = rw (take_all n all past, is) at v
