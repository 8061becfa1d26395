-- a text whose rest is still to be written in a buffer
use Rattle.std.proofs.Common.{ℕ, ◌≡◌, List, [], ◌++◌, refl, sym, ◌∙◌, append_assoc}
use Rattle.ultra_io.specs.{declared.text_buffer.TextBuffer.TextBuffer, TextBuffer.Writes}
use Rattle.ultra_io.proofs.Writing.{◌then◌, writes_nothing}

pub record IsOnPage {S : Type 0} (taken : S → List ℕ) (failures : S → ℕ) (text rest : List ℕ) (old new : TextBuffer S) : Type 0 where
  pub part : List ℕ
  pub split : text ≡ part ++ rest
  pub writes : Writes taken failures part old new

module _ {S : Type 0} {taken : S → List ℕ} {failures : S → ℕ} where
  pub begun : (text : List ℕ) (s : TextBuffer S) → IsOnPage taken failures text text s s
  begun text s = record { part = []; split = refl; writes = writes_nothing s }

  pub continued : {text : List ℕ} (piece rest : List ℕ) {s t u : TextBuffer S} → IsOnPage taken failures text (piece ++ rest) s t → Writes taken failures piece t u → IsOnPage taken failures text rest s u
  continued piece rest w more = record {
    part = w.part ++ piece;
    split = w.split ∙ sym (append_assoc w.part piece rest);
    writes = w.writes then more;
  }

  pub ended : {text : List ℕ} (last : List ℕ) {s t u : TextBuffer S} → IsOnPage taken failures text last s t → Writes taken failures last t u → Writes taken failures text s u
  ended last w more = rw w.split (w.writes then more)
