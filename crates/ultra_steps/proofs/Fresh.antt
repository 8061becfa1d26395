-- copies at the start of a run
use Rattle.std.proofs.Common.{ℕ, ◌≡◌, ◌+◌, ◌<◌, List, [], ◌∷◌, ◌++◌, length, refl, sym, ap, ◌∙◌, arith, below_more, length-append}
use Rattle.std.proofs.Math.ListN.{get_or-append}
use Rattle.std.proofs.Math.Seq.{get_or-append_seam}
use Rattle.std.specs.Prelude.{slice_index_or}
use Rattle.ultra_isa.specs.declared.Instr.{Instr}
use Rattle.ultra_model.specs.{Machine.{Settings, fresh_element, size, element_at}, Phases.after}
use Rattle.ultra_model.proofs.AtPlaces.{element-start}
use Rattle.ultra_unit_steps.specs.declared.elements.ProcessingElement.{ProcessingElement}
use Rattle.ultra_steps.specs.Copies.{AreCopies, copy_at, copy_of}

-- those of the processing elements below p
pub record AreFresh (c : Settings) (p : ℕ) (copies : List ProcessingElement) : Type 0 where
  pub count : length copies ≡ p
  pub each : (q : ℕ) → q < p → copy_at c copies q ≡ copy_of c q fresh_element

pub none_fresh : (c : Settings) → AreFresh c 0 []
none_fresh c = record { count = refl; each = λ q h. absurd (omega (arith, h)) }

pub more_fresh : (c : Settings) (p : ℕ) (copies : List ProcessingElement) → AreFresh c p copies → (e : ProcessingElement) → e ≡ copy_of c p fresh_element → (now : List ProcessingElement) → now ≡ copies ++ e ∷ [] → AreFresh c (p + 1) now
more_fresh c p copies are e is now made = rw made record {
  count = length-append copies (e ∷ []) ∙ ap (λ n. n + 1) are.count;
  each = below_more (λ q. copy_at c (copies ++ e ∷ []) q ≡ copy_of c q fresh_element) p
      (λ q h. get_or-append copies (e ∷ []) (copy_of c q fresh_element) q (omega (arith, h, are.count)) ∙ are.each q h)
      (ap (λ k. slice_index_or (copies ++ e ∷ []) k (copy_of c p fresh_element)) (sym are.count) ∙ get_or-append_seam copies e [] (copy_of c p fresh_element) ∙ is);
}

pub all_fresh : (c : Settings) (p : ℕ) (copies : List ProcessingElement) → AreFresh c p copies → p ≡ size c → AreCopies c (λ q. fresh_element) copies
all_fresh c p copies are all = record { count = are.count ∙ all; each = λ q h. are.each q (omega (arith, h, all)) }

pub at_start : (c : Settings) (program : List Instr) (copies : List ProcessingElement) → AreCopies c (λ p. fresh_element) copies → AreCopies c (element_at (after c program 0)) copies
unfolding after
at_start c program copies are = record { count = are.count; each = λ p h. are.each p h ∙ ap (copy_of c p) (sym (element-start c p h)) }
