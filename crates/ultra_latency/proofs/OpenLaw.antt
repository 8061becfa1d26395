-- the law of open requests
use Rattle.std.proofs.Common.{ℕ, suc, List, [], ◌∷◌, ◌≡◌, ◌+◌, ◌<◌, length, refl, sym, ap, ◌∙◌, arith}
use Rattle.std.specs.Prelude.{map, slice_index_or}
use Rattle.ultra_isa.specs.declared.Instr.{Instr}
use Rattle.ultra_model.specs.{Machine.{Settings, Element, size, start, element_at}, Places.places, Phases.after, Ranges.AreInRange}
use Rattle.ultra_latency.specs.{declared.open.OpenRequest.OpenRequest, Open.{open_requests, open_rows, rows_after, OpenLaw}}
use Rattle.ultra_model.proofs.{AtPlaces.element-start, Each.{places_at, length-places}}
use Rattle.ultra_latency.proofs.{Deliveries.{few_law, latencies_named, length_rows}, Places.{places_law, made_row, length_made, rows_are}, Named.named_law}

-- two lists with the same rows
same_rows : (xs ys : List (List OpenRequest)) → length xs ≡ length ys → ((k : ℕ) → k < length xs → slice_index_or xs k [] ≡ slice_index_or ys k []) → xs ≡ ys
same_rows [] [] long each = refl
same_rows [] (y ∷ ys) long each = absurd (omega (arith, long))
same_rows (x ∷ xs) [] long each = absurd (omega (arith, long))
same_rows (x ∷ xs) (y ∷ ys) long each =
    let here : x ≡ y = each 0 (omega arith) in
    ap (λ v. v ∷ xs) here ∙ ap (λ vs. y ∷ vs) (same_rows xs ys (omega (arith, long)) (λ k h. each (suc k) (omega arith)))

pub open_law : OpenLaw
open_law c range program n = record {
  rows =
      rows_are c range program n
      ∙ same_rows _ (open_rows c program (n + 1)) (length_made c range program n ∙ sym (length_rows c range program (n + 1)))
      (λ k h. made_row c range program n k (omega (arith, h, length_made c range program n)));
  places = places_law c range program n;
  named = named_law c range program n;
  latencies = latencies_named c program n (open_rows c program n) (after c program (n + 1)).events (named_law c range program n);
  few = few_law c range program n;
}

-- at first no request is open
pub fresh_rows : (c : Settings) (program : List Instr) → open_rows c program 0 ≡ places (size c) (λ p. [])
unfolding open_rows after
fresh_rows c program =
    same_rows _ (places (size c) (λ p. []))
    (length-places (size c) _ ∙ sym (length-places (size c) _))
    (λ k h.
    let small : k < size c = omega (arith, h, length-places (size c) (λ p. open_requests c program 0 p (element_at (start c) p).interface.opened)) in
    places_at (size c) (λ p. open_requests c program 0 p (element_at (start c) p).interface.opened) k [] small
    ∙ ap (λ (e : Element). open_requests c program 0 k e.interface.opened) (element-start c k small)
    ∙ sym (places_at (size c) (λ p. []) k [] small))
