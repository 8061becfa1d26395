-- what is written of events, in order
use Rattle.std.proofs.Common.{ℕ, ◌≡◌, ◌+◌, ◌<◌, ◌≤◌, List, [], ◌∷◌, ◌++◌, length, drop, drop-cons, add-one, get_or, refl, sym, ap, ◌∙◌, subst, append_assoc, append-nil, arith}
use Rattle.std.proofs.lemmas.List.{drop_all}
use Rattle.ultra_msg.specs.declared.Event.{Event}
use Rattle.ultra_io.specs.{declared.text_buffer.TextBuffer.TextBuffer, TextBuffer.Writes}
use Rattle.ultra_io.proofs.Writing.{◌then◌, writes_nothing}
use Rattle.ultra_latency.specs.{declared.open.OpenRequest.OpenRequest, Open.{rows_with, rows_after, HasPlace, HavePlaces}}
use Rattle.ultra_latency.proofs.Rows.{next_rows, next_places}
use Rattle.ultra_requests.specs.Along.{along, HasRows, HaveRows}

-- the rows after the events so far, and places for those that come
pub record IsAlong (cycle : ℕ) (first : List (List OpenRequest)) (es : List Event) (i : ℕ) (now : List (List OpenRequest)) : Type 0 where
  pub rows : rows_after cycle first es ≡ rows_after cycle now (drop i es)
  pub places : HavePlaces cycle now (drop i es)

pub begins_along : (cycle : ℕ) (first : List (List OpenRequest)) (es : List Event) → HavePlaces cycle first es → IsAlong cycle first es 0 first
begins_along cycle first es places = record { rows = refl; places = places }

module _ {cycle : ℕ} {first : List (List OpenRequest)} {es : List Event} {i : ℕ} {now : List (List OpenRequest)} (are : IsAlong cycle first es i now) where
  -- the next event
  module _ (d : Event) (here : i < length es) where
    pub place_along : HasPlace now (get_or es i d)
    place_along = (next_places cycle now es i d here are.places).0

    pub goes_along : (next : List (List OpenRequest)) → next ≡ rows_with cycle now (get_or es i d) → IsAlong cycle first es (i + 1) next
    goes_along next is = record {
      rows = are.rows ∙ next_rows cycle now es i d here ∙ ap (λ (r : List (List OpenRequest)). rows_after cycle r (drop (i + 1) es)) (sym is);
      places = subst (λ (r : List (List OpenRequest)). HavePlaces cycle r (drop (i + 1) es)) (sym is) (next_places cycle now es i d here are.places).1;
    }

  -- after the last one
  pub ends_along : length es ≤ i → now ≡ rows_after cycle first es
  ends_along past = let none : drop i es ≡ [] = drop_all i es past in sym (are.rows ∙ ap (rows_after cycle now) none)

-- ---- what is written of them
module _ (show : ℕ → List (List OpenRequest) → Event → List ℕ) (cycle : ℕ) where
  -- what was written of the events so far
  pub record IsWritten {S : Type 0} (taken : S → List ℕ) (failures : S → ℕ) (first : List (List OpenRequest)) (es : List Event) (i : ℕ) (now : List (List OpenRequest)) (s t : TextBuffer S) : Type 0 where
    pub done : List ℕ
    pub parts : along show cycle first es ≡ done ++ along show cycle now (drop i es)
    pub wrote : Writes taken failures done s t

  module _ {S : Type 0} {taken : S → List ℕ} {failures : S → ℕ} (first : List (List OpenRequest)) (es : List Event) where
    pub none_along : (s : TextBuffer S) → IsWritten taken failures first es 0 first s s
    none_along s = record { done = []; parts = refl; wrote = writes_nothing s }

    module _ {i : ℕ} {now : List (List OpenRequest)} {s t : TextBuffer S} (are : IsWritten taken failures first es i now s t) where
      pub more_along : (d : Event) → i < length es → (next : List (List OpenRequest)) → next ≡ rows_with cycle now (get_or es i d) → {u : TextBuffer S} → Writes taken failures (show cycle now (get_or es i d)) t u → IsWritten taken failures first es (i + 1) next s u
      more_along d here next is w =
          let e = get_or es i d in
          let behind : along show cycle now (drop i es) ≡ show cycle now e ++ along show cycle next (drop (i + 1) es) = rw (add-one, drop-cons es i d here, is) refl in
          record {
            done = are.done ++ show cycle now e;
            parts = are.parts ∙ ap (λ xs. are.done ++ xs) behind ∙ sym (append_assoc are.done (show cycle now e) _);
            wrote = are.wrote then w;
          }

      pub all_along : length es ≤ i → Writes taken failures (along show cycle first es) s t
      all_along past =
          let none : drop i es ≡ [] = drop_all i es past in
          let whole : along show cycle first es ≡ are.done = are.parts ∙ ap (λ xs. are.done ++ along show cycle now xs) none ∙ append-nil are.done in
          rw whole are.wrote

-- the rows that events name, from an index on
pub next_have : (cycle : ℕ) (rows : List (List OpenRequest)) (es : List Event) (i : ℕ) (d : Event) → i < length es → HaveRows cycle rows (drop i es) → HasRows rows (get_or es i d) × HaveRows cycle (rows_with cycle rows (get_or es i d)) (drop (i + 1) es)
next_have cycle rows es i d here are = let all = rw (drop-cons es i d here) at are in rw add-one all
