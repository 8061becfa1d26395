-- the rows of open requests after several events, in order
use Rattle.std.proofs.Common.{ℕ, ◌≡◌, ◌+◌, ◌<◌, List, [], ◌∷◌, ◌++◌, length, drop, drop-cons, add-one, get_or, refl, sym, ap, ◌∙◌, append_assoc, length-set, arith}
use Rattle.std.specs.{Prelude.{Option, option_to_list, slice_set}, List.AllByRecursion}
use Rattle.ultra_msg.specs.declared.Event.{Event, TheVariants.{Delivered, Served, Combined, Issued}}
use Rattle.ultra_latency.specs.declared.open.OpenRequest.{OpenRequest}
use Rattle.ultra_latency.specs.Open.{issued_request, without_request, row, rows_with, latency_at, HasPlace, rows_after, latencies_along, HavePlaces}

-- neither a delivery nor an issue
abbrev pub IsNeutral : Event → Type 0
IsNeutral (Delivered r) = ⊥
IsNeutral (Served k r v now) = Unit {0}
IsNeutral (Combined s x a p q f) = Unit {0}
IsNeutral (Issued r n) = ⊥

module _ (cycle : ℕ) where
  -- ---- two lists of events
  pub rows_append : (rows : List (List OpenRequest)) (xs ys : List Event) → rows_after cycle rows (xs ++ ys) ≡ rows_after cycle (rows_after cycle rows xs) ys
  rows_append rows [] ys = refl
  rows_append rows (e ∷ xs) ys = rows_append (rows_with cycle rows e) xs ys

  pub latencies_append : (rows : List (List OpenRequest)) (xs ys : List Event) → latencies_along cycle rows (xs ++ ys) ≡ latencies_along cycle rows xs ++ latencies_along cycle (rows_after cycle rows xs) ys
  latencies_append rows [] ys = refl
  latencies_append rows (e ∷ xs) ys = ap (λ t. latency_at cycle rows e ++ t) (latencies_append (rows_with cycle rows e) xs ys) ∙ sym (append_assoc (latency_at cycle rows e) _ _)

  pub places_append : (rows : List (List OpenRequest)) (xs ys : List Event) → HavePlaces cycle rows xs → HavePlaces cycle (rows_after cycle rows xs) ys → HavePlaces cycle rows (xs ++ ys)
  places_append rows [] ys first second = second
  places_append rows (e ∷ xs) ys first second = (first.0, places_append (rows_with cycle rows e) xs ys first.1 second)

  -- ---- as many rows as before
  pub length_with : (rows : List (List OpenRequest)) (e : Event) → length (rows_with cycle rows e) ≡ length rows
  length_with rows (Delivered r) = length-set rows r.pe (without_request r.cell (row rows r.pe))
  length_with rows (Served k r v now) = refl
  length_with rows (Combined s x a p q f) = refl
  length_with rows (Issued r n) = length-set rows r.pe (row rows r.pe ++ issued_request cycle r n ∷ [])

  pub length_after : (rows : List (List OpenRequest)) (es : List Event) → length (rows_after cycle rows es) ≡ length rows
  length_after rows [] = refl
  length_after rows (e ∷ es) = length_after (rows_with cycle rows e) es ∙ length_with rows e

  -- ---- events that change no row
  pub neutral_rows : (rows : List (List OpenRequest)) (es : List Event) → AllByRecursion IsNeutral es → rows_after cycle rows es ≡ rows
  neutral_rows rows [] all = refl
  neutral_rows rows (Delivered r ∷ es) all = absurd all.0
  neutral_rows rows (Served k r v now ∷ es) all = neutral_rows rows es all.1
  neutral_rows rows (Combined s x a p q f ∷ es) all = neutral_rows rows es all.1
  neutral_rows rows (Issued r n ∷ es) all = absurd all.0

  pub neutral_places : (rows : List (List OpenRequest)) (es : List Event) → AllByRecursion IsNeutral es → HavePlaces cycle rows es
  neutral_places rows [] all = tt
  neutral_places rows (Delivered r ∷ es) all = absurd all.0
  neutral_places rows (Served k r v now ∷ es) all = (tt, neutral_places rows es all.1)
  neutral_places rows (Combined s x a p q f ∷ es) all = (tt, neutral_places rows es all.1)
  neutral_places rows (Issued r n ∷ es) all = absurd all.0

  -- ---- from an index on
  module _ (rows : List (List OpenRequest)) (es : List Event) (i : ℕ) (d : Event) (here : i < length es) where
    abbrev event : Event
    event = get_or es i d

    pub next_rows : rows_after cycle rows (drop i es) ≡ rows_after cycle (rows_with cycle rows event) (drop (i + 1) es)
    next_rows = rw (add-one, drop-cons es i d here) refl

    next_latencies : latencies_along cycle rows (drop i es) ≡ latency_at cycle rows event ++ latencies_along cycle (rows_with cycle rows event) (drop (i + 1) es)
    next_latencies = rw (add-one, drop-cons es i d here) refl

    pub next_places : HavePlaces cycle rows (drop i es) → HasPlace rows event × HavePlaces cycle (rows_with cycle rows event) (drop (i + 1) es)
    next_places are = let all = rw (drop-cons es i d here) at are in rw add-one all

    -- what the event shows, and what those behind it show
    pub next_shown : (o : Option ℕ) → option_to_list o ≡ latency_at cycle rows event → (now : List (List OpenRequest)) → now ≡ rows_with cycle rows event → latencies_along cycle rows (drop i es) ≡ option_to_list o ++ latencies_along cycle now (drop (i + 1) es)
    next_shown o is now same =
        next_latencies
        ∙ ap (λ xs. xs ++ latencies_along cycle (rows_with cycle rows event) (drop (i + 1) es)) (sym is)
        ∙ ap (λ r. option_to_list o ++ latencies_along cycle r (drop (i + 1) es)) (sym same)
