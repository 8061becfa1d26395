-- events of processing elements by number, each of which changes only its processing element's row
use Rattle.std.proofs.Common.{ℕ, zero, suc, List, [], ◌∷◌, ◌++◌, ◌≡◌, ◌≢◌, ◌+◌, ◌<◌, ◌≤◌, ◌⊎◌, inl, inr, length, refl, sym, ap, ◌∙◌, subst, get_or-set_same, get_or-set_other, length-set, arith}
use Rattle.std.proofs.lemmas.Bool.{cases_lt}
use Rattle.std.specs.{Prelude.{Option, Some, None, map, slice_set}, List.range_with_len}
use Rattle.ultra_msg.specs.declared.Event.{Event}
use Rattle.ultra_model.specs.Places.{present}
use Rattle.ultra_latency.specs.{declared.open.OpenRequest.OpenRequest, Open.{row, rows_with, rows_after, HasPlace, HavePlaces}}

still_out : (n a p : ℕ) → (p < a) ⊎ (a + suc n ≤ p) → (p < a + 1) ⊎ (a + 1 + n ≤ p)
still_out n a p (inl low) = inl (omega arith)
still_out n a p (inr high) = inr (omega arith)

not_first : (n a p : ℕ) → (p < a) ⊎ (a + suc n ≤ p) → p ≢ a
not_first n a p (inl low) = omega arith
not_first n a p (inr high) = omega arith

-- of the processing elements below `bound` at most one event each
module _ (cycle : ℕ) (event : ℕ → Option Event) (change : ℕ → List OpenRequest → List OpenRequest) (bound : ℕ)
    (own : (p : ℕ) → p < bound → (e : Event) → event p ≡ Some e → (rows : List (List OpenRequest)) → rows_with cycle rows e ≡ slice_set rows p (change p (row rows p)))
    (still : (p : ℕ) → event p ≡ None → (os : List OpenRequest) → os ≡ change p os) where
  -- those of n processing elements from a on
  abbrev pub those : ℕ → ℕ → List Event
  those a n = present (map event (range_with_len a n))

  -- the first of them, before the others
  row_first : (rows : List (List OpenRequest)) (p : ℕ) (os : List (Option Event)) (goal : List OpenRequest) (o : Option Event) → (o ≡ None → row (rows_after cycle rows (present os)) p ≡ goal)
      → ((e : Event) → o ≡ Some e → row (rows_after cycle (rows_with cycle rows e) (present os)) p ≡ goal)
      → row (rows_after cycle rows (present (o ∷ os))) p ≡ goal
  row_first rows p os goal None none some = none refl
  row_first rows p os goal (Some e) none some = some e refl

  pub outside : (n a p : ℕ) (rows : List (List OpenRequest)) → a + n ≤ bound → (p < a) ⊎ (a + n ≤ p) → row (rows_after cycle rows (those a n)) p ≡ row rows p
  outside zero a p rows within out = refl
  outside (suc n) a p rows within out =
      row_first rows p (map event (range_with_len (a + 1) n)) (row rows p) (event a)
      (λ is. outside n (a + 1) p rows (omega arith) (still_out n a p out))
      (λ e is.
      let other : p ≢ a = not_first n a p out in
      outside n (a + 1) p (rows_with cycle rows e) (omega arith) (still_out n a p out) ∙ ap (λ r. row r p) (own a (omega arith) e is rows) ∙ get_or-set_other rows a p (change a (row rows a)) [] other)

  pub inside : (n a p : ℕ) (rows : List (List OpenRequest)) → a + n ≤ bound → a ≤ p → p < a + n → a + n ≤ length rows → row (rows_after cycle rows (those a n)) p ≡ change p (row rows p)
  inside zero a p rows within from to long = absurd (omega arith)
  inside (suc n) a p rows within from to long = elim (cases_lt a p) [
    | inl later ↦
        row_first rows p (map event (range_with_len (a + 1) n)) (change p (row rows p)) (event a)
        (λ is. inside n (a + 1) p rows (omega arith) (omega arith) (omega arith) (omega arith))
        (λ e is.
        let other : p ≢ a = omega (arith, later) in
        let as_long : length (rows_with cycle rows e) ≡ length rows = ap length (own a (omega arith) e is rows) ∙ length-set rows a (change a (row rows a)) in
        inside n (a + 1) p (rows_with cycle rows e) (omega arith) (omega arith) (omega arith) (omega (arith, long, as_long)) ∙ ap (λ r. change p (row r p)) (own a (omega arith) e is rows) ∙ ap (change p) (get_or-set_other rows a p (change a (row rows a)) [] other))
    | inr here ↦
        let same : p ≡ a = omega arith in
        rw same
        (row_first rows a (map event (range_with_len (a + 1) n)) (change a (row rows a)) (event a)
        (λ is. outside n (a + 1) a rows (omega arith) (inl (omega arith)) ∙ still a is (row rows a))
        (λ e is.
        outside n (a + 1) a (rows_with cycle rows e) (omega arith) (inl (omega arith)) ∙ ap (λ r. row r a) (own a (omega arith) e is rows) ∙ get_or-set_same rows a (change a (row rows a)) [] (omega arith)))
  ]

  -- ---- each finds its place, where its processing element's row lets it
  module _ (Fits : ℕ → List OpenRequest → Type 0) (fits : (p : ℕ) → p < bound → (e : Event) → event p ≡ Some e → (rows : List (List OpenRequest)) → p < length rows → Fits p (row rows p) → HasPlace rows e) where
    places_first : (rows : List (List OpenRequest)) (os : List (Option Event)) (o : Option Event) → (o ≡ None → HavePlaces cycle rows (present os))
        → ((e : Event) → o ≡ Some e → HasPlace rows e × HavePlaces cycle (rows_with cycle rows e) (present os))
        → HavePlaces cycle rows (present (o ∷ os))
    places_first rows os None none some = none refl
    places_first rows os (Some e) none some = some e refl

    pub those_fit : (n a : ℕ) (rows : List (List OpenRequest)) → a + n ≤ bound → a + n ≤ length rows → ((p : ℕ) → a ≤ p → p < a + n → Fits p (row rows p)) → HavePlaces cycle rows (those a n)
    those_fit zero a rows within long all = tt
    those_fit (suc n) a rows within long all =
        places_first rows (map event (range_with_len (a + 1) n)) (event a)
        (λ is. those_fit n (a + 1) rows (omega arith) (omega arith) (λ p from to. all p (omega arith) (omega arith)))
        (λ e is.
        let as_long : length (rows_with cycle rows e) ≡ length rows = ap length (own a (omega arith) e is rows) ∙ length-set rows a (change a (row rows a)) in (
          fits a (omega arith) e is rows (omega arith) (all a (omega arith) (omega arith)),
          those_fit n (a + 1) (rows_with cycle rows e) (omega arith) (omega (arith, long, as_long)) (λ p from to.
              let other : p ≢ a = omega (arith, from) in
              let same : row (rows_with cycle rows e) p ≡ row rows p = ap (λ r. row r p) (own a (omega arith) e is rows) ∙ get_or-set_other rows a p (change a (row rows a)) [] other in
              subst (Fits p) (sym same) (all p (omega arith) (omega arith))),
        ))
