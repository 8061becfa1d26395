-- lists by name, where a place is made or set, or an item comes to the map
use Rattle.std.proofs.Common.{◌≡◌, ℕ, zero, suc, ◌<◌, ◌≤◌, ◌⊎◌, List, [], ◌∷◌, ◌++◌, Bool, true, false, length, set, get_or, refl, sym, arith, ap, ◌∙◌, inl, inr, subst}
use Rattle.std.specs.{Prelude.{◌≢◌, Some, slice_get, slice_index}, Global.Vec}
use Rattle.std.proofs.lemmas.{Bool.cases_eq, Option.{slice_get_past, slice_get_read}}
use Rattle.ultra_serial.specs.{ByPair.{is_pair, with_item, lists_with}, ByName.{one_at, place_in, place_of, list_or}}
use Rattle.ultra_serial.proofs.{ByPair.same_pair, RecordsByName.pair_same}

pub get_set : {X : Type 0} (xs : List X) (i : ℕ) (y : X) → i < length xs → slice_get (set xs i y) i ≡ Some y
get_set [] i y l = absurd (omega (arith, l))
get_set (x ∷ xs) zero y l = refl
get_set (x ∷ xs) (suc i) y l = get_set xs i y (omega (arith, l))

pub get_other : {X : Type 0} (xs : List X) (i j : ℕ) (y : X) → j ≢ i → slice_get (set xs i y) j ≡ slice_get xs j
get_other [] i j y n = refl
get_other (x ∷ xs) zero zero y n = absurd (n refl)
get_other (x ∷ xs) zero (suc j) y n = refl
get_other (x ∷ xs) (suc i) zero y n = refl
get_other (x ∷ xs) (suc i) (suc j) y n = get_other xs i j y (λ e. n (ap suc e))

-- one item more
pub get_end : {X : Type 0} (xs : List X) (y : X) → slice_get (xs ++ y ∷ []) (length xs) ≡ Some y
get_end [] y = refl
get_end (x ∷ xs) y = get_end xs y

pub get_before_end : {X : Type 0} (xs : List X) (j : ℕ) (y : X) → j ≢ length xs → slice_get (xs ++ y ∷ []) j ≡ slice_get xs j
get_before_end [] zero y n = absurd (n refl)
get_before_end [] (suc j) y n = refl
get_before_end (x ∷ xs) zero y n = refl
get_before_end (x ∷ xs) (suc j) y n = get_before_end xs j y (λ e. n (ap suc e))

-- a zero more changes no place
pub index_more : (xs : List ℕ) (k : ℕ) → slice_index (xs ++ 0 ∷ []) k ≡ slice_index xs k
index_more [] zero = refl
index_more [] (suc k) = refl
index_more (x ∷ xs) zero = refl
index_more (x ∷ xs) (suc k) = index_more xs k

pub index_past : (xs : List ℕ) (k : ℕ) → length xs ≤ k → slice_index xs k ≡ 0
index_past [] k le = refl
index_past (x ∷ xs) zero le = absurd (omega (arith, le))
index_past (x ∷ xs) (suc k) le = index_past xs k (omega (arith, le))

-- an element that is read
pub same_item : {X : Type 0} (xs : List X) (i : ℕ) (x y : X) → i < length xs → x ≡ get_or xs i x → slice_get xs i ≡ Some y → x ≡ y
same_item xs i x y l a b =
    let s = slice_get_read xs (length xs) i x refl l a in
    cc

-- ---- places
module _ (rows : List (Vec ℕ)) (p : ℕ) (old new : Vec ℕ) (within : p < length rows) (here : slice_get rows p ≡ Some old) where
  in_row : (b : ℕ) → place_of rows p b ≡ slice_index old.items b
  in_row b = ap (λ o. place_in o b) here

  in_new_row : (b : ℕ) → place_of (set rows p new) p b ≡ slice_index new.items b
  in_new_row b = ap (λ o. place_in o b) (get_set rows p new within)

  in_other_row : (a b : ℕ) → a ≢ p → place_of (set rows p new) a b ≡ place_of rows a b
  in_other_row a b e = ap (λ o. place_in o b) (get_other rows p a new e)

  module _ (longer : new.items ≡ old.items ++ 0 ∷ []) where
    made_when : (a b : ℕ) → (a ≡ p) ⊎ (a ≢ p) → place_of (set rows p new) a b ≡ place_of rows a b
    made_when a b (inl e) =
        ap (λ i. place_of (set rows p new) i b) e ∙ in_new_row b ∙ ap (λ us. slice_index us b) longer ∙ index_more old.items b ∙ sym (in_row b)
        ∙ ap (λ i. place_of rows i b) (sym e)
    made_when a b (inr e) = in_other_row a b e

    pub place_made : (a b : ℕ) → place_of (set rows p new) a b ≡ place_of rows a b
    place_made a b = made_when a b (cases_eq a p)

-- a row of zeros more
module _ (rows : List (Vec ℕ)) (row : Vec ℕ) (zeros : (b : ℕ) → slice_index row.items b ≡ 0) where
  row_when : (a b : ℕ) → (a ≡ length rows) ⊎ (a ≢ length rows) → place_of (rows ++ row ∷ []) a b ≡ place_of rows a b
  row_when a b (inl e) =
      ap (λ i. place_of (rows ++ row ∷ []) i b) e ∙ ap (λ o. place_in o b) (get_end rows row) ∙ zeros b
      ∙ sym (ap (λ o. place_in o b) (slice_get_past rows a (omega (arith, e))))
  row_when a b (inr e) = ap (λ o. place_in o b) (get_before_end rows a row e)

  pub row_of_zeros : (a b : ℕ) → place_of (rows ++ row ∷ []) a b ≡ place_of rows a b
  row_of_zeros a b = row_when a b (cases_eq a (length rows))

-- ---- lists
or_push : {X : Type 0} (us vs : List X) (x : X) → (us ≡ [] → vs ≡ []) → list_or (us ++ x ∷ []) vs ≡ list_or us vs ++ x ∷ []
or_push [] vs x e = ap (λ ws. ws ++ x ∷ []) (sym (e refl))
or_push (u ∷ us) vs x e = refl

pub both_none : {X : Type 0} (us vs : List X) → list_or us vs ≡ [] → vs ≡ []
both_none [] vs e = e
both_none (u ∷ us) vs e = absurd cc

module _ {X : Type 0} (whole : List X) (p n : ℕ) where
  abbrev named : (ℕ → ℕ → List X) → (ℕ → ℕ → ℕ) → ℕ → ℕ → List X
  named other place a b = list_or (other a b) (one_at whole (place a b))

  -- an item comes to the map
  module _ (place : ℕ → ℕ → ℕ) (x : X) (other more : ℕ → ℕ → List X) (grown : (a b : ℕ) → more a b ≡ lists_with other p n x a b) where
    grown_here : more p n ≡ other p n ++ x ∷ []
    grown_here = grown p n ∙ ap (λ t. with_item t (other p n) x) (pair_same p n)

    grown_apart : (a b : ℕ) → is_pair p n a b ≡ false → more a b ≡ other a b
    grown_apart a b e = grown a b ∙ ap (λ t. with_item t (other a b) x) e

    module _ (none : other p n ≡ [] → one_at whole (place p n) ≡ []) where
      pushed_here : named more place p n ≡ named other place p n ++ x ∷ []
      pushed_here = ap (λ us. list_or us (one_at whole (place p n))) grown_here ∙ or_push (other p n) (one_at whole (place p n)) x none

      pushed_when : (a b : ℕ) (t : Bool) → is_pair p n a b ≡ t → named more place a b ≡ with_item t (named other place a b) x
      pushed_when a b true e =
          let s = same_pair p n a b e in
          subst (λ i. named more place i b ≡ named other place i b ++ x ∷ []) s.0 (subst (λ j. named more place p j ≡ named other place p j ++ x ∷ []) s.1 pushed_here)
      pushed_when a b false e = ap (λ us. list_or us (one_at whole (place a b))) (grown_apart a b e)

      pub other_pushed : (a b : ℕ) → named more place a b ≡ lists_with (named other place) p n x a b
      other_pushed a b = pushed_when a b (is_pair p n a b) refl
