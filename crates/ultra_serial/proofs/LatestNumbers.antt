-- the latest numbers, after one is set or a row is added
use Rattle.std.proofs.Common.{◌≡◌, ◌≢◌, ℕ, ◌<◌, ◌⊎◌, List, [], ◌∷◌, ◌++◌, length, set, Bool, true, false, cond, refl, sym, ap, subst, ◌∙◌, inl, inr}
use Rattle.std.specs.{Prelude.{Option, Some, None, slice_get}, Option.unwrap_or, BTreeMap.{BTreeMap, get, Updates}}
use Rattle.std.proofs.lemmas.Bool.{cases_eq}
use Rattle.ultra_serial_law.specs.Legal.{Cells, with_cell}
use Rattle.ultra_serial.specs.{declared.dense_memory.DenseMemory.DenseMemory, ByPair.is_pair, DenseCells.dense_cells, LatestNumbers.{numbers_of, number_under, numbers_with}}
use Rattle.ultra_serial.proofs.{ByPair.{pair_cmp, pair_test, same_pair}, DenseCells.{at_cell, past_cell}, Places.{get_set, get_other, get_end, get_before_end}, RecordsByName.pair_same}

abbrev pub numbers_over : List DenseMemory → (ℕ → Cells) → ℕ → ℕ → ℕ
numbers_over rows others p a = numbers_of (slice_get rows p) (others p) a

with_true : (f : ℕ → ℕ → ℕ) (p a n q b : ℕ) → is_pair p a q b ≡ true → numbers_with f p a n q b ≡ n
with_true f p a n q b e = ap (λ t. elim t as (λ x. ℕ) [ true ↦ n | false ↦ f q b ]) e

with_false : (f : ℕ → ℕ → ℕ) (p a n q b : ℕ) → is_pair p a q b ≡ false → numbers_with f p a n q b ≡ f q b
with_false f p a n q b e = ap (λ t. elim t as (λ x. ℕ) [ true ↦ n | false ↦ f q b ]) e

apart_in : (p a b : ℕ) → is_pair p a p b ≡ false → b ≢ a
apart_in p a b e = λ s. absurd (subst (λ v. v ≡ false → ⊥) (sym (pair_same p a)) (λ w. cc) (ap (λ i. is_pair p a p i) (sym s) ∙ e))

-- a number of a row is set
module _ (rows : List DenseMemory) (others : ℕ → Cells) (p a n : ℕ) (old new : DenseMemory) (within : p < length rows) (at : slice_get rows p ≡ Some old) (changed : dense_cells new ≡ with_cell (dense_cells old) a n) where
  here : (b : ℕ) → numbers_over rows others p b ≡ dense_cells old b
  here b = ap (λ o. numbers_of o (others p) b) at

  here_now : (b : ℕ) → numbers_over (set rows p new) others p b ≡ with_cell (dense_cells old) a n b
  here_now b = ap (λ o. numbers_of o (others p) b) (get_set rows p new within) ∙ ap (λ (m : Cells). m b) changed

  other_when : (q b : ℕ) → is_pair p a q b ≡ false → (q ≡ p) ⊎ (q ≢ p) → numbers_over (set rows p new) others q b ≡ numbers_over rows others q b
  other_when q b e (inl s) =
      let apart = apart_in p a b (ap (λ i. is_pair p a i b) (sym s) ∙ e) in
      subst (λ i. numbers_over (set rows p new) others i b ≡ numbers_over rows others i b) (sym s) (here_now b ∙ past_cell (dense_cells old) a n b apart ∙ sym (here b))
  other_when q b e (inr s) = ap (λ o. numbers_of o (others q) b) (get_other rows p q new s)

  row_when : (q b : ℕ) (t : Bool) → is_pair p a q b ≡ t → numbers_over (set rows p new) others q b ≡ numbers_with (numbers_over rows others) p a n q b
  row_when q b true e =
      let same = same_pair p a q b e in
      ap (λ i. numbers_over (set rows p new) others i b) (sym same.0) ∙ here_now b ∙ at_cell (dense_cells old) a n b (sym same.1) ∙ sym (with_true (numbers_over rows others) p a n q b e)
  row_when q b false e = other_when q b e (cases_eq q p) ∙ sym (with_false (numbers_over rows others) p a n q b e)

  pub row_set : (q b : ℕ) → numbers_over (set rows p new) others q b ≡ numbers_with (numbers_over rows others) p a n q b
  row_set q b = row_when q b (is_pair p a q b) refl

-- a number that is in no row is set
same_others : (o : Option DenseMemory) (f g : Cells) (b : ℕ) → f b ≡ g b → numbers_of o f b ≡ numbers_of o g b
same_others None f g b e = e
same_others (Some row) f g b e = refl

module _ (rows : List DenseMemory) (m k : BTreeMap (ℕ × ℕ) ℕ) (p a n : ℕ) (absent : slice_get rows p ≡ None) (u : Updates pair_cmp m k (p, a) (Some n)) where
  under_when : (q b : ℕ) (t : Bool) → is_pair p a q b ≡ t → number_under k q b ≡ unwrap_or (cond t (Some n) (get pair_cmp m (q, b))) 0
  under_when q b t e = ap (λ o. unwrap_or o 0) (u.0 (q, b) ∙ ap (λ s. cond s (Some n) (get pair_cmp m (q, b))) (pair_test p a q b ∙ e))

  past_when : (q b : ℕ) (t : Bool) → is_pair p a q b ≡ t → numbers_over rows (number_under k) q b ≡ numbers_with (numbers_over rows (number_under m)) p a n q b
  past_when q b true e =
      let same = same_pair p a q b e in
      let none : slice_get rows q ≡ None = ap (λ i. slice_get rows i) (sym same.0) ∙ absent in
      ap (λ o. numbers_of o (number_under k q) b) none ∙ under_when q b true e ∙ sym (with_true (numbers_over rows (number_under m)) p a n q b e)
  past_when q b false e = same_others (slice_get rows q) (number_under k q) (number_under m q) b (under_when q b false e) ∙ sym (with_false (numbers_over rows (number_under m)) p a n q b e)

  pub other_set : (q b : ℕ) → numbers_over rows (number_under k) q b ≡ numbers_with (numbers_over rows (number_under m)) p a n q b
  other_set q b = past_when q b (is_pair p a q b) refl

-- a row of zeros more
module _ (rows : List DenseMemory) (others : ℕ → Cells) (row : DenseMemory) (zeros : dense_cells row ≡ (λ a. 0)) (none : (q b : ℕ) → numbers_over rows others q b ≡ 0) where
  added_when : (q b : ℕ) → (q ≡ length rows) ⊎ (q ≢ length rows) → numbers_over (rows ++ row ∷ []) others q b ≡ 0
  added_when q b (inl e) = ap (λ i. numbers_of (slice_get (rows ++ row ∷ []) i) (others q) b) e ∙ ap (λ o. numbers_of o (others q) b) (get_end rows row) ∙ ap (λ (m : Cells). m b) zeros
  added_when q b (inr e) = ap (λ o. numbers_of o (others q) b) (get_before_end rows q row e) ∙ none q b

  pub row_added : (q b : ℕ) → numbers_over (rows ++ row ∷ []) others q b ≡ 0
  row_added q b = added_when q b (cases_eq q (length rows))
