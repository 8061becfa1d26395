-- the cells of a memory that has places for the first addresses, after one is set
use Rattle.std.proofs.Common.{◌≡◌, ℕ, ◌<◌, ◌≤◌, ◌⊎◌, length, get_or, set, List, Bool, true, false, refl, sym, arith, ap, ◌∙◌, cond, nat_lt, inl, inr, length-set}
use Rattle.std.specs.Prelude.{◌≢◌}
use Rattle.std.proofs.{Math.Path.fun_ext, lemmas.List.{get_or-set_same, get_or-set_other}}
use Rattle.std.proofs.lemmas.Bool.{cases_eq, cond-true, cond-false, lt-ltb, ltb-true, eq-eqb, ne_eqb, false_from_ne_true}
use Rattle.ultra_serial_law.specs.Legal.{Cells, with_cell}
use Rattle.ultra_serial.specs.DenseCells.{cells_over}

-- what with_cell has at the address and at another one
pub at_cell : (m : Cells) (k v a : ℕ) → a ≡ k → with_cell m k v a ≡ v
at_cell m k v a e = ap (λ t. elim t as (λ b. ℕ) [ true ↦ v | false ↦ m a ]) (eq-eqb a k e)

pub past_cell : (m : Cells) (k v a : ℕ) → a ≢ k → with_cell m k v a ≡ m a
past_cell m k v a e = ap (λ t. elim t as (λ b. ℕ) [ true ↦ v | false ↦ m a ]) (ne_eqb a k e)

in_low : (low : List ℕ) (high : Cells) (a : ℕ) → a < length low → cells_over low high a ≡ get_or low a 0
in_low low high a l = cond-true (nat_lt a (length low)) _ _ (lt-ltb a (length low) l)

in_high : (low : List ℕ) (high : Cells) (a : ℕ) → length low ≤ a → cells_over low high a ≡ high a
in_high low high a l = cond-false (nat_lt a (length low)) _ _ (false_from_ne_true _ (λ h. omega (arith, l, ltb-true a (length low) h)))

module _ (low : List ℕ) (high : Cells) (k v : ℕ) where
  low_when : k < length low → (a : ℕ) → (a ≡ k) ⊎ (a ≢ k) → cells_over (set low k v) high a ≡ with_cell (cells_over low high) k v a
  low_when l a (inl e) =
      in_low (set low k v) high a (omega (arith, l, e, length-set low k v)) ∙ ap (λ i. get_or (set low k v) i 0) e ∙ get_or-set_same low k v 0 l ∙ sym (at_cell (cells_over low high) k v a e)
  low_when l a (inr e) =
      ap (λ n. cond (nat_lt a n) (get_or (set low k v) a 0) (high a)) (length-set low k v)
      ∙ ap (λ x. cond (nat_lt a (length low)) x (high a)) (get_or-set_other low k a v 0 e)
      ∙ sym (past_cell (cells_over low high) k v a e)

  pub low_set : k < length low → cells_over (set low k v) high ≡ with_cell (cells_over low high) k v
  low_set l = fun_ext (λ a. low_when l a (cases_eq a k))

  high_when : length low ≤ k → (a : ℕ) → (a ≡ k) ⊎ (a ≢ k) → cells_over low (with_cell high k v) a ≡ with_cell (cells_over low high) k v a
  high_when l a (inl e) = in_high low (with_cell high k v) a (omega (arith, l, e)) ∙ at_cell high k v a e ∙ sym (at_cell (cells_over low high) k v a e)
  high_when l a (inr e) =
      ap (λ x. cond (nat_lt a (length low)) (get_or low a 0) x) (past_cell high k v a e) ∙ sym (past_cell (cells_over low high) k v a e)

  pub high_set : length low ≤ k → cells_over low (with_cell high k v) ≡ with_cell (cells_over low high) k v
  high_set l = fun_ext (λ a. high_when l a (cases_eq a k))

same_both : (t : Bool) (n : ℕ) → cond t n n ≡ n
same_both true n = refl
same_both false n = refl

pub none_given : (low : List ℕ) → ((a : ℕ) → get_or low a 0 ≡ 0) → cells_over low (λ a. 0) ≡ (λ a. 0)
none_given low zeros = fun_ext (λ a. ap (λ x. cond (nat_lt a (length low)) x 0) (zeros a) ∙ same_both (nat_lt a (length low)) 0)
