-- the cells filled with the initial values, and the processors made, in order
use Rattle.std.proofs.Common.{◌≡◌, ◌≢◌, ℕ, zero, suc, ◌+◌, ◌*◌, ◌<◌, List, [], ◌∷◌, ◌++◌, true, false, refl, inl, inr, arith, ap, ◌∙◌, sym, length, get_or, set, replicate, map}
use Rattle.std.specs.{Prelude.{◌==◌, ◌⊎◌}, List.range_with_len}
use Rattle.std.proofs.lemmas.{List.{same_lists, length-set, get_or-set_same, get_or-set_other}, Bool.{cases_eq, eq-eqb, ne_eqb}}
use Rattle.ultra_isa.specs.Step.{ProcessorState, fresh_core}
use Rattle.ultra_model.specs.{Places.places, Machine.{Settings, size, site, given_value}}
use Rattle.ultra_model.proofs.Each.{places_at, places_none, places_more, length-places}

-- the processors below a number
abbrev pub first_processors : Settings → ℕ → List ProcessorState
first_processors c n = places n (λ p. record { site = site c p; core = fresh_core })

pub no_processors : (c : Settings) → first_processors c 0 ≡ []
no_processors c = places_none (λ p. record { site = site c p; core = fresh_core })

pub one_processor_more : (c : Settings) (n : ℕ) → first_processors c (n + 1) ≡ first_processors c n ++ record { site = site c n; core = fresh_core } ∷ []
one_processor_more c n = places_more n (λ p. record { site = site c p; core = fresh_core })

-- the cells with these values given
module _ (c : Settings) where
  abbrev pub cells_given : List (ℕ × ℕ) → List ℕ
  cells_given xs = places (size c * c.cells) (λ a. given_value xs a 0)

  pub length-cells_given : (xs : List (ℕ × ℕ)) → length (cells_given xs) ≡ size c * c.cells
  length-cells_given xs = length-places (size c * c.cells) (λ a. given_value xs a 0)

zeros : (a n : ℕ) → replicate {A = ℕ} n 0 ≡ map (λ (o : ℕ). 0) (range_with_len a n)
zeros a zero = refl
zeros a (suc n) = ap (λ xs. 0 ∷ xs) (zeros (a + 1) n)

pub none_given : (c : Settings) → replicate (size c * c.cells) 0 ≡ cells_given c []
unfolding places
none_given c = zeros 0 (size c * c.cells)

-- the value that is given last
given_last : (xs : List (ℕ × ℕ)) (x : ℕ × ℕ) (a v : ℕ) → given_value (xs ++ x ∷ []) a v ≡ elim (x.0 == a) [ true ↦ x.1 | false ↦ given_value xs a v ]
given_last [] x a v = refl
given_last (y ∷ ys) x a v = given_last ys x a (elim (y.0 == a) [ true ↦ y.1 | false ↦ v ])

module _ (c : Settings) (xs : List (ℕ × ℕ)) (x : ℕ × ℕ) (small : x.0 < size c * c.cells) where
  at_cell : (k d : ℕ) → k < size c * c.cells → (k ≡ x.0) ⊎ (k ≢ x.0) → get_or (set (cells_given c xs) x.0 x.1) k d ≡ given_value (xs ++ x ∷ []) k 0
  at_cell k d h (inl e) =
      ap (λ a. get_or (set (cells_given c xs) x.0 x.1) a d) e
      ∙ get_or-set_same (cells_given c xs) x.0 x.1 d (omega (arith, small, length-cells_given c xs))
      ∙ sym (given_last xs x k 0 ∙ ap (λ b. elim b [ true ↦ x.1 | false ↦ given_value xs k 0 ]) (eq-eqb x.0 k (sym e)))
  at_cell k d h (inr e) =
      get_or-set_other (cells_given c xs) x.0 k x.1 d e
      ∙ places_at (size c * c.cells) (λ a. given_value xs a 0) k d h
      ∙ sym (given_last xs x k 0 ∙ ap (λ b. elim b [ true ↦ x.1 | false ↦ given_value xs k 0 ]) (ne_eqb x.0 k (λ s. e (sym s))))

  pub one_given_more : set (cells_given c xs) x.0 x.1 ≡ cells_given c (xs ++ x ∷ [])
  one_given_more =
      let count = length-set (cells_given c xs) x.0 x.1 ∙ length-cells_given c xs in
      same_lists (set (cells_given c xs) x.0 x.1) (cells_given c (xs ++ x ∷ []))
      (count ∙ sym (length-cells_given c (xs ++ x ∷ [])))
      (λ k d l.
      let within : k < size c * c.cells = omega (arith, l, count) in
      at_cell k d within (cases_eq k x.0) ∙ sym (places_at (size c * c.cells) (λ a. given_value (xs ++ x ∷ []) a 0) k d within))
