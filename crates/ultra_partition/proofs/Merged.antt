-- Entries by rank, in one list and in several, the search for the list whose first entry comes next, and what a merge gives, entry by entry.
use Rattle.std.proofs.Common.{◌≡◌, ◌≢◌, ℕ, zero, suc, ◌<◌, List, [], ◌∷◌, map, length, get_or, set, refl, arith, ◌+◌, ◌++◌, All, cond, nat_le, nat_lt, ◌&&◌, None, drop, Option, Some, sym, ◌∙◌, ap, subst, Bor, length-set, leb-true, slice_get, MatchOption}
use Rattle.std.proofs.lemmas.{Bool.{Decides.nat_tests, cases_eq}, List.Elements.{All-set, All-tail, filter-append}, Option.slice_get_cases}
use Rattle.std.proofs.lemmas.List.{append-nil, drop_all, get_or-map, length-map, map-set, nil_from_length, take_all}
use Rattle.std.specs.List.{range_with_len, refill}
use Rattle.ultra_model.specs.Places.{joined, places}
use Rattle.ultra_partition.specs.{Merging.{IsFront, IsNextPlace, IsRanked, merged, of_rank}, declared.merging.Front.Front}

module _ {T : Type 0} (rank : T → ℕ) where
  -- ---- entries of one rank
  pub of_rank_none : (i : ℕ) (xs : List T) → All (λ e. rank e ≢ i) xs → of_rank rank i xs ≡ []
  of_rank_none i [] others = refl
  of_rank_none i (x ∷ xs) others = grind (arith, nat_tests, others 0 x, of_rank_none i xs (All-tail (λ e. rank e ≢ i) x xs others))

  -- no list has any
  pub none_in_lists : (i : ℕ) (lists : List (List T)) → ((j : ℕ) → j < length lists → All (λ e. rank e ≢ i) (get_or lists j [])) → of_rank rank i (joined lists) ≡ []
  none_in_lists i [] others = refl
  none_in_lists i (xs ∷ lists) others =
      grind (arith, filter-append, of_rank_none i xs (others zero (omega arith)), none_in_lists i lists (λ j h. others (suc j) (omega arith)))

  -- an entry goes; if it is of the rank, the lists before have none of it
  pub entry_gone : (i k : ℕ) (lists : List (List T)) (x : T) (rest : List T) → get_or lists k [] ≡ x ∷ rest → (rank x ≡ i → (j : ℕ) → j < k → All (λ e. rank e ≢ i) (get_or lists j []))
      → of_rank rank i (joined lists) ≡ of_rank rank i (x ∷ []) ++ of_rank rank i (joined (set lists k rest))
  entry_gone i k [] x rest is before = cc
  entry_gone i zero (xs ∷ lists) x rest is before = grind (arith, filter-append, nat_tests)
  entry_gone i (suc k) (xs ∷ lists) x rest is before =
      grind (arith, filter-append, nat_tests, λ (same : rank x ≡ i). of_rank_none i xs (before same zero (omega arith)), entry_gone i k lists x rest is (λ same j h. before same (suc j) (omega arith)))

  -- ---- lists in the order of the ranks
  pub ranked_rest : (count : ℕ) (x : T) (xs : List T) → IsRanked rank count (x ∷ xs) → IsRanked rank count xs
  ranked_rest count x xs ranked = grind (arith, λ (i j : ℕ). ranked.ascends (suc i) (suc j), All-tail (λ e. rank e < count) x xs ranked.within)

-- ---- lists joined, one for each of n places from a on
module _ {X : Type 0} where
  abbrev joined_from : ℕ → ℕ → (ℕ → List X) → List X
  joined_from a n f = joined (map f (range_with_len a n))

  none_joined : (f : ℕ → List X) (a n : ℕ) → ((i : ℕ) → f i ≡ []) → joined_from a n f ≡ []
  none_joined f a zero none = refl
  none_joined f a (suc n) none = grind (arith, none_joined f (a + 1) n none)

  -- the first element is at place r, and goes
  first_joined : (f g : ℕ → List X) (x : X) (r a n : ℕ) → ((i : ℕ) → i ≢ r → f i ≡ g i) → f r ≡ x ∷ g r → ((i : ℕ) → i < r → f i ≡ [])
      → joined_from a n f ≡ cond (nat_le a r && nat_lt r (a + n)) (x ∷ joined_from a n g) (joined_from a n g)
  first_joined f g x r a zero others here none = grind (arith, nat_tests)
  first_joined f g x r a (suc n) others here none = grind (arith, nat_tests, cases_eq a r, first_joined f g x r (a + 1) n, none a, others a)

module _ {T : Type 0} (rank : T → ℕ) (count : ℕ) where
  -- ---- entry by entry
  pub merged_none : (lists : List (List T)) → IsFront rank lists (length lists) None → merged rank count lists ≡ []
  unfolding merged places
  merged_none lists empty = grind (arith, none_joined, none_in_lists)

  pub merged_next : (lists : List (List T)) (k r : ℕ) → r < count → (next : IsNextPlace rank lists (length lists) k r)
      → merged rank count lists ≡ next.entry ∷ merged rank count (set lists k next.rest)
  unfolding merged places
  merged_next lists k r within next =
      grind (arith, nat_tests, λ (i : ℕ). entry_gone rank i k lists next.entry next.rest next.is, λ (i : ℕ). none_in_lists rank i lists, first_joined (λ i. of_rank rank i (joined lists)) (λ i. of_rank rank i (joined (set lists k next.rest))) next.entry r 0 count)

  -- ---- merges of what was merged
  -- one list is its own merge
  pub merged_alone : (xs : List T) → IsRanked rank count xs → merged rank count (xs ∷ []) ≡ xs
  merged_alone [] ranked = merged_none ([] ∷ []) (λ i h. grind arith)
  merged_alone (x ∷ xs) ranked =
      let first : IsNextPlace rank ((x ∷ xs) ∷ []) 1 0 (rank x) = record { within = omega arith; entry = x; rest = xs; is = refl; ranked = refl; before = λ i h. absurd (omega arith); behind = grind (arith, λ (k : ℕ). ranked.ascends 0 k) } in
      grind (arith, merged_next ((x ∷ xs) ∷ []) 0 (rank x) (ranked.within 0 x (omega arith)) first, merged_alone xs (ranked_rest rank count x xs ranked))

-- ---- the list at place n, behind a reference
module _ {T : Type 0} (rank : T → ℕ) (count : ℕ) (items : List (Bor (List T))) (n : ℕ) (list : Bor (List T)) (within : n < length items) (is : list ≡ get_or items n list) where
  abbrev lists : List (List T)
  lists = map (λ l. l.now) items

  here : get_or lists n [] ≡ list.now
  here = get_or-map (λ l. l.now) items n list [] within ∙ ap (λ l. l.now) (sym is)

  pub past_empty : (front : Option Front) → IsFront rank lists n front → None ≡ slice_get list.now 0 → IsFront rank lists (n + 1) front
  past_empty front before none = grind (arith, here, nil_from_length list.now, slice_get_cases list.now 0)

  module _ (all : All (λ l. IsRanked rank count l.now) items) (x : T) (first : Some x ≡ slice_get list.now 0) where
    starts : list.now ≡ x ∷ drop 1 list.now
    starts = grind arith

    ranked : IsRanked rank count (x ∷ drop 1 list.now)
    ranked = rw (← starts, is) (all n list within)

    pub entry_within : rank x < count
    entry_within = ranked.within 0 x (omega arith)

    -- the search goes on from the one that comes first
    new_front : ((i : ℕ) → i < n → All (λ e. rank x < rank e) (get_or lists i [])) → IsNextPlace rank lists (n + 1) n (rank x)
    new_front later = let is = here ∙ starts in grind (arith, λ (k : ℕ). ranked.ascends 0 k)

    pub goes_on : (front : Option Front) → IsFront rank lists n front → (now : Front) → (let next : Front = record { place = n; rank = rank x } in MatchOption front (now ≡ next) (λ f. now ≡ cond (nat_le f.rank (rank x)) f next))
        → IsNextPlace rank lists (n + 1) now.place now.rank
    goes_on front before now sooner = let is = here ∙ starts in grind (arith, leb-true, new_front, λ (k : ℕ). ranked.ascends 0 k)

-- ---- the lists, after the one at a place has given its first entry
module _ {T : Type 0} (rank : T → ℕ) (count : ℕ) (items : List (Bor (List T))) (all : All (λ l. IsRanked rank count l.now) items)
    (place r : ℕ) (next : IsNextPlace rank (map (λ l. l.now) items) (length (map (λ l. l.now) items)) place r)
    (old new : Bor (List T)) (x : T) (taken : (get_or items place old).now ≡ x ∷ new.now) where
  abbrev pub left : List (Bor (List T))
  left = refill (length items) items (set items place new)

  left_is : left ≡ set items place new
  left_is = grind (arith, length-set, drop_all, append-nil, take_all)

  was_ranked : IsRanked rank count (x ∷ new.now)
  was_ranked = subst (IsRanked rank count) taken (all place old (grind (arith, length-map)))

  pub left_ranked : All (λ l. IsRanked rank count l.now) left
  left_ranked = rw left_is (All-set (λ l. IsRanked rank count l.now) items place new (ranked_rest rank count x new.now was_ranked) all)

  pub left_merged : merged rank count (map (λ l. l.now) items) ≡ x ∷ merged rank count (map (λ l. l.now) left)
  left_merged =
      grind (arith, merged_next rank count (map (λ l. l.now) items) place r, get_or-map (λ l. l.now) items place old [], length-map, left_is, map-set, was_ranked.within 0 x)
