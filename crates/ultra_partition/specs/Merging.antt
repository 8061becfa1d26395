-- lists of entries, each in the order of the ranks, and the one list that they make together
use Rattle.std.specs.Prelude.{◌≡◌, ℕ, ◌<◌, ◌≤◌, ◌==◌, List, [], ◌∷◌, All, filter, refl, slice_index_or, Option, Some, None}
use Rattle.std.specs.{List.Sorted.IsNonDecreasingBy, Coded.{Coded, code_by, coded×, coded_list}}
use Rattle.ultra_model.specs.Places.{places, joined}
use Rattle.ultra_partition.specs.declared.merging.Front.{Front}

module _ {T : Type 0} (rank : T → ℕ) where
  -- the entries of one rank, in order
  abbrev pub of_rank : ℕ → List T → List T
  of_rank i entries = filter (λ e. rank e == i) entries

  -- the entries of all lists by rank, below a bound, and those of one rank list by list
  unfoldable pub merged : ℕ → List (List T) → List T
  merged count lists = joined (places count (λ i. of_rank i (joined lists)))

  -- entries are in the order of their ranks, which are below a bound
  pub record IsRanked (count : ℕ) (entries : List T) : Type 0 where
    pub ascends : IsNonDecreasingBy rank entries
    pub within : All (λ e. rank e < count) entries

  -- of the first n lists, list `place` has the entry that comes next. One of this rank is first
  -- there. The lists before it have greater ranks only, and from it on no list has a smaller one
  pub record IsNextPlace (lists : List (List T)) (n place r : ℕ) : Type 0 where
    pub within : place < n
    pub entry : T
    pub rest : List T
    pub is : slice_index_or lists place [] ≡ entry ∷ rest
    pub ranked : rank entry ≡ r
    pub before : (i : ℕ) → i < place → All (λ e. r < rank e) (slice_index_or lists i [])
    pub behind : (i : ℕ) → place ≤ i → i < n → All (λ e. r ≤ rank e) (slice_index_or lists i [])

  -- the one of the first n lists whose first entry comes next; there is none where they are empty
  abbrev pub IsFront : List (List T) → ℕ → Option Front → Type 0
  IsFront lists n None = (i : ℕ) → i < n → slice_index_or lists i [] ≡ []
  IsFront lists n (Some f) = IsNextPlace lists n f.place f.rank

-- what a merge has left: what ranks its entries, and the rest of each list
pub record Remainder (R T : Type 0) : Type 0 where
  pub ranking : R
  pub lists : List (List T)

-- the entries left, in the order in which they come
abbrev pub entries_left : {R T : Type 0} → (R → T → ℕ) → (R → ℕ) → Remainder R T → List T
entries_left rank_of rank_count m = merged (rank_of m.ranking) (rank_count m.ranking) m.lists

-- a remainder is stored as the pair of its fields
abbrev pub remainder_code : {R T : Type 0} → Coded R → Coded T → Coded (Remainder R T)
remainder_code {R} {T} ranking entry =
    code_by (R × List (List T)) (coded× ranking (coded_list (coded_list entry)))
    (λ m. (m.ranking, m.lists)) (λ p. record { ranking = p.0; lists = p.1 }) (λ _. refl)
