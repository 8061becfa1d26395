-- What blocks list, merged by rank. First, lists joined, one for each place, and what several blocks list. Then, what the units
-- of a sort list in all blocks is what they list in the whole machine, and each block lists it in the order of the ranks.
use Rattle.std.proofs.Common.{◌≡◌, ◌≢◌, ℕ, zero, suc, ◌+◌, ◌<◌, List, [], ◌∷◌, ◌++◌, map, Option, length, length-append, refl, sym, ◌∙◌, ap, inl, inr, arith, ◌≤◌, ◌-◌, ◌/◌, min, append-nil}
use Rattle.ultra_partition.proofs.Common.{cases_lt, get_or-append_right, get_or_append_left, All-from_recursion, filter-append, AllByRecursion, range_with_len, present, each-append, same_places, joined_next, joined_none, block_at, BlockState, value_or, home, AreMerged, InRanks, AreBlocks, MergedLaw, Lane, arrive, combinations, switch_number, combinations_of, Request, Ports, Switch, event_rank, stop_rank, places, joined, merged, of_rank, merged_alone, of_rank_none, merged_events, merged_stops, list_of, entries_before}
use Rattle.ultra_partition.proofs.{Columns.same_entries, Units.{Sort, at_home, away, home_small}}

-- what units list, in order, where only n of them behind others list anything
listed_by_sort : {T E : Type 0} (listed : ℕ → T → List E) (t : T) (before n : ℕ) (g : ℕ → List E) → ((i : ℕ) → i < before → listed i t ≡ []) → ((i : ℕ) → before + n ≤ i → listed i t ≡ [])
    → ((i : ℕ) → i < n → listed (before + i) t ≡ g i) → (m : ℕ) → entries_before listed m t ≡ joined (places (min (m - before) n) g)
unfolding entries_before
listed_by_sort listed t before n g lower upper same zero = grind (arith, joined_none)
listed_by_sort listed t before n g lower upper same (suc m) =
    let here = same (m - before) in grind (arith, joined_next, append-nil, listed_by_sort listed t before n g lower upper same m)

pub units_list_nothing : {T E : Type 0} (listed : ℕ → T → List E) (m : ℕ) (t : T) → ((i : ℕ) → listed i t ≡ []) → entries_before listed m t ≡ []
units_list_nothing listed m t none = listed_by_sort listed t 0 0 (λ i. []) (λ i h. none i) (λ i h. none i) (λ i h. none _) m ∙ grind (arith, joined_none)

-- ---- lists with at most one element each
present_each : {X Y : Type 0} (o : Y → Option X) (ys : List Y) → joined (map (λ y. present (o y ∷ [])) ys) ≡ present (map o ys)
present_each o [] = refl
present_each o (y ∷ ys) = grind (arith, append-nil, present_each o ys)

pub joined_present : {X : Type 0} (n : ℕ) (o : ℕ → Option X) → joined (places n (λ i. present (o i ∷ []))) ≡ present (places n o)
unfolding places
joined_present n o = present_each o (range_with_len 0 n)

-- ---- what several blocks list
none_listed : {X : Type 0} (f : BlockState → List X) (bs : List BlockState) → ((k : ℕ) → k < length bs → f (block_at bs k) ≡ []) → joined (map f bs) ≡ []
none_listed f [] none = refl
none_listed f (b ∷ bs) none = let rest = none_listed f bs (λ k h. none (suc k) (omega arith)) in grind (arith, none zero)

-- block h alone lists something
pub joined_home : {X : Type 0} (f : BlockState → List X) (bs : List BlockState) (h : ℕ) → h < length bs → ((k : ℕ) → k < length bs → k ≢ h → f (block_at bs k) ≡ []) → joined (map f bs) ≡ f (block_at bs h)
joined_home f [] h within away = absurd (omega arith)
joined_home f (b ∷ bs) zero within away = grind (arith, append-nil, none_listed f bs, λ (k : ℕ). away (suc k))
joined_home f (b ∷ bs) (suc h) within away = grind (arith, away zero, joined_home f bs h (omega arith) (λ k l other. away (suc k) (omega arith) (λ e. other (omega arith))))

-- ---- lists by rank
module _ {X : Type 0} (rank : X → ℕ) where
  -- all of a list have the rank
  abbrev pub HaveRank : ℕ → List X → Type 0
  HaveRank r xs = AllByRecursion (λ x. rank x ≡ r) xs

  -- one list after another
  one_after : (low mid high : ℕ) (xs ys : List X) → low ≤ mid → mid ≤ high → InRanks rank low mid xs → InRanks rank mid high ys → InRanks rank low high (xs ++ ys)
  one_after low mid high xs ys from to hx hy = grind (arith, length-append, get_or_append_left, get_or-append_right)

  -- what they list of one rank
  picked : (r : ℕ) (f : BlockState → List X) (bs : List BlockState) → of_rank rank r (joined (map f bs)) ≡ joined (map (λ b. of_rank rank r (f b)) bs)
  picked r f [] = refl
  picked r f (b ∷ bs) = grind (arith, filter-append, picked r f bs)

  same_picked : (r : ℕ) (f h : BlockState → List X) (old now : List BlockState) → length now ≡ length old → ((k : ℕ) → k < length old → of_rank rank r (h (block_at now k)) ≡ of_rank rank r (f (block_at old k)))
      → of_rank rank r (joined (map h now)) ≡ of_rank rank r (joined (map f old))
  same_picked r f h old now count same = picked r h now ∙ ap (λ xss. joined xss) (same_entries _ _ old now count same) ∙ sym (picked r f old)

  -- as many blocks list something behind what was listed
  module _ (low mid high : ℕ) (from : low ≤ mid) (to : mid ≤ high) (old now : List BlockState) (count : length now ≡ length old) (f g h : BlockState → List X)
      (behind : (k : ℕ) → k < length old → h (block_at now k) ≡ f (block_at old k) ++ g (block_at old k)) (a b : List X) where
    pub listed_behind : AreMerged rank low mid f old a → AreMerged rank mid high g old b → AreMerged rank low high h now (a ++ b)
    listed_behind first next =
        record {
          each = λ k within. rw (behind k (omega arith)) (one_after _ _ _ _ _ from to (first.each k (omega arith)) (next.each k (omega arith)));
          whole = one_after _ _ _ _ _ from to first.whole next.whole;
          same = λ r. elim (cases_lt r mid) [
            | inl before ↦
                let none = λ (xs : List X) (is : InRanks rank mid high xs). of_rank_none rank r xs (grind arith) in
                same_picked r f h old now count (λ k l. let here = behind k l in let empty = none (g (block_at old k)) (next.each k l) in grind (arith, filter-append, append-nil)) ∙ first.same r ∙ grind (arith, filter-append, append-nil)
            | inr past ↦
                let none = λ (xs : List X) (is : InRanks rank low mid xs). of_rank_none rank r xs (grind arith) in
                same_picked r g h old now count (λ k l. let here = behind k l in let empty = none (f (block_at old k)) (first.each k l) in grind (arith, filter-append)) ∙ next.same r ∙ grind (arith, filter-append)
          ];
        }

  -- as many blocks list the same
  pub same_listed : (low high : ℕ) (old now : List BlockState) (f h : BlockState → List X) (all : List X) → length now ≡ length old → ((k : ℕ) → k < length old → h (block_at now k) ≡ f (block_at old k))
      → AreMerged rank low high f old all → AreMerged rank low high h now all
  same_listed low high old now f h all count same was =
      record { each = λ k within. rw (same k (omega arith)) (was.each k (omega arith)); whole = was.whole; same = rw (same_entries f h old now count same) was.same }

  -- none lists anything
  pub nothing_listed : (low high : ℕ) (f : BlockState → List X) (bs : List BlockState) → ((k : ℕ) → k < length bs → f (block_at bs k) ≡ []) → AreMerged rank low high f bs []
  nothing_listed low high f bs none = let empty = none_listed f bs none in grind arith

  -- all together, by their ranks
  pub all_merged : (width : ℕ) (f : BlockState → List X) (bs : List BlockState) (all : List X) → AreMerged rank 0 width f bs all → merged rank width (map f bs) ≡ all
  unfolding merged
  all_merged width f bs all is =
      ap joined (same_places width _ _ (λ r h. is.same r ∙ ap (of_rank rank r) (sym (append-nil all)))) ∙ merged_alone rank width all is.whole.ranked

-- ---- combinations have the rank of their switch
module _ (d : ℕ) where
  each_ranked : (i wait_places s x : ℕ) (l : Lane) (rs : List Request) → switch_number d s (x / 2) ≡ i → HaveRank (event_rank d) (640 + i) (combinations wait_places s x l rs)
  each_ranked i wait_places s x l [] at = tt
  each_ranked i wait_places s x l (r ∷ rs) at =
      grind (arith, each_ranked i wait_places s x (arrive wait_places l r) rs at)

  pub combinations_ranked : (n i s k : ℕ) (w : Switch) (incoming : Ports (Option Request)) → switch_number d s k ≡ i → HaveRank (event_rank d) (640 + i) (combinations_of d s k n w incoming)
  combinations_ranked n i s k w incoming at = grind (arith, each-append, each_ranked)

-- ---- unit by unit
module _ (d : ℕ) (partition : List ℕ) (bs : List BlockState) (blocks : AreBlocks d partition bs) where
  -- of the units of a block those of a sort list this, and no others anything
  pub record OnlyList {X L E T : Type 0} (sort : Sort X) (on : ℕ → BlockState → L) (list : ℕ → X → L → List E) (entries : ℕ → T → List E) (see : BlockState → T) : Type 0 where
    pub within : sort.number d 0 + sort.count d ≤ 320
    pub lower : (i : ℕ) (t : T) → i < sort.number d 0 → entries i t ≡ []
    pub upper : (i : ℕ) (t : T) → sort.number d 0 + sort.count d ≤ i → entries i t ≡ []
    pub number : (i : ℕ) → sort.number d 0 + i ≡ sort.number d i
    pub same : (i : ℕ) (b : BlockState) → i < sort.count d → entries (sort.number d i) (see b) ≡ list_of list i (sort.at b i, on i b)

  -- of the units of a sort that are in a block it lists what `list` says, by what is on their
  -- links. Of the machine's units that is what `g` says, and has the rank of the unit
  module _ {X L E : Type 0} (rank : E → ℕ) (low base : ℕ) (from : low ≤ base) (sort : Sort X) (on : ℕ → BlockState → L) (list : ℕ → X → L → List E) (g : ℕ → List E) where
    abbrev at : ℕ → ℕ
    at i = home partition (sort.number d i)

    abbrev of_unit : ℕ → BlockState → List E
    of_unit i b = list_of list i (sort.at b i, on i b)

    abbrev IsOfMachine : Type 0
    IsOfMachine = (i : ℕ) → i < sort.count d → (list i (value_or sort.nothing (sort.at (block_at bs (at i)) i)) (on i (block_at bs (at i))) ≡ g i) × HaveRank rank (base + i) (g i)

    -- of the first m units
    first_listed : IsOfMachine → (m high : ℕ) → m ≤ sort.count d → base + m ≤ high → AreMerged rank low high (λ b. joined (places m (λ i. of_unit i b))) bs (joined (places m g))
    first_listed are zero high h to = rw joined_none (nothing_listed _ _ _ _ bs (λ k l. joined_none _))
    first_listed are (suc m) high h to =
        let small : m < sort.count d = omega arith in
        let is = are m small in
        let elsewhere : (k : ℕ) → k < length bs → k ≢ at m → of_unit m (block_at bs k) ≡ [] = grind (arith, away sort _ _ _ blocks.cut m small) in
        let alone = joined_home (of_unit m) bs (at m) (home_small sort _ _ _ blocks.cut m small) elsewhere in
        let last : AreMerged rank (base + m) high (of_unit m) bs (g m) = grind (arith, at_home sort _ _ _ blocks.cut m small, All-from_recursion (λ x. rank x ≡ base + m) (g m) is.1) in
        rw (joined_next g (suc m) m (omega arith))
        (listed_behind _ _ _ _ (omega arith) (omega arith) _ _ refl _ _ _
        (λ k l. joined_next _ (suc m) m (omega arith)) _ _ (first_listed are m (base + m) (omega arith) (omega arith)) last)

    pub part : {T : Type 0} {entries : ℕ → T → List E} {see : BlockState → T} (high : ℕ) → base + sort.count d ≤ high → IsOfMachine → OnlyList sort on list entries see → AreMerged rank low high (λ b. entries_before entries 320 (see b)) bs (joined (places (sort.count d) g))
    part {entries = entries} {see = see} high to are only =
        let all : min (320 - sort.number d 0) (sort.count d) ≡ sort.count d = omega (arith, only.within) in
        same_listed _ _ _ _ _ _ _ _ refl
        (λ k h. rw all at (listed_by_sort entries (see (block_at bs k)) (sort.number d 0) (sort.count d) (λ i. of_unit i (block_at bs k)) (λ i. only.lower i _) (λ i. only.upper i _) (λ i h. rw (only.number i) (only.same i _ h)) 320))
        (first_listed are (sort.count d) high (omega arith) to)

pub merged_law : MergedLaw
unfolding merged_events merged_stops
merged_law d bs events stops listed stopped =
    (all_merged (event_rank d) 1280 (λ b. b.events) bs events listed, all_merged stop_rank 64 (λ b. b.stops) bs stops stopped, λ k h. record { events = (listed.each k h).ranked; stops = (stopped.each k h).ranked })
