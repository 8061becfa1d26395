-- labels in order: a search finds the first of a name, which was the first before they were put in order
use Rattle.std.proofs.Common.{◌≡◌, ℕ, zero, suc, ◌<◌, ◌≤◌, Bool, true, false, List, [], ◌∷◌, ◌++◌, length, get_or, Option, Some, None, option_map, refl, sym, ◌∙◌, ap, subst, inl, inr, arith}
use Rattle.std.specs.{List.{find, All, Contains, Sorted.{IsPermutation, IsPartitionedBy, IsPartitionPoint}}, Cmp.{IsTotalOrder, IsStrictWeakOrder, Lexicographic.{slice_cmp, texts_ties}}, Ordering.{is_lt, is_eq, nat_cmp, ordering_then, ordering_reverse}, declared.cmp.Ordering.{Ordering, TheVariants.{Less, Equal, Greater}}}
use Rattle.std.proofs.lemmas.{Bool.{cases_Bool, cases_lt, lt-ltb}, Cmp.{nat_list_cmp_total, nat_cmp_total, on_total, then_total, tied_itself}, List.Sorted.{ranks_by, sorted_far, Contains-permutation, IsPermutation-sym}, Slice.Eq.bytes_eq-Decides}
use Rattle.std.proofs.lemmas.List.Elements.{All-nil, All-cons, All-head, All-tail, All-push, All-contains}
use Rattle.ultra_asm.specs.{declared.labels.Label.Label, Label.{has_name, label_cmp, AreInOrder}}

-- ---- the order of labels
abbrev name_cmp : List ℕ → List ℕ → Ordering
name_cmp = slice_cmp nat_cmp

label_total : IsTotalOrder label_cmp
label_total = then_total (on_total (λ (l : Label). l.name.now) nat_list_cmp_total) (on_total (λ (l : Label). l.line) nat_cmp_total)

name_weak : IsStrictWeakOrder (λ a b. is_lt (name_cmp a b))
name_weak = ranks_by nat_list_cmp_total (λ (n : List ℕ). n)

in_turn : (ls : List Label) → AreInOrder ls → (i j : ℕ) (d : Label) → i ≤ j → j < length ls → is_lt (label_cmp (get_or ls j d) (get_or ls i d)) ≡ false
in_turn ls up i j d h k = sorted_far (λ (a b : Label). is_lt (label_cmp a b)) (ranks_by label_total (λ (l : Label). l)) ls up i j d h k

first_part : (a b : Ordering) → is_lt (ordering_then a b) ≡ false → is_lt a ≡ false
first_part Less b h = h
first_part Equal b h = refl
first_part Greater b h = refl

second_part : (a b : Ordering) → a ≡ Equal → is_lt (ordering_then a b) ≡ false → is_lt b ≡ false
second_part a b e h = rw e at h

below_chain : (a b c : List ℕ) → is_lt (name_cmp b a) ≡ false → is_lt (name_cmp b c) ≡ true → is_lt (name_cmp a c) ≡ true
below_chain a b c h k = elim (cases_Bool (is_lt (name_cmp a c))) [
  | inl t ↦ t
  | inr f ↦ let weak = name_weak in let no = weak.chain b a c h f in absurd cc
]

neither_below : (o : Ordering) → is_lt o ≡ false → is_lt (ordering_reverse o) ≡ false → is_eq o ≡ true
neither_below Less h k = absurd cc
neither_below Equal h k = refl
neither_below Greater h k = absurd cc

below_differs : (o : Ordering) → is_lt o ≡ true → is_eq o ≡ false
below_differs Less h = refl
below_differs Equal h = absurd cc
below_differs Greater h = absurd cc

not_below : (m n : ℕ) → is_lt (nat_cmp n m) ≡ false → m ≤ n
not_below m n h = elim (cases_lt n m) [
  | inl l ↦ let t = lt-ltb n m l in let no = rw t at h in absurd cc
  | inr l ↦ l
]

-- ---- the first of a name
module _ (q : List ℕ) where
  is_named : (l : Label) → has_name q l ≡ true → l.name.now ≡ q
  is_named l h = (bytes_eq-Decides l.name.now q).0 h

  same_name : (a b : Label) → has_name q a ≡ true → has_name q b ≡ true → name_cmp b.name.now a.name.now ≡ Equal
  same_name a b h k =
      let first = is_named a h in
      let second = is_named b k in
      rw (first, second) (tied_itself nat_list_cmp_total q)

  -- those of the name are in the order of their lines
  abbrev pub AreInTurn : List Label → Type 0
  AreInTurn [] = Unit {0}
  AreInTurn (l ∷ ls) = (has_name q l ≡ true → All (λ m. has_name q m ≡ true → l.line ≤ m.line) ls) × AreInTurn ls

  pub turns_push : (ls : List Label) (m : Label) → AreInTurn ls → All (λ l. l.line ≤ m.line) ls → AreInTurn (ls ++ m ∷ [])
  turns_push [] m t all = ((λ is. All-nil (λ n. has_name q n ≡ true → m.line ≤ n.line)), tt)
  turns_push (l ∷ ls) m t all =
      let P : Label → Type 0 = λ n. has_name q n ≡ true → l.line ≤ n.line in
      let here = All-head (λ n. n.line ≤ m.line) l ls all in
      let rest = All-tail (λ n. n.line ≤ m.line) l ls all in
      ((λ is. All-push P ls m (t.0 is) (λ there. here)), turns_push ls m t.1 rest)

  turns_by_index : (ls : List Label) → ((i j : ℕ) (d : Label) → i ≤ j → j < length ls → has_name q (get_or ls i d) ≡ true → has_name q (get_or ls j d) ≡ true → (get_or ls i d).line ≤ (get_or ls j d).line) → AreInTurn ls
  turns_by_index [] h = tt
  turns_by_index (l ∷ ls) h = ((λ is k d lt there. h 0 (suc k) d (omega arith) (omega arith) is there), turns_by_index ls (λ i j d le lt is there. h (suc i) (suc j) d (omega arith) (omega arith) is there))

  pub turns_in_order : (ls : List Label) → AreInOrder ls → AreInTurn ls
  turns_in_order ls up = turns_by_index ls (λ i j d le lt is there. not_below _ _ (second_part _ _ (same_name (get_or ls i d) (get_or ls j d) is there) (in_turn ls up i j d le lt)))

  record IsLeast (ls : List Label) (l : Label) : Type 0 where
    stands : Contains ls l
    named : has_name q l ≡ true
    least : All (λ m. has_name q m ≡ true → l.line ≤ m.line) ls

  found_least : (ls : List Label) → AreInTurn ls → (l : Label) → find (has_name q) ls ≡ Some l → IsLeast ls l
  found_least [] t l h = absurd cc
  found_least (m ∷ ms) t l h = elim (cases_Bool (has_name q m)) [
    | inl y ↦
        let found = rw y at h in
        let same : m ≡ l = cc in
        subst (IsLeast (m ∷ ms)) same (record {
          stands = (0, omega arith, refl);
          named = y;
          least = All-cons (λ n. has_name q n ≡ true → m.line ≤ n.line) m ms (λ is. omega arith) (t.0 y);
        })
    | inr n ↦
        let later = found_least ms t.1 l (rw n at h) in
        let (k, lt, is) = later.stands in
        record {
          stands = (suc k, omega arith, is);
          named = later.named;
          least = All-cons (λ n. has_name q n ≡ true → l.line ≤ n.line) m ms (λ y. absurd cc) later.least;
        }
  ]

  none_named : (ls : List Label) → find (has_name q) ls ≡ None → All (λ l. has_name q l ≡ false) ls
  none_named [] h = All-nil (λ l. has_name q l ≡ false)
  none_named (l ∷ ls) h = elim (cases_Bool (has_name q l)) [
    | inl y ↦ let no = rw y at h in absurd cc
    | inr n ↦ All-cons (λ l. has_name q l ≡ false) l ls n (none_named ls (rw n at h))
  ]

  module _ (xs ys : List Label) (moved : IsPermutation xs ys) (before : AreInTurn xs) (after : AreInTurn ys) where
    there : (l : Label) → Contains xs l → Contains ys l
    there l h = Contains-permutation xs ys l moved h

    back : (l : Label) → Contains ys l → Contains xs l
    back l h = Contains-permutation ys xs l (IsPermutation-sym xs ys moved) h

    same_by : (a b : Option Label) → find (has_name q) xs ≡ a → find (has_name q) ys ≡ b → option_map (λ l. l.line) b ≡ option_map (λ l. l.line) a
    same_by None None e f = refl
    same_by None (Some m) e f =
        let found = found_least ys after m f in
        let no = All-contains (λ l. has_name q l ≡ false) xs m (none_named xs e) (back m found.stands) in
        let yes = found.named in
        absurd cc
    same_by (Some l) None e f =
        let found = found_least xs before l e in
        let no = All-contains (λ m. has_name q m ≡ false) ys l (none_named ys f) (there l found.stands) in
        let yes = found.named in
        absurd cc
    same_by (Some l) (Some m) e f =
        let first = found_least xs before l e in
        let second = found_least ys after m f in
        let up = All-contains (λ n. has_name q n ≡ true → l.line ≤ n.line) xs m first.least (back m second.stands) second.named in
        let down = All-contains (λ n. has_name q n ≡ true → m.line ≤ n.line) ys l second.least (there l first.stands) first.named in
        let line : m.line ≡ l.line = omega arith in
        ap Some line

    pub same_first : option_map (λ l. l.line) (find (has_name q) ys) ≡ option_map (λ l. l.line) (find (has_name q) xs)
    same_first = same_by (find (has_name q) xs) (find (has_name q) ys) refl refl

  -- ---- the search
  find_at : (ls : List Label) (i : ℕ) (d : Label) → ((k : ℕ) → k < i → has_name q (get_or ls k d) ≡ false) → i < length ls → has_name q (get_or ls i d) ≡ true → find (has_name q) ls ≡ Some (get_or ls i d)
  find_at [] i d h lt y = absurd (omega arith)
  find_at (l ∷ ls) zero d h lt y = rw y refl
  find_at (l ∷ ls) (suc i) d h lt y = let n = h 0 (omega arith) in rw n (find_at ls i d (λ k below. h (suc k) (omega arith)) (omega arith) y)

  find_none : (ls : List Label) (d : Label) → ((k : ℕ) → k < length ls → has_name q (get_or ls k d) ≡ false) → find (has_name q) ls ≡ None
  find_none [] d h = refl
  find_none (l ∷ ls) d h = let n = h 0 (omega arith) in rw n (find_none ls d (λ k below. h (suc k) (omega arith)))

  abbrev pub is_below : Label → Bool
  is_below l = is_lt (name_cmp l.name.now q)

  other_name : (l : Label) → is_below l ≡ true → has_name q l ≡ false
  other_name l h = texts_ties l.name.now q ∙ below_differs (name_cmp l.name.now q) h

  module _ (ls : List Label) (up : AreInOrder ls) where
    pub parted : IsPartitionedBy is_below ls
    parted i j d le lt h = below_chain (get_or ls i d).name.now (get_or ls j d).name.now q (first_part _ _ (in_turn ls up i j d le lt)) h

    module _ (i : ℕ) (point : IsPartitionPoint (λ l. is_below l ≡ true) (λ l. is_below l ≡ false) ls i) where
      none_below : (d : Label) (k : ℕ) → k < i → has_name q (get_or ls k d) ≡ false
      none_below d k h = other_name (get_or ls k d) (point.0 k d (omega arith) h)

      pub hit : (d : Label) → i < length ls → has_name q (get_or ls i d) ≡ true → find (has_name q) ls ≡ Some (get_or ls i d)
      hit d lt y = find_at ls i d (none_below d) lt y

      -- if a label from here on has the name, so has the label here
      further : (d : Label) (k : ℕ) → i ≤ k → k < length ls → has_name q (get_or ls k d) ≡ true → has_name q (get_or ls i d) ≡ true
      further d k le lt y =
          let here = (get_or ls i d).name.now in
          let not_after : is_lt (name_cmp (get_or ls k d).name.now here) ≡ false = first_part _ _ (in_turn ls up i k d le lt) in
          let named : (get_or ls k d).name.now ≡ q = is_named (get_or ls k d) y in
          let total = nat_list_cmp_total in
          let turned : is_lt (ordering_reverse (name_cmp here q)) ≡ false = ap is_lt (sym (total.antisymm q here)) ∙ (rw named at not_after) in
          texts_ties here q ∙ neither_below (name_cmp here q) (point.1 i d (omega arith) (omega arith)) turned

      none_at : (d : Label) → (i < length ls → has_name q (get_or ls i d) ≡ false) → (k : ℕ) → k < length ls → has_name q (get_or ls k d) ≡ false
      none_at d n k lt = elim (cases_lt k i) [
        | inl l ↦ none_below d k l
        | inr l ↦ elim (cases_Bool (has_name q (get_or ls k d))) [
          | inl y ↦ let yes = further d k l lt y in let no = n (omega arith) in absurd cc
          | inr f ↦ f
        ]
      ]

      pub miss : (d : Label) → (i < length ls → has_name q (get_or ls i d) ≡ false) → find (has_name q) ls ≡ None
      miss d n = find_none ls d (none_at d n)
