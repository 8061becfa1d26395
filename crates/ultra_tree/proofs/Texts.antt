-- the text of a tree is that of its places, in order
use Rattle.std.proofs.Common.{◌≡◌, ℕ, zero, suc, ◌+◌, ◌-◌, ◌<◌, ◌≤◌, List, [], ◌++◌, Bool, true, false, nat_lt, Option, Some, None, codes, arith, ap, refl, sym, ◌∙◌, append_assoc, append-nil}
use Rattle.ultra_tree.specs.{Counts.leaf_count, Places.{piece, pieces}, Seen.seen_counted, declared.trees.CountedNode.{CountedNode, Pair'}}
use Rattle.ultra_tree.specs.Text.{head_text, order_mark, opening, closings, order_mark_text, tree_text}
use Rattle.ultra_tree.specs.declared.trees.CountedNode as node
use Rattle.ultra_tree.proofs.Places.{is_below, is_not_below, some_leaf}

-- ---- texts in a row
pub pieces_next : (f : ℕ → List ℕ) (i n : ℕ) → i < n → pieces f i (n - i) ≡ f i ++ pieces f (i + 1) (n - (i + 1))
pieces_next f i n h = ap (λ k. pieces f i k) (let e : n - i ≡ suc (n - (i + 1)) = omega (arith, h) in e)

pieces_append : (f : ℕ → List ℕ) (i m n : ℕ) → pieces f i (m + n) ≡ pieces f i m ++ pieces f (i + m) n
pieces_append f i zero n = ap (λ k. pieces f i k) (let e : 0 + n ≡ n = omega arith in e) ∙ ap (λ j. pieces f j n) (let e : i ≡ i + 0 = omega arith in e)
pieces_append f i (suc m) n =
    ap (λ k. pieces f i k) (let e : suc m + n ≡ suc (m + n) = omega arith in e)
    ∙ (ap (λ t. f i ++ t) (pieces_append f (i + 1) m n ∙ ap (λ j. pieces f (i + 1) m ++ pieces f j n) (let e : i + 1 + m ≡ i + suc m = omega arith in e))
    ∙ sym (append_assoc (f i) (pieces f (i + 1) m) (pieces f (i + suc m) n)))

pieces_same : (f g : ℕ → List ℕ) (i j n : ℕ) → ((k : ℕ) → k < n → f (i + k) ≡ g (j + k)) → pieces f i n ≡ pieces g j n
pieces_same f g i j zero h = refl
pieces_same f g i j (suc n) h =
    let here : f i ≡ g j = ap f (let e : i ≡ i + 0 = omega arith in e) ∙ (h 0 (omega arith) ∙ ap g (let e : j + 0 ≡ j = omega arith in e)) in
    let rest = pieces_same f g (i + 1) (j + 1) n (λ k l. ap f (let e : i + 1 + k ≡ i + suc k = omega arith in e) ∙ (h (suc k) (omega (arith, l)) ∙ ap g (let e : j + suc k ≡ j + 1 + k = omega arith in e))) in
    rw (here, rest) refl

-- what opens comes before the first alone
first_opens : (f g : ℕ → List ℕ) (s x n : ℕ) → 0 < n → ((k : ℕ) → k < n → f k ≡ opening k s x ++ g k) → pieces f 0 n ≡ head_text s x ++ pieces g 0 n
first_opens f g s x zero l h = absurd (omega (arith, l))
first_opens f g s x (suc n) l h =
    let here = h 0 (omega arith) in
    let rest = pieces_same f g 1 1 n (λ k m. ap f (let e : 1 + k ≡ suc k = omega arith in e) ∙ (h (suc k) (omega (arith, m)) ∙ ap g (let e : suc k ≡ 1 + k = omega arith in e))) in
    rw (here, rest) (append_assoc (head_text s x) (g 0) (pieces g 1 n))

opening_past : (i s x : ℕ) → 0 < i → opening i s x ≡ []
opening_past zero s x h = absurd (omega (arith, h))
opening_past (suc i) s x h = refl

closings_more : (n : ℕ) → closings (n + 1) ≡ codes "]" ++ closings n
closings_more n = ap closings (let e : n + 1 ≡ suc n = omega arith in e)

regrouped : (h o m n b c d : List ℕ) → (h ++ ((o ++ []) ++ m)) ++ ((n ++ (b ++ c)) ++ d) ≡ ((((((h ++ o) ++ m) ++ n) ++ b) ++ c) ++ d)
regrouped h o m n b c d = simp (append_assoc, append-nil)

module _ {A : Type 0} where
  -- ---- a leaf of a pair
  module _ (old new : CountedNode A) (f : Bool) (i closing : ℕ) (mark : Option Bool) where
    text_by : Bool → List ℕ
    text_by b = elim b [ true ↦ piece old i 0 (Some f) | false ↦ piece new (i - leaf_count old) (closing + 1) mark ]

    pub text_in_old : i < leaf_count old → elim (nat_lt i (leaf_count old)) [ true ↦ piece old i 0 (Some f) | false ↦ piece new (i - leaf_count old) (closing + 1) mark ] ≡ piece old i 0 (Some f)
    unfolding text_by
    text_in_old h = ap text_by (is_below i (leaf_count old) h)

    pub text_in_new : leaf_count old ≤ i → elim (nat_lt i (leaf_count old)) [ true ↦ piece old i 0 (Some f) | false ↦ piece new (i - leaf_count old) (closing + 1) mark ] ≡ piece new (i - leaf_count old) (closing + 1) mark
    unfolding text_by
    text_in_new h = ap text_by (is_not_below i (leaf_count old) h)

  -- the texts of all places, with what follows the tree
  all_pieces : (a : ℕ) (t : CountedNode A) (closing : ℕ) (mark : Option Bool) → pieces (λ i. piece t i closing mark) 0 (leaf_count t) ≡ tree_text (seen_counted a t) ++ closings closing ++ order_mark_text mark
  all_pieces a (node.Leaf p n o) closing mark = append-nil _
  all_pieces a (Pair' s x p old q new f k l) closing mark =
      let text : ℕ → List ℕ = λ i. opening i s x ++ elim (nat_lt i (leaf_count old)) [ true ↦ piece old i 0 (Some f) | false ↦ piece new (i - leaf_count old) (closing + 1) mark ] in
      let m = leaf_count old in
      let n = leaf_count new in
      let some = some_leaf old in
      let parts : pieces text 0 (m + n) ≡ pieces text 0 m ++ pieces text m n = pieces_append text 0 m n ∙ ap (λ j. pieces text 0 m ++ pieces text j n) (let e : 0 + m ≡ m = omega arith in e) in
      let of_old : pieces text 0 m ≡ head_text s x ++ pieces (λ i. piece old i 0 (Some f)) 0 m =
      first_opens text (λ i. piece old i 0 (Some f)) s x m some (λ i h. ap (λ t. opening i s x ++ t) (text_in_old old new f i closing mark h)) in
      let of_new : pieces text m n ≡ pieces (λ i. piece new i (closing + 1) mark) 0 n =
      pieces_same text (λ i. piece new i (closing + 1) mark) m 0 n (λ i h.
      ap (λ t. t ++ elim (nat_lt (m + i) m) [ true ↦ piece old (m + i) 0 (Some f) | false ↦ piece new (m + i - m) (closing + 1) mark ]) (opening_past (m + i) s x (omega (arith, some)))
      ∙ (text_in_new old new f (m + i) closing mark (omega arith) ∙ ap (λ j. piece new j (closing + 1) mark) (let e : m + i - m ≡ 0 + i = omega arith in e))) in
      parts ∙ (rw (of_old, of_new, all_pieces a old 0 (Some f), all_pieces a new (closing + 1) mark, closings_more closing) (regrouped (head_text s x) (tree_text (seen_counted a old)) (order_mark f) (tree_text (seen_counted a new)) (codes "]") (closings closing) (order_mark_text mark)))

  pub whole_text : (a : ℕ) (t : CountedNode A) → pieces (λ i. piece t i 0 None) 0 (leaf_count t) ≡ tree_text (seen_counted a t)
  whole_text a t = all_pieces a t 0 None ∙ (append-nil _ ∙ append-nil _)
