-- what several events do to the trees that are kept, where each reference is named at most once
use Rattle.std.proofs.Common.{◌≡◌, ℕ, zero, suc, ◌+◌, ◌<◌, ◌≤◌, List, [], ◌∷◌, ◌++◌, Bool, true, false, refl, arith, sym, ◌∙◌, ap, subst, inl, inr, map}
use Rattle.std.specs.{Prelude.{Option, Some, None}, List.range_with_len}
use Rattle.ultra_msg.specs.declared.Event.{Event, TheVariants.{Delivered, Served, Combined, Issued}}
use Rattle.ultra_model.specs.{Places.{places, table, joined, present}, Balance.{weight, total}}
use Rattle.ultra_model.proofs.{Sums.{total_none, total_front, total_same}, Counting.is_reference}
use Rattle.ultra_serial_law.specs.Tree.{Tree, pair, Kept, kept, is_under, tree_of, without, with_pair, trees_after}
use Rattle.ultra_serial_law.specs.SerialList.{History, noted, after_event}
use Rattle.ultra_serial_law.proofs.{Tidy.{is_that, that_is, zero_weight}, Explained.{IsIn, in-append, in-append_right}}

-- how often an event names a reference whose tree it changes
abbrev pub mention : (ℕ → ℕ → Bool) → Event → ℕ
mention t (Delivered r) = 0
mention t (Served k r reply now) = weight (t r.pe r.cell)
mention t (Combined s x a p q f) = weight (t p a) + weight (t q a)
mention t (Issued r n) = weight (t r.pe r.cell)

-- the sum over a list
abbrev pub sum_of : {X : Type 0} → (X → ℕ) → List X → ℕ
sum_of g [] = 0
sum_of g (x ∷ xs) = g x + sum_of g xs

abbrev pub mentions : (ℕ → ℕ → Bool) → List Event → ℕ
mentions t es = sum_of (λ e. mention t e) es

pub sum-append : {X : Type 0} (g : X → ℕ) (xs ys : List X) → sum_of g (xs ++ ys) ≡ sum_of g xs + sum_of g ys
sum-append g [] ys = omega arith
sum-append g (x ∷ xs) ys = omega (arith, sum-append g xs ys)

pub sum-joined : {X : Type 0} (g : X → ℕ) (xss : List (List X)) → sum_of g (joined xss) ≡ sum_of (λ xs. sum_of g xs) xss
sum-joined g [] = refl
sum-joined g (xs ∷ xss) = omega (arith, sum-append g xs (joined xss), sum-joined g xss)

sum-from : {X : Type 0} (g : X → ℕ) (f : ℕ → X) (n a : ℕ) → sum_of g (map f (range_with_len a n)) ≡ total n (λ k. g (f (a + k)))
sum-from g f zero a = sym (total_none (λ k. g (f (a + k))))
sum-from g f (suc n) a =
    let rest = sum-from g f n (a + 1) in
    let front = total_front n (λ k. g (f (a + k))) in
    let first : g (f a) ≡ g (f (a + 0)) = ap (λ k. g (f k)) (omega arith) in
    let same : total n (λ k. g (f (a + 1 + k))) ≡ total n (λ k. g (f (a + (k + 1)))) = total_same n _ _ (λ k l. ap (λ j. g (f j)) (omega arith)) in
    omega (arith, rest, front, first, same)

pub sum-places : {X : Type 0} (g : X → ℕ) (n : ℕ) (f : ℕ → X) → sum_of g (places n f) ≡ total n (λ k. g (f k))
unfolding places
sum-places g n f = sum-from g f n 0 ∙ total_same n _ _ (λ k l. ap (λ j. g (f j)) (omega arith))

-- over the events that there are
abbrev pub mention_some : (ℕ → ℕ → Bool) → Option Event → ℕ
mention_some t None = 0
mention_some t (Some e) = mention t e

pub present_mentions : (t : ℕ → ℕ → Bool) (os : List (Option Event)) → mentions t (present os) ≡ sum_of (mention_some t) os
present_mentions t [] = refl
present_mentions t (None ∷ os) = omega (arith, present_mentions t os)
present_mentions t (Some e ∷ os) = omega (arith, present_mentions t os)

-- over all places of a table
pub sum-table : {X : Type 0} (g : X → ℕ) (m n : ℕ) (f : ℕ → ℕ → List X) → sum_of g (joined (joined (table m n f))) ≡ total m (λ s. total n (λ x. sum_of g (f s x)))
sum-table g m n f =
    sum-joined g (joined (table m n f))
    ∙ (sum-joined (λ xs. sum_of g xs) (table m n f)
    ∙ (sum-places (λ xss. sum_of (λ xs. sum_of g xs) xss) m (λ s. places n (λ x. f s x))
    ∙ total_same m _ _ (λ s l. sum-places (λ xs. sum_of g xs) n (λ x. f s x))))

-- ---- what is in these lists
pub in-joined : {X : Type 0} (x : X) (xs : List X) (xss : List (List X)) → IsIn x xs → IsIn xs xss → IsIn x (joined xss)
in-joined x xs [] h k = absurd k
in-joined x xs (ys ∷ yss) h (inl e) = in-append x ys (joined yss) (subst (λ zs. IsIn x zs) (sym e) h)
in-joined x xs (ys ∷ yss) h (inr k) = in-append_right x ys (joined yss) (in-joined x xs yss h k)

in-from : {X : Type 0} (f : ℕ → X) (n a k : ℕ) → k < n → IsIn (f (a + k)) (map f (range_with_len a n))
in-from f zero a k h = absurd (omega (arith, h))
in-from f (suc n) a zero h = inl (ap f (omega arith))
in-from f (suc n) a (suc k) h = inr (subst (λ j. IsIn (f j) (map f (range_with_len (a + 1) n))) (omega arith) (in-from f n (a + 1) k (omega arith)))

pub in-places : {X : Type 0} (f : ℕ → X) (n k : ℕ) → k < n → IsIn (f k) (places n f)
unfolding places
in-places f n k h = subst (λ j. IsIn (f j) (map f (range_with_len 0 n))) (omega arith) (in-from f n 0 k h)

pub in-table : {X : Type 0} (m n : ℕ) (f : ℕ → ℕ → List X) (s x : ℕ) (v : X) → s < m → x < n → IsIn v (f s x) → IsIn v (joined (joined (table m n f)))
in-table m n f s x v hs hx h =
    in-joined v (f s x) (joined (table m n f)) h
    (in-joined (f s x) (places n (λ z. f s z)) (table m n f) (in-places (λ z. f s z) n x hx) (in-places (λ i. places n (λ z. f i z)) m s hs))

-- ---- the trees after events
abbrev pub trees_noted : List Event → List Kept → List Kept
trees_noted [] ks = ks
trees_noted (e ∷ es) ks = trees_noted es (trees_after ks e)

pub noted_trees : (n : ℕ) (es : List Event) (h : History) → (noted n es h).trees ≡ trees_noted es h.trees
noted_trees n [] h = refl
noted_trees n (e ∷ es) h = noted_trees n es (after_event n h e)

-- the tree of another reference stays
under_other : (p a : ℕ) (k : Kept) (ks : List Kept) → is_reference p a k.pe k.cell ≡ false → tree_of p a (k ∷ ks) ≡ tree_of p a ks
under_other p a k ks h = let f : Bool → Option Tree = λ b. elim b [ true ↦ Some k.tree | false ↦ tree_of p a ks ] in ap f h

without_step : (p a q b : ℕ) (k : Kept) (ks us : List Kept) (c : Bool) → is_under q b k ≡ c → is_reference p a q b ≡ false → tree_of p a us ≡ tree_of p a ks → tree_of p a (elim c [ true ↦ ks | false ↦ k ∷ us ]) ≡ tree_of p a (k ∷ ks)
without_step p a q b k ks us true e h r =
    let same = is_that q b k.pe k.cell e in
    sym (under_other p a k ks (rw (same.0, same.1) h))
without_step p a q b k ks us false e h r = let f : Option Tree → Option Tree = λ o. elim (is_under p a k) [ true ↦ Some k.tree | false ↦ o ] in ap f r

pub without_other : (p a q b : ℕ) (ks : List Kept) → is_reference p a q b ≡ false → tree_of p a (without q b ks) ≡ tree_of p a ks
without_other p a q b [] h = refl
without_other p a q b (k ∷ ks) h = without_step p a q b k ks (without q b ks) (is_under q b k) refl h (without_other p a q b ks h)

paired_other : (p a s x b q : ℕ) (f : Bool) (ks : List Kept) (o n : Option Tree) → is_reference p a q b ≡ false → tree_of p a (with_pair s x b q f ks o n) ≡ tree_of p a ks
paired_other p a s x b q f ks None n h = refl
paired_other p a s x b q f ks (Some o) None h = refl
paired_other p a s x b q f ks (Some o) (Some n) h = under_other p a (kept q b (pair s x o n f)) ks h

event_other : (p a : ℕ) (ks : List Kept) (e : Event) → mention (is_reference p a) e ≤ 0 → tree_of p a (trees_after ks e) ≡ tree_of p a ks
event_other p a ks (Delivered r) h = refl
event_other p a ks (Served k r reply now) h = without_other p a r.pe r.cell ks (zero_weight _ h)
event_other p a ks (Combined s x b q r f) h =
    let old : is_reference p a q b ≡ false = zero_weight (is_reference p a q b) (omega (arith, h)) in
    let new : is_reference p a r b ≡ false = zero_weight (is_reference p a r b) (omega (arith, h)) in
    paired_other p a s x b q f (without r b (without q b ks)) (tree_of q b ks) (tree_of r b (without q b ks)) old
    ∙ (without_other p a r b (without q b ks) new ∙ without_other p a q b ks old)
event_other p a ks (Issued r n) h = under_other p a _ ks (zero_weight _ h)

-- a reference that isn't named keeps its tree
pub unmentioned : (p a : ℕ) (es : List Event) (ks : List Kept) → mentions (is_reference p a) es ≤ 0 → tree_of p a (trees_noted es ks) ≡ tree_of p a ks
unmentioned p a [] ks h = refl
unmentioned p a (e ∷ es) ks h = unmentioned p a es (trees_after ks e) (omega (arith, h)) ∙ event_other p a ks e (omega (arith, h))

pub in_mentions : (t : ℕ → ℕ → Bool) (e : Event) (es : List Event) → IsIn e es → mention t e ≤ mentions t es
in_mentions t e [] h = absurd h
in_mentions t e (u ∷ es) (inl z) = let same : mention t u ≡ mention t e = ap (λ v. mention t v) z in omega (arith, same)
in_mentions t e (u ∷ es) (inr h) = let rest = in_mentions t e es h in omega (arith, rest)

paired_known : (s x a p q : ℕ) (f : Bool) (ks us : List Kept) (o n : Tree) (oo nn : Option Tree) → oo ≡ Some o → nn ≡ Some n → tree_of p a (with_pair s x a p f us oo nn) ≡ Some (pair s x o n f)
paired_known s x a p q f ks us o n oo nn e d =
    let g : Bool → Option Tree = λ b. elim b [ true ↦ Some (pair s x o n f) | false ↦ tree_of p a us ] in
    rw (e, d) (ap g (that_is p a))

-- two that combine have the pair of their trees
pub combined_tree : (s x a p q : ℕ) (f : Bool) (o n : Tree) (es : List Event) (ks : List Kept) → IsIn (Combined s x a p q f) es → mentions (is_reference p a) es ≤ 1 → mentions (is_reference q a) es ≤ 1
    → tree_of p a ks ≡ Some o → tree_of q a ks ≡ Some n → tree_of p a (trees_noted es ks) ≡ Some (pair s x o n f)
combined_tree s x a p q f o n [] ks h one two old new = absurd h
combined_tree s x a p q f o n (e ∷ es) ks (inl z) one two old new =
    let here : mention (is_reference p a) e ≡ mention (is_reference p a) (Combined s x a p q f) = ap (λ v. mention (is_reference p a) v) z in
    let that : weight (is_reference p a p a) ≡ 1 = rw (that_is p a) refl in
    let rest : mentions (is_reference p a) es ≤ 0 = omega (arith, one, here, that) in
    let there : mention (is_reference q a) e ≡ mention (is_reference q a) (Combined s x a p q f) = ap (λ v. mention (is_reference q a) v) z in
    let that_q : weight (is_reference q a q a) ≡ 1 = rw (that_is q a) refl in
    let apart : is_reference q a p a ≡ false = zero_weight (is_reference q a p a) (omega (arith, two, there, that_q)) in
    unmentioned p a es (trees_after ks e) rest
    ∙ (ap (λ v. tree_of p a (trees_after ks v)) z
    ∙ paired_known s x a p q f ks (without q a (without p a ks)) o n (tree_of p a ks) (tree_of q a (without p a ks)) old (without_other q a p a ks apart ∙ new))
combined_tree s x a p q f o n (e ∷ es) ks (inr h) one two old new =
    let p_there = in_mentions (is_reference p a) (Combined s x a p q f) es h in
    let q_there = in_mentions (is_reference q a) (Combined s x a p q f) es h in
    let that_p : weight (is_reference p a p a) ≡ 1 = rw (that_is p a) refl in
    let that_q : weight (is_reference q a q a) ≡ 1 = rw (that_is q a) refl in
    combined_tree s x a p q f o n es (trees_after ks e) h (omega (arith, one)) (omega (arith, two))
    (event_other p a ks e (omega (arith, one, p_there, that_p)) ∙ old)
    (event_other q a ks e (omega (arith, two, q_there, that_q)) ∙ new)
