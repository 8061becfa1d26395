-- marks over the addresses find an address that is given twice
use Rattle.std.proofs.Common.{◌≡◌, ◌≢◌, ℕ, ◌<◌, ◌^◌, ◌+◌, Bool, true, false, not, ◌||◌, ◌==◌, ℤ, List, [], ◌∷◌, ◌++◌, length, get_or, set, take, drop, All, refl, sym, ◌∙◌, ap, inl, inr, arith, zero, suc, ◌⊎◌, add-one}
use Rattle.std.specs.List.{list_all}
use Rattle.std.proofs.lemmas.Bool.{or_cases, or_from, and_from, and_parts, and_left, and_right, or_parts, or_left, or_right, eqb-true, eqb-false, eq-eqb, ne_eqb, cases_eq, not_from_true, not-true, false≢true}
use Rattle.std.proofs.{lemmas.List.{map-append, get_or-set_same, get_or-set_other, take-append-drop, Elements.{All-push, All-nil}, Folds.{list_all-append, list_all_at}}, Math.{Seq.drop-cons, ListN.length-set}}
use Rattle.ultra_model.specs.Accepted.{is_cell, initial_cell, cells_of, is_given_value, are_different, are_initial}

-- the initial cells so far, of those that are given, and a mark at each of their addresses
pub record IsMarked (n : ℕ) (given : List (ℤ × ℤ)) (marks : List Bool) (cells : List (ℕ × ℕ)) : Type 0 where
  pub value : cells ≡ cells_of given
  pub good : list_all (is_cell n) given ≡ true
  pub different : are_different cells ≡ true
  pub size : length marks ≡ n
  pub marked : (a : ℕ) → a < n → get_or marks a false ≡ is_given_value a cells
  pub addresses : All (λ (i : ℕ × ℕ). i.0 < n) cells
  pub words : All (λ (i : ℕ × ℕ). i.1 < 2 ^ 32) cells

-- an address that is given a value by a later pair too
pub named_later : (a : ℕ) (is js : List (ℕ × ℕ)) (i : ℕ × ℕ) → a ≡ i.0 → is_given_value a (is ++ i ∷ js) ≡ true
named_later a [] js i e = or_left _ _ (eq-eqb a i.0 e)
named_later a (k ∷ ks) js i e = or_right _ _ (named_later a ks js i e)

-- an address that a further pair is not about
pub named_other : (a : ℕ) (is : List (ℕ × ℕ)) (i : ℕ × ℕ) → a ≢ i.0 → is_given_value a (is ++ i ∷ []) ≡ is_given_value a is
named_other a [] i ne = or_from _ _ (ne_eqb a i.0 ne) refl
named_other a (k ∷ ks) i ne = ap (λ b. (a == k.0) || b) (named_other a ks i ne)

pub different-push : (is : List (ℕ × ℕ)) (i : ℕ × ℕ) → are_different is ≡ true → is_given_value i.0 is ≡ false → are_different (is ++ i ∷ []) ≡ true
different-push [] i d h = refl
different-push (k ∷ ks) i d h =
    let here = and_parts _ _ d in
    let new = or_parts _ _ h in
    and_from _ _ (ap not (named_other k.0 ks i (λ e. eqb-false _ _ new.0 (sym e))) ∙ here.0) (different-push ks i here.1 new.1)

-- an address that a later pair names again
pub different_not : (is js : List (ℕ × ℕ)) (i : ℕ × ℕ) → is_given_value i.0 is ≡ true → are_different (is ++ i ∷ js) ≡ false
different_not [] js i h = absurd (false≢true h)
different_not (k ∷ ks) js i h = elim (or_cases _ _ h) [
  | inl e ↦ and_left _ _ (not_from_true _ (named_later k.0 ks js i (sym (eqb-true _ _ e))))
  | inr e ↦ and_right _ _ (different_not ks js i e)
]

unnamed_at : (a : ℕ) (is : List (ℕ × ℕ)) (k : ℕ) (d : ℕ × ℕ) → k < length is → is_given_value a is ≡ false → a ≢ (get_or is k d).0
unnamed_at a [] k d lt h e = absurd (omega arith)
unnamed_at a (i ∷ is) zero d lt h e = eqb-false _ _ (or_parts _ _ h).0 e
unnamed_at a (i ∷ is) (suc k) d lt h e = unnamed_at a is k d (omega arith) (or_parts _ _ h).1 e

pub AllPairs-different : (is : List (ℕ × ℕ)) → are_different is ≡ true → (i j : ℕ) (d : ℕ × ℕ) → i < j → j < length is → (get_or is i d).0 ≢ (get_or is j d).0
AllPairs-different [] different i j d lt len = absurd (omega arith)
AllPairs-different (k ∷ ks) different i zero d lt len = absurd (omega arith)
AllPairs-different (k ∷ ks) different zero (suc j) d lt len = unnamed_at k.0 ks j d (omega arith) (not-true _ (and_parts _ _ different).0)
AllPairs-different (k ∷ ks) different (suc i) (suc j) d lt len = AllPairs-different ks (and_parts _ _ different).1 i j d (omega arith) (omega arith)

pub marked_none : (n : ℕ) (marks : List Bool) → length marks ≡ n → ((k : ℕ) → k < n → get_or marks k false ≡ false) → IsMarked n [] marks []
marked_none n marks size clear = record {
  value = refl;
  good = refl;
  different = refl;
  size = size;
  marked = clear;
  addresses = All-nil _;
  words = All-nil _;
}

pub marked_more : (n : ℕ) (given : List (ℤ × ℤ)) (x : ℤ × ℤ) (marks : List Bool) (cells : List (ℕ × ℕ)) (c : ℕ × ℕ) → IsMarked n given marks cells → is_cell n x ≡ true → c ≡ initial_cell x → c.0 < n → c.1 < 2 ^ 32 → get_or marks c.0 false ≡ false → IsMarked n (given ++ x ∷ []) (set marks c.0 true) (cells ++ c ∷ [])
marked_more n given x marks cells c m good is address word clear = record {
  value = ap (λ cs. cs ++ c ∷ []) m.value ∙ (ap (λ i. cells_of given ++ i ∷ []) is ∙ sym (map-append initial_cell given (x ∷ [])));
  good = list_all-append (is_cell n) given (x ∷ []) ∙ and_from _ _ m.good (and_from _ _ good refl);
  different = different-push cells c m.different (sym (m.marked c.0 address) ∙ clear);
  size = length-set marks c.0 true ∙ m.size;
  marked = λ a h. elim (cases_eq a c.0) [
    | inl e ↦ rw e (get_or-set_same marks c.0 true false (omega (arith, m.size)) ∙ sym (named_later c.0 cells [] c refl))
    | inr ne ↦ get_or-set_other marks c.0 a true false ne ∙ (m.marked a h ∙ sym (named_other a cells c ne))
  ];
  addresses = All-push (λ (i : ℕ × ℕ). i.0 < n) cells c m.addresses address;
  words = All-push (λ (i : ℕ × ℕ). i.1 < 2 ^ 32) cells c m.words word;
}

-- the next of the given pairs isn't a cell, or its cell occurs before it
pub refused_at : (n : ℕ) (given : List (ℤ × ℤ)) (k : ℕ) (d : ℤ × ℤ) → k < length given → (is_cell n (get_or given k d) ≡ false) ⊎ (is_given_value (initial_cell (get_or given k d)).0 (cells_of (take k given)) ≡ true) → are_initial n given ≡ false
refused_at n given k d lt (inl h) = and_left _ _ (list_all_at (is_cell n) given k d lt h)
refused_at n given k d lt (inr h) =
    let whole : take k given ++ get_or given k d ∷ drop (k + 1) given ≡ given = rw (add-one, ← drop-cons given k d lt) (take-append-drop k given) in
    let cells : cells_of given ≡ cells_of (take k given) ++ initial_cell (get_or given k d) ∷ cells_of (drop (k + 1) given) = ap cells_of (sym whole) ∙ map-append initial_cell (take k given) _ in
    and_right _ _ (ap are_different cells ∙ different_not (cells_of (take k given)) (cells_of (drop (k + 1) given)) (initial_cell (get_or given k d)) h)

-- a cell whose mark is set occurs before
pub named_again : (n : ℕ) (given : List (ℤ × ℤ)) (x : ℤ × ℤ) (marks : List Bool) (cells : List (ℕ × ℕ)) (c : ℕ × ℕ) → IsMarked n given marks cells → c ≡ initial_cell x → c.0 < n → get_or marks c.0 false ≡ true → is_given_value (initial_cell x).0 (cells_of given) ≡ true
named_again n given x marks cells c m is address set =
    ap (λ (i : ℕ × ℕ). is_given_value i.0 (cells_of given)) (sym is) ∙ (ap (is_given_value c.0) (sym m.value) ∙ (sym (m.marked c.0 address) ∙ set))

-- given cells that are all marked are accepted
pub all_accepted : (n : ℕ) (given : List (ℤ × ℤ)) (marks : List Bool) (cells : List (ℕ × ℕ)) → IsMarked n given marks cells → are_initial n given ≡ true
all_accepted n given marks cells m = and_from _ _ m.good (ap are_different (sym m.value) ∙ m.different)
