-- the issues and the answers of one processing element, whose numbers ascend
use Rattle.std.proofs.Common.{ℕ, ◌≡◌, ◌≢◌, ◌+◌, ◌<◌, ◌≤◌, List, [], ◌∷◌, ◌++◌, inl, inr, Bool, true, false, not, ◌||◌, cond, map, refl, sym, ap, ◌∙◌, arith}
use Rattle.std.specs.{Prelude.{Some, ◌==◌}, List.{AllByRecursion, filter, find, list_any}}
use Rattle.std.proofs.lemmas.{Bool.{eqb-true, cases_lt, Decides.nat_tests}, List.{map-append, Elements.filter-append, Folds.list_any-append}}
use Rattle.ultra_model.specs.Balance.{weight, count}
use Rattle.ultra_model.proofs.{Counting.count-append, Each.{each-append, each-weaker}}
use Rattle.ultra_serial_law.specs.declared.records.{LoggedIssue.LoggedIssue, LoggedAnswer.LoggedAnswer}
use Rattle.ultra_serial_law.proofs.Explained.{IsIn}
use Rattle.ultra_latency.specs.{declared.open.OpenRequest.OpenRequest, Open.{request_for, without_request}}

abbrev pub as_open : LoggedIssue → OpenRequest
as_open i = record { number = i.number; cell = i.cell; op = i.op; cycle = i.cycle }

abbrev pub opens : List LoggedIssue → List OpenRequest
opens is = map as_open is

-- what holds of either answer, where the test is known
pub cond_tested : {X : Type 0} (b : Bool) (P : X → Type 0) (x y : X) → (b ≡ true → P x) → (b ≡ false → P y) → P (cond b x y)
cond_tested true P x y f g = f refl
cond_tested false P x y f g = g refl

-- ---- numbers from b on, below e, in ascending order
abbrev pub IsAscending : ℕ → ℕ → List LoggedIssue → Type 0
IsAscending b e [] = b ≤ e
IsAscending b e (i ∷ is) = (b ≤ i.number) × IsAscending (i.number + 1) e is

bounds : (b e : ℕ) (is : List LoggedIssue) → IsAscending b e is → b ≤ e
bounds b e [] h = h
bounds b e (i ∷ is) h = omega (arith, h.0, bounds (i.number + 1) e is h.1)

weaker : (a b e : ℕ) (is : List LoggedIssue) → a ≤ b → IsAscending b e is → IsAscending a e is
weaker a b e [] l h = omega (arith, l, h)
weaker a b e (i ∷ is) l h = (omega (arith, l, h.0), h.1)

ascending_more : (b e : ℕ) (is : List LoggedIssue) (x : LoggedIssue) → x.number ≡ e → IsAscending b e is → IsAscending b (e + 1) (is ++ x ∷ [])
ascending_more b e [] x n h = (omega (arith, n, h), omega (arith, n))
ascending_more b e (i ∷ is) x n h = (h.0, ascending_more (i.number + 1) e is x n h.1)

pub ascending_filter : (t : LoggedIssue → Bool) (b e : ℕ) (is : List LoggedIssue) → IsAscending b e is → IsAscending b e (filter t is)
ascending_filter t b e [] h = h
ascending_filter t b e (i ∷ is) h =
    let rest = ascending_filter t (i.number + 1) e is h.1 in
    cond_tested (t i) (λ xs. IsAscending b e xs) (i ∷ filter t is) (filter t is)
    (λ z. (h.0, rest))
    (λ z. weaker b (i.number + 1) e (filter t is) (omega (arith, h.0)) rest)

within : (b e : ℕ) (is : List LoggedIssue) (i : LoggedIssue) → IsAscending b e is → IsIn i is → (b ≤ i.number) × (i.number < e)
within b e [] i h k = absurd k
within b e (x ∷ is) i h (inl same) =
    let number = ap (λ (j : LoggedIssue). j.number) same in
    (omega (arith, number, h.0), omega (arith, number, bounds (x.number + 1) e is h.1))
within b e (x ∷ is) i h (inr k) =
    let rest = within (x.number + 1) e is i h.1 k in
    (omega (arith, rest.0, h.0), rest.1)

-- an issue is found by its number
pub found_by_number : (b e : ℕ) (is : List LoggedIssue) (i : LoggedIssue) → IsAscending b e is → IsIn i is → find (λ (j : LoggedIssue). j.number == i.number) is ≡ Some i
found_by_number b e [] i h k = absurd k
found_by_number b e (x ∷ is) i h (inl same) =
    let here : (x.number == i.number) ≡ true = grind (arith, nat_tests, ap (λ (j : LoggedIssue). j.number) same) in
    rw here (ap (λ j. Some j) same)
found_by_number b e (x ∷ is) i h (inr k) =
    let behind = within (x.number + 1) e is i h.1 k in
    let apart : x.number ≢ i.number = omega (arith, behind.0) in
    let later : (x.number == i.number) ≡ false = grind (arith, nat_tests) in
    rw later (found_by_number (x.number + 1) e is i h.1 k)

in_step : (b : Bool) (x : LoggedIssue) (is : List LoggedIssue) (i : LoggedIssue) (rest : List LoggedIssue) → (IsIn i rest → IsIn i is) → IsIn i (cond b (x ∷ rest) rest) → IsIn i (x ∷ is)
in_step true x is i rest h (inl e) = inl e
in_step true x is i rest h (inr k) = inr (h k)
in_step false x is i rest h k = inr (h k)

pub in_filtered : (t : LoggedIssue → Bool) (is : List LoggedIssue) (i : LoggedIssue) → IsIn i (filter t is) → IsIn i is
in_filtered t [] i k = k
in_filtered t (x ∷ is) i k = in_step (t x) x is i (filter t is) (in_filtered t is i) k

-- ---- the issues that these answers leave
abbrev pub is_numbered : List LoggedAnswer → LoggedIssue → Bool
is_numbered answers i = list_any (λ (a : LoggedAnswer). i.number == a.number) answers

abbrev pub left_by : List LoggedAnswer → List LoggedIssue → List LoggedIssue
left_by answers is = filter (λ i. not (is_numbered answers i)) is

pub left_none : (is : List LoggedIssue) → left_by [] is ≡ is
left_none [] = refl
left_none (i ∷ is) = ap (λ xs. i ∷ xs) (left_none is)

left_step : (x y : Bool) (i : LoggedIssue) (bs : List LoggedAnswer) (r s : List LoggedIssue) → is_numbered bs i ≡ y → r ≡ left_by bs s → cond (not (x || y)) (i ∷ r) r ≡ left_by bs (cond (not x) (i ∷ s) s)
left_step true y i bs r s e h = h
left_step false true i bs r s e h = rw e h
left_step false false i bs r s e h = rw e (ap (λ xs. i ∷ xs) h)

pub left_append : (answers bs : List LoggedAnswer) (is : List LoggedIssue) → left_by (answers ++ bs) is ≡ left_by bs (left_by answers is)
left_append answers bs [] = refl
left_append answers bs (i ∷ is) =
    ap (λ b. cond (not b) (i ∷ left_by (answers ++ bs) is) (left_by (answers ++ bs) is)) (list_any-append (λ (a : LoggedAnswer). i.number == a.number) answers bs)
    ∙ left_step (is_numbered answers i) (is_numbered bs i) i bs (left_by (answers ++ bs) is) (left_by answers is) refl (left_append answers bs is)

-- ---- an open request is one of them
abbrev pub IsFoundIn : List LoggedIssue → OpenRequest → Type 0
IsFoundIn is o = (i : LoggedIssue) × IsIn i is × (as_open i ≡ o)

found_if : (a : ℕ) (x : LoggedIssue) (is : List LoggedIssue) (o : OpenRequest) (b : Bool) → (request_for a (opens is) ≡ Some o → IsFoundIn is o) → (elim b [ true ↦ Some (as_open x) | false ↦ request_for a (opens is) ]) ≡ Some o → IsFoundIn (x ∷ is) o
found_if a x is o true h k = let same : as_open x ≡ o = cc in (x, inl refl, same)
found_if a x is o false h k = let rest = h k in (rest.0, inr rest.1, rest.2)

pub found_in : (a : ℕ) (is : List LoggedIssue) (o : OpenRequest) → request_for a (opens is) ≡ Some o → IsFoundIn is o
found_in a [] o e = absurd cc
found_in a (x ∷ is) o e = found_if a x is o (x.cell == a) (found_in a is o) e

found_within : (b e a : ℕ) (is : List LoggedIssue) (o : OpenRequest) → IsAscending b e is → request_for a (opens is) ≡ Some o → (b ≤ o.number) × (o.number < e)
found_within b e a is o h k =
    let found = found_in a is o k in
    let number : found.0.number ≡ o.number = ap (λ (r : OpenRequest). r.number) found.2 in
    let inside = within b e is found.0 h found.1 in
    (omega (arith, number, inside.0), omega (arith, number, inside.1))

-- ---- an answer takes the request of its number away
module _ (answer : LoggedAnswer) where
  one_numbered : (i : LoggedIssue) (b : Bool) → (i.number == answer.number) ≡ b → is_numbered (answer ∷ []) i ≡ b
  one_numbered i true h = rw h refl
  one_numbered i false h = rw h refl

  keeps_all : (b e : ℕ) (is : List LoggedIssue) → answer.number < b → IsAscending b e is → left_by (answer ∷ []) is ≡ is
  keeps_all b e [] l h = refl
  keeps_all b e (x ∷ is) l h =
      let apart : x.number ≢ answer.number = omega (arith, h.0, l) in
      let kept : is_numbered (answer ∷ []) x ≡ false = one_numbered x false (grind (arith, nat_tests)) in
      rw kept (ap (λ xs. x ∷ xs) (keeps_all (x.number + 1) e is (omega (arith, h.0, l)) h.1))

  taken_if : (b e a : ℕ) (x : LoggedIssue) (is : List LoggedIssue) (o : OpenRequest) (here : Bool) → (x.cell == a) ≡ here → IsAscending (x.number + 1) e is → answer.number ≡ o.number
      → (request_for a (opens is) ≡ Some o → opens (left_by (answer ∷ []) is) ≡ without_request a (opens is))
      → (elim here [ true ↦ Some (as_open x) | false ↦ request_for a (opens is) ]) ≡ Some o
      → opens (left_by (answer ∷ []) (x ∷ is)) ≡ (elim here [ true ↦ opens is | false ↦ as_open x ∷ without_request a (opens is) ])
  taken_if b e a x is o true c h n rest k =
      let same : as_open x ≡ o = cc in
      let number : x.number ≡ o.number = ap (λ (r : OpenRequest). r.number) same in
      let gone : is_numbered (answer ∷ []) x ≡ true = one_numbered x true (grind (arith, nat_tests)) in
      rw gone (ap opens (keeps_all (x.number + 1) e is (omega (arith, number, n)) h))
  taken_if b e a x is o false c h n rest k =
      let behind = found_within (x.number + 1) e a is o h k in
      let apart : x.number ≢ answer.number = omega (arith, behind.0, n) in
      let kept : is_numbered (answer ∷ []) x ≡ false = one_numbered x false (grind (arith, nat_tests)) in
      rw kept (ap (λ xs. as_open x ∷ xs) (rest k))

  pub taken : (b e a : ℕ) (is : List LoggedIssue) (o : OpenRequest) → IsAscending b e is → answer.number ≡ o.number → request_for a (opens is) ≡ Some o → opens (left_by (answer ∷ []) is) ≡ without_request a (opens is)
  taken b e a [] o h n k = absurd cc
  taken b e a (x ∷ is) o h n k = taken_if b e a x is o (x.cell == a) refl h.1 n (taken (x.number + 1) e a is o h.1 n) k

-- ---- a new issue has no answer
none_numbered : (answers : List LoggedAnswer) (x : LoggedIssue) → AllByRecursion (λ (a : LoggedAnswer). a.number < x.number) answers → is_numbered answers x ≡ false
none_numbered [] x all = refl
none_numbered (a ∷ answers) x all =
    let less = all.0 in
    let apart : x.number ≢ a.number = omega (arith, less) in
    let here : (x.number == a.number) ≡ false = grind (arith, nat_tests) in
    rw here (none_numbered answers x all.1)

-- ---- how many of a list have number k
abbrev pub issues_at : ℕ → List LoggedIssue → ℕ
issues_at k is = count (λ (i : LoggedIssue). i.number == k) is

abbrev pub answers_at : ℕ → List LoggedAnswer → ℕ
answers_at k answers = count (λ (a : LoggedAnswer). a.number == k) answers

-- of issues in ascending order at most one has it
none_below : (k b e : ℕ) (is : List LoggedIssue) → k < b → IsAscending b e is → issues_at k is ≡ 0
none_below k b e [] l h = refl
none_below k b e (x ∷ is) l h =
    let apart : x.number ≢ k = omega (arith, h.0, l) in
    let other : (x.number == k) ≡ false = grind (arith, nat_tests) in
    rw other (omega (arith, none_below k (x.number + 1) e is (omega (arith, h.0, l)) h.1))

one_if : (k e : ℕ) (x : LoggedIssue) (is : List LoggedIssue) (t : Bool) → (x.number == k) ≡ t → IsAscending (x.number + 1) e is → issues_at k is ≤ 1 → weight t + issues_at k is ≤ 1
one_if k e x is true c h rest =
    let same : x.number ≡ k = eqb-true x.number k c in
    omega (arith, none_below k (x.number + 1) e is (omega (arith, same)) h)
one_if k e x is false c h rest = omega (arith, rest)

one_issue : (k b e : ℕ) (is : List LoggedIssue) → IsAscending b e is → issues_at k is ≤ 1
one_issue k b e [] h = omega arith
one_issue k b e (x ∷ is) h = one_if k e x is (x.number == k) refl h.1 (one_issue k (x.number + 1) e is h.1)

-- an issue that isn't answered has the number of no answer
neither : (a b : Bool) → (a || b) ≡ false → (a ≡ false) × (b ≡ false)
neither true b h = cc
neither false b h = (refl, h)

no_answer_at : (k : ℕ) (i : LoggedIssue) (answers : List LoggedAnswer) → i.number ≡ k → is_numbered answers i ≡ false → answers_at k answers ≡ 0
no_answer_at k i [] n h = refl
no_answer_at k i (a ∷ answers) n h =
    let parts = neither (i.number == a.number) (is_numbered answers i) h in
    let first : (i.number == a.number) ≡ false = parts.0 in
    let other : (a.number == k) ≡ false = grind (arith, nat_tests, n, first) in
    rw other (omega (arith, no_answer_at k i answers n parts.1))

not_false : (b : Bool) → not b ≡ true → b ≡ false
not_false true h = cc
not_false false h = refl

other_number : (k : ℕ) (i : LoggedIssue) (answers : List LoggedAnswer) (t : Bool) → (i.number == k) ≡ t → is_numbered answers i ≡ false → 1 ≤ answers_at k answers → t ≡ false
other_number k i answers true e h some = let none = no_answer_at k i answers (eqb-true i.number k e) h in absurd (omega (arith, none, some))
other_number k i answers false e h some = refl

none_left : (k : ℕ) (answers : List LoggedAnswer) (is : List LoggedIssue) → 1 ≤ answers_at k answers → issues_at k (left_by answers is) ≡ 0
none_left k answers [] some = refl
none_left k answers (i ∷ is) some =
    let rest = none_left k answers is some in
    cond_tested (not (is_numbered answers i)) (λ xs. issues_at k xs ≡ 0) (i ∷ left_by answers is) (left_by answers is)
    (λ z. let other = other_number k i answers (i.number == k) refl (not_false (is_numbered answers i) z) some in rw other (omega (arith, rest)))
    (λ z. rest)

-- so where at most one answer has a number, at most one of the answers and of the issues that they leave has it
pub one_of_both : (k b e : ℕ) (answers : List LoggedAnswer) (is : List LoggedIssue) → IsAscending b e is → answers_at k answers ≤ 1 → answers_at k answers + issues_at k (left_by answers is) ≤ 1
one_of_both k b e answers is h few = elim (cases_lt 0 (answers_at k answers)) [
  | inl some ↦ omega (arith, few, none_left k answers is (omega (arith, some)))
  | inr none ↦ omega (arith, none, one_issue k b e (left_by answers is) (ascending_filter (λ i. not (is_numbered answers i)) b e is h))
]

-- an issue that is left isn't answered
passes_if : (t : LoggedIssue → Bool) (x : LoggedIssue) (is : List LoggedIssue) (i : LoggedIssue) (b : Bool) → t x ≡ b → (IsIn i (filter t is) → t i ≡ true) → IsIn i (cond b (x ∷ filter t is) (filter t is)) → t i ≡ true
passes_if t x is i true e h (inl same) = ap t (sym same) ∙ e
passes_if t x is i true e h (inr k) = h k
passes_if t x is i false e h k = h k

passes_filter : (t : LoggedIssue → Bool) (is : List LoggedIssue) (i : LoggedIssue) → IsIn i (filter t is) → t i ≡ true
passes_filter t [] i k = absurd k
passes_filter t (x ∷ is) i k = passes_if t x is i (t x) refl (passes_filter t is i) k

-- one answer more, with the number of an issue that is left
one_more : (k n : ℕ) (answers : List LoggedAnswer) (t : Bool) → (n == k) ≡ t → answers_at n answers ≡ 0 → answers_at k answers ≤ 1 → answers_at k answers + (weight t + 0) ≤ 1
one_more k n answers true e none few =
    let same : n ≡ k = eqb-true n k e in
    let here : answers_at k answers ≡ 0 = rw (← same) none in
    omega (arith, here)
one_more k n answers false e none few = omega (arith, few)

-- ---- of one processing element: its next number, issues and answers, and its row of open requests
pub record IsInStep (next : ℕ) (issues : List LoggedIssue) (answers : List LoggedAnswer) (os : List OpenRequest) : Type 0 where
  pub ascending : IsAscending 0 next issues
  pub below : AllByRecursion (λ (a : LoggedAnswer). a.number < next) answers
  pub left : opens (left_by answers issues) ≡ os
  -- no two answers have one number
  pub once : (k : ℕ) → answers_at k answers ≤ 1

module _ {next : ℕ} {issues : List LoggedIssue} {answers : List LoggedAnswer} {os : List OpenRequest} (are : IsInStep next issues answers os) where
  -- an open request is one of the issues, and is found by its number
  pub open_issue : (a : ℕ) (o : OpenRequest) → request_for a os ≡ Some o → (i : LoggedIssue) × IsIn i issues × (as_open i ≡ o) × (find (λ (j : LoggedIssue). j.number == o.number) issues ≡ Some i)
  open_issue a o e =
      let found = found_in a (left_by answers issues) o (ap (request_for a) are.left ∙ e) in
      let inside = in_filtered (λ i. not (is_numbered answers i)) issues found.0 found.1 in
      let number : found.0.number ≡ o.number = ap (λ (r : OpenRequest). r.number) found.2 in
      let by_number = found_by_number 0 next issues found.0 are.ascending inside in
      (found.0, inside, found.2, rw number at by_number)

  pub answered_step : (a : ℕ) (o : OpenRequest) (answer : LoggedAnswer) → request_for a os ≡ Some o → answer.number ≡ o.number → IsInStep next issues (answers ++ answer ∷ []) (without_request a os)
  answered_step a o answer e n =
      let rest = left_by answers issues in
      let ascends = ascending_filter (λ i. not (is_numbered answers i)) 0 next issues are.ascending in
      let found : request_for a (opens rest) ≡ Some o = ap (request_for a) are.left ∙ e in
      let few = found_within 0 next a rest o ascends found in
      let issue = found_in a rest o found in
      let number : issue.0.number ≡ answer.number = ap (λ (r : OpenRequest). r.number) issue.2 ∙ sym n in
      let new = not_false (is_numbered answers issue.0) (passes_filter (λ i. not (is_numbered answers i)) issues issue.0 issue.1) in
      let none = no_answer_at answer.number issue.0 answers number new in
      record {
        ascending = are.ascending;
        below = each-append (λ (a : LoggedAnswer). a.number < next) answers (answer ∷ []) are.below (omega (arith, few.1, n), tt);
        left =
            ap opens (left_append answers (answer ∷ []) issues)
            ∙ taken answer 0 next a rest o ascends n found
            ∙ ap (without_request a) are.left;
        once = λ k.
            let parts = count-append (λ (a : LoggedAnswer). a.number == k) answers (answer ∷ []) in
            omega (arith, parts, one_more k answer.number answers (answer.number == k) refl none (are.once k));
      }

  pub issued_step : (x : LoggedIssue) → x.number ≡ next → IsInStep (next + 1) (issues ++ x ∷ []) answers (os ++ as_open x ∷ [])
  issued_step x n =
      let none = none_numbered answers x (each-weaker (λ (a : LoggedAnswer). a.number < next) (λ (a : LoggedAnswer). a.number < x.number) answers (λ a l. omega (arith, l, n)) are.below) in
      let alone : left_by answers (x ∷ []) ≡ x ∷ [] = rw none refl in
      record {
        ascending = ascending_more 0 next issues x n are.ascending;
        below = each-weaker (λ (a : LoggedAnswer). a.number < next) (λ (a : LoggedAnswer). a.number < next + 1) answers (λ a l. omega (arith, l)) are.below;
        left =
            ap opens (filter-append (λ i. not (is_numbered answers i)) issues (x ∷ []))
            ∙ ap (λ xs. opens (left_by answers issues ++ xs)) alone
            ∙ map-append as_open (left_by answers issues) (x ∷ [])
            ∙ ap (λ xs. xs ++ as_open x ∷ []) are.left;
        once = are.once;
      }
