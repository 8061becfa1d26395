-- no two rows of the table have one name: at most one of them is counted for each name
use Rattle.std.proofs.Common.{ℕ, zero, suc, ◌≡◌, ◌≢◌, ◌+◌, ◌<◌, ◌≤◌, List, [], ◌∷◌, Bool, true, false, not, ◌&&◌, cond, map, refl, ap, ◌∙◌, arith}
use Rattle.std.specs.Prelude.{Option, Some, None, IfSome, option_to_list, ◌==◌}
use Rattle.std.specs.List.{AllByRecursion, filter, find, flat_map, range_with_len}
use Rattle.std.proofs.lemmas.Bool.{eqb-true, Decides.nat_tests}
use Rattle.ultra_model.specs.Balance.{weight, count}
use Rattle.ultra_model.proofs.Counting.{both_true, count-append}
use Rattle.ultra_serial_law.specs.{declared.records.{LoggedIssue.LoggedIssue, LoggedAnswer.LoggedAnswer}, Log.Log}
use Rattle.ultra_latency.proofs.OwnIssues.{own}
use Rattle.ultra_latency.specs.declared.open.OpenRequest.{OpenRequest}
use Rattle.ultra_requests.specs.RequestTable.{Row, answered_row, answered_rows, is_answer_to, is_answered, request_rows, waiting, waiting_rows}
use Rattle.ultra_requests.proofs.{Numbered.{IsInStep, cond_tested, issues_at, left_by, one_of_both}, Steps.own_answers, Tables.{all_left, left_same, own_all}}

-- ---- counts of lists
count-map : {X Y : Type 0} (t : Y → Bool) (f : X → Y) (xs : List X) → count t (map f xs) ≡ count (λ x. t (f x)) xs
count-map t f [] = refl
count-map t f (x ∷ xs) = ap (λ n. weight (t (f x)) + n) (count-map t f xs)

both_if : {X : Type 0} (u : X → Bool) (x : X) (xs : List X) (b : Bool) (n : ℕ) → n ≡ count u xs → weight (b && u x) + n ≡ count u (cond b (x ∷ xs) xs)
both_if u x xs true n h = ap (λ n. weight (u x) + n) h
both_if u x xs false n h = omega (arith, h)

-- what passes both of two tests is counted among what passes the first
count-both : {X : Type 0} (t u : X → Bool) (xs : List X) → count (λ x. t x && u x) xs ≡ count u (filter t xs)
count-both t u [] = refl
count-both t u (x ∷ xs) = both_if u x (filter t xs) (t x) (count (λ x. t x && u x) xs) (count-both t u xs)

second_only : (a b : Bool) → weight (a && b) ≤ weight b
second_only true b = omega arith
second_only false b = omega arith

count-second : {X : Type 0} (t u : X → Bool) (xs : List X) → count (λ x. t x && u x) xs ≤ count u xs
count-second t u [] = omega arith
count-second t u (x ∷ xs) = omega (arith, second_only (t x) (u x), count-second t u xs)

-- of lists by number, where those of one number alone count
module _ {X : Type 0} (t : X → Bool) (f : ℕ → List X) (p : ℕ) (others : (q : ℕ) → q ≢ p → count t (f q) ≡ 0) where
  none_after : (n a : ℕ) → p < a → count t (flat_map f (range_with_len a n)) ≡ 0
  none_after zero a l = refl
  none_after (suc n) a l =
      let here = others a (omega (arith, l)) in
      omega (arith, count-append t (f a) (flat_map f (range_with_len (a + 1) n)), here, none_after n (a + 1) (omega (arith, l)))

  flat_if : (n a : ℕ) (b : Bool) → (a == p) ≡ b → count t (flat_map f (range_with_len (a + 1) n)) ≤ count t (f p) → count t (f a) + count t (flat_map f (range_with_len (a + 1) n)) ≤ count t (f p)
  flat_if n a true e rest =
      let same : a ≡ p = eqb-true a p e in
      let here : count t (f a) ≡ count t (f p) = ap (λ q. count t (f q)) same in
      omega (arith, here, none_after n (a + 1) (omega (arith, same)))
  flat_if n a false e rest =
      let apart : a ≢ p = grind (arith, nat_tests, e) in
      omega (arith, others a apart, rest)

  count-flat : (n a : ℕ) → count t (flat_map f (range_with_len a n)) ≤ count t (f p)
  count-flat zero a = omega arith
  count-flat (suc n) a =
      omega (arith, count-append t (f a) (flat_map f (range_with_len (a + 1) n)), flat_if n a (a == p) refl (count-flat n (a + 1)))

-- ---- rows of a name
abbrev pub is_named : ℕ → ℕ → Row → Bool
is_named p k r = (r.issue.pe == p) && (r.issue.number == k)

passing : (t : LoggedIssue → Bool) (is : List LoggedIssue) → IfSome (find t is) (λ i. t i ≡ true)
passing t [] = tt
passing t (x ∷ is) = cond_tested (t x) (λ o. IfSome o (λ i. t i ≡ true)) (Some x) (find t is) (λ z. z) (λ z. passing t is)

module _ (p k : ℕ) where
  abbrev is_answer_named : LoggedAnswer → Bool
  is_answer_named a = (a.pe == p) && (a.number == k)

  -- an answer's row has its name
  row_if : (a : LoggedAnswer) (o : Option LoggedIssue) → IfSome o (λ i. is_answer_to i a ≡ true) → count (is_named p k) (map (λ (i : LoggedIssue). record { issue = i; answer = Some a }) (option_to_list o)) ≤ weight (is_answer_named a)
  row_if a None h = omega arith
  row_if a (Some i) h =
      let parts = both_true (i.pe == a.pe) (i.number == a.number) h in
      rw (eqb-true i.pe a.pe parts.0, eqb-true i.number a.number parts.1) (omega arith)

  answered_few : (is : List LoggedIssue) (answers : List LoggedAnswer) → count (is_named p k) (answered_rows is answers) ≤ count is_answer_named answers
  answered_few is [] = omega arith
  answered_few is (a ∷ answers) =
      let here = row_if a (find (λ i. is_answer_to i a) is) (passing (λ i. is_answer_to i a) is) in
      omega (arith, count-append (is_named p k) (answered_row is a) (answered_rows is answers), here, answered_few is answers)

  abbrev is_issue_named : LoggedIssue → Bool
  is_issue_named i = (i.pe == p) && (i.number == k)

  other_pe : (q : ℕ) (is : List LoggedIssue) → q ≢ p → AllByRecursion (λ (i : LoggedIssue). i.pe ≡ q) is → count is_issue_named is ≡ 0
  other_pe q [] apart all = refl
  other_pe q (i ∷ is) apart all =
      let mine : i.pe ≡ q = all.0 in
      let other : (i.pe == p) ≡ false = grind (arith, nat_tests, mine, apart) in
      rw other (omega (arith, other_pe q is apart all.1))

  module _ (l : Log) where
    waiting_other : (q : ℕ) → q ≢ p → count (is_named p k) (waiting_rows l q) ≡ 0
    waiting_other q apart =
        let all = all_left (λ i. not (is_answered l.answers i)) q (own q l.issues) (own_all q l.issues) in
        count-map (is_named p k) (λ (i : LoggedIssue). record { issue = i; answer = None }) (waiting l q) ∙ other_pe q (waiting l q) apart all

    waiting_mine : count (is_named p k) (waiting_rows l p) ≤ issues_at k (left_by (own_answers p l.answers) (own p l.issues))
    waiting_mine =
        let rows = count-map (is_named p k) (λ (i : LoggedIssue). record { issue = i; answer = None }) (waiting l p) in
        let few = count-second (λ (i : LoggedIssue). i.pe == p) (λ (i : LoggedIssue). i.number == k) (waiting l p) in
        let same = ap (issues_at k) (left_same p l.answers (own p l.issues) (own_all p l.issues)) in
        omega (arith, rows, few, same)

    -- at most one row of a table has a name
    pub one_named : (n next : ℕ) (os : List OpenRequest) → IsInStep next (own p l.issues) (own_answers p l.answers) os → count (is_named p k) (request_rows n l) ≤ 1
    one_named n next os are =
        let rest = flat_map (waiting_rows l) (range_with_len 0 n) in
        let parts = count-append (is_named p k) (answered_rows l.issues l.answers) rest in
        let answered = answered_few l.issues l.answers in
        let mine = count-both (λ (a : LoggedAnswer). a.pe == p) (λ (a : LoggedAnswer). a.number == k) l.answers in
        let left = count-flat (is_named p k) (waiting_rows l) p waiting_other n 0 in
        let both = one_of_both k 0 next (own_answers p l.answers) (own p l.issues) are.ascending (are.once k) in
        omega (arith, parts, answered, mine, left, waiting_mine, both)
