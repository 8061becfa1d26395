-- the law of the table: its rows are those of the log
use Rattle.std.proofs.Common.{ℕ, zero, suc, ◌≡◌, ◌+◌, ◌<◌, ◌≤◌, List, [], ◌∷◌, inl, inr, Bool, true, false, not, ◌||◌, ◌&&◌, cond, map, refl, sym, ap, ◌∙◌, subst, arith}
use Rattle.std.specs.Prelude.{Option, Some, None, IfSome, option_to_list, ◌==◌}
use Rattle.std.specs.List.{AllByRecursion, filter, find, flat_map, list_any, range_with_len}
use Rattle.std.proofs.lemmas.Bool.{eqb-true, cases_lt, Decides.nat_tests}
use Rattle.ultra_isa.specs.declared.Instr.{Instr}
use Rattle.ultra_model.specs.{Machine.{Settings, size}, Phases.after, Ranges.AreInRange}
use Rattle.ultra_model.proofs.{Counting.both_true, Each.each-append}
use Rattle.ultra_serial_law.specs.{declared.records.{LoggedIssue.LoggedIssue, LoggedAnswer.LoggedAnswer}, Log.Log}
use Rattle.ultra_serial_law.proofs.{Explained.{IsIn, in-append, in-append_right}, Issued.IsEarlier, Law.serial_after, Lists.{in_has, has_in, one_place}, RequestForest.in_holds}
use Rattle.ultra_latency.proofs.OwnIssues.{is_of_pe, own}
use Rattle.ultra_requests.specs.RequestTable.{Row, answered_row, answered_rows, is_answer_to, is_answered, request_rows, waiting, waiting_rows}
use Rattle.ultra_requests.specs.{CycleRows.log_after, RowLaw.{AreRowsOf, RequestLaw}}
use Rattle.ultra_requests.proofs.{Apart.{is_named, one_named}, Numbered.{found_by_number, in_filtered}, Steps.in_step, Found.find_own, RowOrder.rows_ordered, Tables.{FindIn, all_find}}

-- ---- members of lists
find_step : (t : LoggedIssue → Bool) (x : LoggedIssue) (is : List LoggedIssue) (i : LoggedIssue) (b : Bool) → t x ≡ b → (find t is ≡ Some i → IsIn i is × (t i ≡ true)) → cond b (Some x) (find t is) ≡ Some i → IsIn i (x ∷ is) × (t i ≡ true)
find_step t x is i true e h k = let same : x ≡ i = cc in (inl same, ap t (sym same) ∙ e)
find_step t x is i false e h k = let rest = h k in (inr rest.0, rest.1)

find_passes : (t : LoggedIssue → Bool) (is : List LoggedIssue) (i : LoggedIssue) → find t is ≡ Some i → IsIn i is × (t i ≡ true)
find_passes t [] i k = cc
find_passes t (x ∷ is) i k = find_step t x is i (t x) refl (find_passes t is i) k

members : {X : Type 0} (xs ys : List X) → ((x : X) → IsIn x ys → IsIn x xs) → AllByRecursion (λ x. IsIn x xs) ys
members xs [] f = tt
members xs (y ∷ ys) f = (f y (inl refl), members xs ys (λ x k. f x (inr k)))

keeps_step : (t : LoggedIssue → Bool) (x : LoggedIssue) (is : List LoggedIssue) (i : LoggedIssue) (b : Bool) → t x ≡ b → t i ≡ true → (IsIn i is → IsIn i (filter t is)) → IsIn i (x ∷ is) → IsIn i (cond b (x ∷ filter t is) (filter t is))
keeps_step t x is i true e p h (inl same) = inl same
keeps_step t x is i true e p h (inr k) = inr (h k)
keeps_step t x is i false e p h (inl same) = let no : t i ≡ false = ap t (sym same) ∙ e in cc
keeps_step t x is i false e p h (inr k) = h k

keeps : (t : LoggedIssue → Bool) (is : List LoggedIssue) (i : LoggedIssue) → t i ≡ true → IsIn i is → IsIn i (filter t is)
keeps t [] i p k = k
keeps t (x ∷ is) i p k = keeps_step t x is i (t x) refl p (keeps t is i p) k

in_map : {X Y : Type 0} (f : X → Y) (xs : List X) (x : X) → IsIn x xs → IsIn (f x) (map f xs)
in_map f [] x k = k
in_map f (z ∷ xs) x (inl e) = inl (ap f e)
in_map f (z ∷ xs) x (inr k) = inr (in_map f xs x k)

in_flat : {X Y : Type 0} (f : X → List Y) (xs : List X) (x : X) (y : Y) → IsIn x xs → IsIn y (f x) → IsIn y (flat_map f xs)
in_flat f [] x y k h = absurd k
in_flat f (z ∷ xs) x y (inl e) h = in-append y (f z) (flat_map f xs) (subst (λ v. IsIn y (f v)) (sym e) h)
in_flat f (z ∷ xs) x y (inr k) h = in-append_right y (f z) (flat_map f xs) (in_flat f xs x y k h)

in_range : (p n a : ℕ) → a ≤ p → p < a + n → IsIn p (range_with_len a n)
in_range p zero a from to = absurd (omega arith)
in_range p (suc n) a from to = elim (cases_lt a p) [
  | inl later ↦ inr (in_range p n (a + 1) (omega arith) (omega arith))
  | inr here ↦ inl (omega arith)
]

any_step : (t : LoggedAnswer → Bool) (x : LoggedAnswer) (xs : List LoggedAnswer) (b : Bool) → t x ≡ b → (list_any t xs ≡ true → (a : LoggedAnswer) × IsIn a xs × (t a ≡ true)) → (b || list_any t xs) ≡ true → (a : LoggedAnswer) × IsIn a (x ∷ xs) × (t a ≡ true)
any_step t x xs true e h k = (x, inl refl, e)
any_step t x xs false e h k = let rest = h k in (rest.0, inr rest.1, rest.2)

any_in : (t : LoggedAnswer → Bool) (xs : List LoggedAnswer) → list_any t xs ≡ true → (a : LoggedAnswer) × IsIn a xs × (t a ≡ true)
any_in t [] k = cc
any_in t (x ∷ xs) k = any_step t x xs (t x) refl (any_in t xs) k

each_flat : {X Y : Type 0} (P : Y → Type 0) (f : X → List Y) (xs : List X) → ((x : X) → AllByRecursion P (f x)) → AllByRecursion P (flat_map f xs)
each_flat P f [] h = tt
each_flat P f (x ∷ xs) h = each-append P (f x) (flat_map f xs) (h x) (each_flat P f xs h)

-- ---- the rows are of the log
abbrev IsOfLog : Log → Row → Type 0
IsOfLog l r = IsIn r.issue l.issues × IfSome r.answer (λ (a : LoggedAnswer). IsIn a l.answers × (is_answer_to r.issue a ≡ true))

abbrev with_answer : LoggedAnswer → Option LoggedIssue → List Row
with_answer a o = map (λ (i : LoggedIssue). record { issue = i; answer = Some a }) (option_to_list o)

answered_of_log : (l : Log) (answers : List LoggedAnswer) → AllByRecursion (λ (a : LoggedAnswer). IsIn a l.answers) answers → AllByRecursion (FindIn l.issues) answers → AllByRecursion (IsOfLog l) (answered_rows l.issues answers)
answered_of_log l [] all found = tt
answered_of_log l (a ∷ answers) all found =
    let passes = find_passes (λ i. is_answer_to i a) l.issues found.0.0 found.0.1 in
    each-append (IsOfLog l) (answered_row l.issues a) (answered_rows l.issues answers)
    (subst (λ o. AllByRecursion (IsOfLog l) (with_answer a o)) (sym found.0.1) ((passes.0, (all.0, passes.1)), tt))
    (answered_of_log l answers all.1 found.1)

waiting_of_log : (l : Log) (is : List LoggedIssue) → AllByRecursion (λ (i : LoggedIssue). IsIn i l.issues) is → AllByRecursion (IsOfLog l) (map (λ (i : LoggedIssue). record { issue = i; answer = None }) is)
waiting_of_log l [] all = tt
waiting_of_log l (i ∷ is) all = ((all.0, tt), waiting_of_log l is all.1)

module _ (n : ℕ) (l : Log) (found : AllByRecursion (FindIn l.issues) l.answers) where
  rows_of_log : AllByRecursion (IsOfLog l) (request_rows n l)
  rows_of_log =
      each-append (IsOfLog l) (answered_rows l.issues l.answers) (flat_map (waiting_rows l) (range_with_len 0 n))
      (answered_of_log l l.answers (members l.answers l.answers (λ a k. k)) found)
      (each_flat (IsOfLog l) (waiting_rows l) (range_with_len 0 n)
      (λ p. waiting_of_log l (waiting l p)
      (members l.issues (waiting l p)
      (λ i k. in_filtered (is_of_pe p) l.issues i (in_filtered (λ i. not (is_answered l.answers i)) (own p l.issues) i k)))))

  -- an answer's row
  answer_row : (a : LoggedAnswer) (i : LoggedIssue) → IsIn a l.answers → find (λ j. is_answer_to j a) l.issues ≡ Some i → IsIn record { issue = i; answer = Some a } (request_rows n l)
  answer_row a i k e =
      in-append record { issue = i; answer = Some a } (answered_rows l.issues l.answers) (flat_map (waiting_rows l) (range_with_len 0 n))
      (in_flat (answered_row l.issues) l.answers a record { issue = i; answer = Some a } k
      (subst (λ o. IsIn record { issue = i; answer = Some a } (with_answer a o)) (sym e) (inl refl)))

  -- the row of an issue without an answer
  waiting_row : (i : LoggedIssue) → i.pe < n → IsIn i l.issues → is_answered l.answers i ≡ false → IsIn record { issue = i; answer = None } (request_rows n l)
  waiting_row i h k none =
      let mine = keeps (is_of_pe i.pe) l.issues i (grind (arith, nat_tests)) k in
      let left = keeps (λ i. not (is_answered l.answers i)) (own i.pe l.issues) i (ap not none) mine in
      in-append_right record { issue = i; answer = None } (answered_rows l.issues l.answers) (flat_map (waiting_rows l) (range_with_len 0 n))
      (in_flat (waiting_rows l) (range_with_len 0 n) i.pe record { issue = i; answer = None } (in_range i.pe n 0 (omega arith) (omega arith))
      (in_map (λ (i : LoggedIssue). record { issue = i; answer = None }) (waiting l i.pe) i left))

  module _ (next : ℕ) (i : LoggedIssue) (h : i.pe < n) (k : IsIn i l.issues) (by_name : find (λ (j : LoggedIssue). (j.pe == i.pe) && (j.number == i.number)) l.issues ≡ Some i) where
    issue_row : (b : Bool) → is_answered l.answers i ≡ b → (r : Row) × IsIn r (request_rows n l) × (r.issue ≡ i)
    issue_row false none = (record { issue = i; answer = None }, waiting_row i h k none, refl)
    issue_row true some =
        let answer = any_in (is_answer_to i) l.answers some in
        let a = answer.0 in
        let parts = both_true (i.pe == a.pe) (i.number == a.number) answer.2 in
        let same : find (λ j. is_answer_to j a) l.issues ≡ Some i = rw (← eqb-true i.pe a.pe parts.0, ← eqb-true i.number a.number parts.1) by_name in
        (record { issue = i; answer = Some a }, answer_row a i answer.1 same, refl)

same_name : (p k : ℕ) (r : Row) → r.issue.pe ≡ p → r.issue.number ≡ k → is_named p k r ≡ true
same_name p k r pe number =
    let here : (r.issue.pe == p) ≡ true = grind (arith, nat_tests) in
    let there : (r.issue.number == k) ≡ true = grind (arith, nat_tests) in
    rw (here, there) refl

module _ (c : Settings) (range : AreInRange c) (program : List Instr) (n : ℕ) where
  abbrev log : Log
  log = log_after c program n

  named : (i : LoggedIssue) → i.pe < size c → IsIn i log.issues → find (λ (j : LoggedIssue). (j.pe == i.pe) && (j.number == i.number)) log.issues ≡ Some i
  named i h k =
      let mine = keeps (is_of_pe i.pe) log.issues i (grind (arith, nat_tests)) k in
      find_own i.pe i.number log.issues ∙ found_by_number 0 _ (own i.pe log.issues) i (in_step c range program n i.pe h).ascending mine

  pub are_rows : AreRowsOf log (request_rows (size c) log)
  are_rows =
      let found = all_find c range program n in
      let rows = request_rows (size c) log in
      let all = rows_of_log (size c) log found in
      record {
        issued = λ r h. has_in log.issues r.issue (in_holds (IsOfLog log) r rows all (in_has rows r h)).0;
        answered = λ r a h e.
            let both = subst (λ (o : Option LoggedAnswer). IfSome o (λ (a : LoggedAnswer). IsIn a log.answers × (is_answer_to r.issue a ≡ true))) e (in_holds (IsOfLog log) r rows all (in_has rows r h)).1 in
            (has_in log.answers a both.0, both.1);
        has_issue = λ i h.
            let k = in_has log.issues i h in
            let earlier = in_holds (IsEarlier c (after c program n) n) i log.issues (serial_after c range program n).recorded.issues k in
            let row = issue_row (size c) log found 0 i earlier.element k (named i earlier.element k) (is_answered log.answers i) refl in
            (row.0, has_in rows row.0 row.1, row.2);
        has_answer = λ a h.
            let k = in_has log.answers a h in
            let f = in_holds (FindIn log.issues) a log.answers found k in
            let row = answer_row (size c) log found a f.0 k f.1 in
            (record { issue = f.0; answer = Some a }, has_in rows record { issue = f.0; answer = Some a } row, refl);
        once = λ j k r s at_j at_k pe number.
            let p = r.issue.pe in
            let m = r.issue.number in
            let issue = (in_holds (IsOfLog log) r rows all (in_has rows r (j, at_j))).0 in
            let earlier = in_holds (IsEarlier c (after c program n) n) r.issue log.issues (serial_after c range program n).recorded.issues issue in
            let few = one_named p m log (size c) _ _ (in_step c range program n p earlier.element) in
            one_place (is_named p m) rows j k r s few at_j (same_name p m r refl refl) at_k (same_name p m s (sym pe) (sym number));
        order = rows_ordered c range program n;
      }

pub row_law : RequestLaw
row_law c range program n = are_rows c range program n
