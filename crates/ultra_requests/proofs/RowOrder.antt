-- the order of the rows of the table
use Rattle.std.proofs.Common.{ℕ, zero, suc, ◌≡◌, ◌+◌, ◌<◌, ◌≤◌, List, [], ◌∷◌, ◌++◌, inl, inr, map, not, refl, sym, ◌∙◌, subst, arith}
use Rattle.std.specs.Prelude.{Option, Some, None, IfSome, AllPairs, option_to_list}
use Rattle.std.specs.List.{AllByRecursion, find, flat_map, range_with_len}
use Rattle.std.proofs.lemmas.List.{Elements.All-from_recursion, Kept.AllPairs-cons}
use Rattle.ultra_msg.specs.declared.{ReplyMessage.ReplyMessage, Event.Event}
use Rattle.ultra_isa.specs.declared.Instr.{Instr}
use Rattle.ultra_model.specs.{Machine.{Settings, size}, Places.{places, present}, Phases.delivery, Ranges.AreInRange}
use Rattle.ultra_model.proofs.Each.{each-append, each-weaker}
use Rattle.ultra_serial_law.specs.{declared.records.{LoggedIssue.LoggedIssue, LoggedAnswer.LoggedAnswer}, Log.Log, SerialList.history}
use Rattle.ultra_latency.proofs.{CycleEvents.brought, Deliveries.brought_own, OwnIssues.own}
use Rattle.ultra_requests.specs.RequestTable.{Row, answered_row, answered_rows, is_answer_to, is_answered, request_rows, waiting, waiting_rows}
use Rattle.ultra_requests.specs.{CycleRows.{answer_in, answers_of_cycle, log_after}, RowLaw.{IsLess, ComesBefore}}
use Rattle.ultra_requests.proofs.{Numbered.{IsAscending, ascending_filter}, Steps.{answers_next, in_step, no_answer, shown_by}, Tables.{own_all, all_left}}

-- ---- lists in which each element comes before all later ones
abbrev AreOrdered : {X : Type 0} → (X → X → Type 0) → List X → Type 0
AreOrdered R [] = Unit {0}
AreOrdered R (x ∷ xs) = AllByRecursion (R x) xs × AreOrdered R xs

-- two of them, where each element of the first comes before all of the second
ordered-append : {X : Type 0} (R : X → X → Type 0) (xs ys : List X) → AreOrdered R xs → AreOrdered R ys → AllByRecursion (λ x. AllByRecursion (R x) ys) xs → AreOrdered R (xs ++ ys)
ordered-append R [] ys a b across = b
ordered-append R (x ∷ xs) ys a b across = (each-append (R x) xs ys a.0 across.0, ordered-append R xs ys a.1 b across.1)

all_pairs : {X : Type 0} (R : X → X → Type 0) (xs : List X) → AreOrdered R xs → AllPairs R xs
all_pairs R [] a = λ i j d lt within. absurd (omega (arith, within))
all_pairs R (x ∷ xs) a = AllPairs-cons R x xs (All-from_recursion (R x) xs a.0) (all_pairs R xs a.1)

-- ---- answers, by cycle and then by processing element
abbrev IsAnsweredBefore : LoggedAnswer → LoggedAnswer → Type 0
IsAnsweredBefore a b = IsLess (a.cycle, a.pe) (b.cycle, b.pe)

-- those of cycle n, by processing element
module _ (n : ℕ) (is : List LoggedIssue) where
  abbrev answers_to : List (Option Event) → List LoggedAnswer
  answers_to es = flat_map (answer_in n is) (present es)

  -- an answer of the cycle to a processing element from p on
  abbrev IsFrom : ℕ → LoggedAnswer → Type 0
  IsFrom p a = (a.cycle ≡ n) × (p ≤ a.pe)

  record AreFrom (p : ℕ) (answers : List LoggedAnswer) : Type 0 where
    pub ordered : AreOrdered IsAnsweredBefore answers
    pub from : AllByRecursion (IsFrom p) answers

  from_next : (p : ℕ) (answers : List LoggedAnswer) → AllByRecursion (IsFrom (p + 1)) answers → AllByRecursion (IsFrom p) answers
  from_next p answers all = each-weaker (IsFrom (p + 1)) (IsFrom p) answers (λ a f. (f.0, omega (arith, f.1))) all

  one_more : (p : ℕ) (o : Option ReplyMessage) (es : List (Option Event)) → IfSome o (λ (r : ReplyMessage). r.pe ≡ p) → AreFrom (p + 1) (answers_to es) → AreFrom p (answers_to (delivery o ∷ es))
  one_more p None es mine are = record { ordered = are.ordered; from = from_next p (answers_to es) are.from }
  one_more p (Some r) es mine are = record {
    ordered = (each-weaker (IsFrom (p + 1)) _ (answers_to es) (λ a f. inr (sym f.0, omega (arith, f.1, mine))) are.from, are.ordered);
    from = ((refl, omega (arith, mine)), from_next p (answers_to es) are.from);
  }

  by_element : (f : ℕ → Option ReplyMessage) (p k : ℕ) → ((q : ℕ) → q < p + k → IfSome (f q) (λ (r : ReplyMessage). r.pe ≡ q)) → AreFrom p (answers_to (map (λ q. delivery (f q)) (range_with_len p k)))
  by_element f p zero mine = record { ordered = tt; from = tt }
  by_element f p (suc k) mine = one_more p (f p) (map (λ q. delivery (f q)) (range_with_len (p + 1) k)) (mine p (omega arith)) (by_element f (p + 1) k (λ q h. mine q (omega (arith, h))))

module _ (c : Settings) (range : AreInRange c) (program : List Instr) where
  of_cycle : (n : ℕ) → AreFrom n (log_after c program n).issues 0 (answers_of_cycle c program n)
  unfolding places
  of_cycle n =
      let is = (log_after c program n).issues in
      subst (AreFrom n is 0) (sym (shown_by c range program n (answer_in n is) (no_answer n is)))
      (by_element n is (brought c program n) 0 (size c) (λ p h. brought_own c range program n p (omega (arith, h))))

  -- those of all cycles below n
  record AreBelow (n : ℕ) (answers : List LoggedAnswer) : Type 0 where
    pub ordered : AreOrdered IsAnsweredBefore answers
    pub below : AllByRecursion (λ (a : LoggedAnswer). a.cycle < n) answers

  each_before : (n : ℕ) (xs ys : List LoggedAnswer) → AllByRecursion (λ (a : LoggedAnswer). a.cycle < n) xs → AllByRecursion (IsFrom n [] 0) ys → AllByRecursion (λ a. AllByRecursion (IsAnsweredBefore a) ys) xs
  each_before n xs ys below here = each-weaker (λ (a : LoggedAnswer). a.cycle < n) (λ a. AllByRecursion (IsAnsweredBefore a) ys) xs (λ a h. each-weaker (IsFrom n [] 0) (IsAnsweredBefore a) ys (λ b f. inl (omega (arith, h, f.0))) here) below

  all_below : (n : ℕ) → AreBelow n (log_after c program n).answers
  unfolding history
  all_below zero = record { ordered = tt; below = tt }
  all_below (suc n) =
      let next : n + 1 ≡ suc n = omega arith in
      let before = all_below n in
      let now = of_cycle n in
      let xs = (log_after c program n).answers in
      let ys = answers_of_cycle c program n in
      let is = (log_after c program n).issues in
      let both : AreBelow (suc n) (xs ++ ys) = record {
        ordered = ordered-append IsAnsweredBefore xs ys before.ordered now.ordered (each_before n xs ys before.below now.from);
        below = each-append (λ (a : LoggedAnswer). a.cycle < suc n) xs ys
            (each-weaker (λ (a : LoggedAnswer). a.cycle < n) (λ (a : LoggedAnswer). a.cycle < suc n) xs (λ a h. omega (arith, h)) before.below)
            (each-weaker (IsFrom n is 0) (λ (a : LoggedAnswer). a.cycle < suc n) ys (λ a f. omega (arith, f.0)) now.from);
      } in
      subst (λ k. AreBelow (suc n) (log_after c program k).answers) next (subst (AreBelow (suc n)) (sym (answers_next c range program n)) both)

-- ---- the rows of answers are in their order
module _ (is : List LoggedIssue) where
  abbrev rows_with_answer : LoggedAnswer → Option LoggedIssue → List Row
  rows_with_answer a o = map (λ (i : LoggedIssue). record { issue = i; answer = Some a }) (option_to_list o)

  later_row : (r : Row) (b : LoggedAnswer) (o : Option LoggedIssue) → (answer : LoggedAnswer) → r.answer ≡ Some answer → IsAnsweredBefore answer b → AllByRecursion (ComesBefore r) (rows_with_answer b o)
  later_row r b None answer e h = tt
  later_row r b (Some j) answer e h = (rw e h, tt)

  later_rows : (r : Row) (answer : LoggedAnswer) → r.answer ≡ Some answer → (answers : List LoggedAnswer) → AllByRecursion (IsAnsweredBefore answer) answers → AllByRecursion (ComesBefore r) (answered_rows is answers)
  later_rows r answer e [] all = tt
  later_rows r answer e (b ∷ answers) all =
      each-append (ComesBefore r) (answered_row is b) (answered_rows is answers)
      (later_row r b (find (λ i. is_answer_to i b) is) answer e all.0)
      (later_rows r answer e answers all.1)

  row_and_later : (a : LoggedAnswer) (o : Option LoggedIssue) (answers : List LoggedAnswer) → AllByRecursion (IsAnsweredBefore a) answers → AreOrdered ComesBefore (answered_rows is answers) → AreOrdered ComesBefore (rows_with_answer a o ++ answered_rows is answers)
  row_and_later a None answers later rest = rest
  row_and_later a (Some i) answers later rest = (later_rows record { issue = i; answer = Some a } a refl answers later, rest)

  answered_ordered : (answers : List LoggedAnswer) → AreOrdered IsAnsweredBefore answers → AreOrdered ComesBefore (answered_rows is answers)
  answered_ordered [] all = tt
  answered_ordered (a ∷ answers) all = row_and_later a (find (λ i. is_answer_to i a) is) answers all.0 (answered_ordered answers all.1)

-- ---- the rows without an answer, by processing element and then by number
abbrev left_row : LoggedIssue → Row
left_row i = record { issue = i; answer = None }

abbrev left_rows : List LoggedIssue → List Row
left_rows is = map left_row is

-- a row without an answer, of a processing element from p on
abbrev IsLeftFrom : ℕ → Row → Type 0
IsLeftFrom p r = (r.answer ≡ None) × (p ≤ r.issue.pe)

record AreLeftFrom (p : ℕ) (rows : List Row) : Type 0 where
  pub ordered : AreOrdered ComesBefore rows
  pub from : AllByRecursion (IsLeftFrom p) rows

all_left_from : (p : ℕ) (is : List LoggedIssue) → AllByRecursion (λ (i : LoggedIssue). i.pe ≡ p) is → AllByRecursion (IsLeftFrom p) (left_rows is)
all_left_from p [] all = tt
all_left_from p (i ∷ is) all = ((refl, omega (arith, all.0)), all_left_from p is all.1)

later_numbers : (i : LoggedIssue) (b e : ℕ) (is : List LoggedIssue) → i.number < b → IsAscending b e is → AllByRecursion (λ (j : LoggedIssue). j.pe ≡ i.pe) is → AllByRecursion (ComesBefore (left_row i)) (left_rows is)
later_numbers i b e [] h ascending all = tt
later_numbers i b e (j ∷ is) h ascending all = (inr (sym all.0, omega (arith, h, ascending.0)), later_numbers i (j.number + 1) e is (omega (arith, h, ascending.0)) ascending.1 all.1)

by_number : (p b e : ℕ) (is : List LoggedIssue) → IsAscending b e is → AllByRecursion (λ (i : LoggedIssue). i.pe ≡ p) is → AreOrdered ComesBefore (left_rows is)
by_number p b e [] ascending all = tt
by_number p b e (i ∷ is) ascending all = (
  later_numbers i (i.number + 1) e is (omega arith) ascending.1 (each-weaker (λ (j : LoggedIssue). j.pe ≡ p) (λ (j : LoggedIssue). j.pe ≡ i.pe) is (λ j same. same ∙ sym all.0) all.1),
  by_number p (i.number + 1) e is ascending.1 all.1,
)

-- of a processing element from p on, before those of the ones behind it
before_later : (p : ℕ) (r s : Row) → (r.answer ≡ None) × (r.issue.pe ≡ p) → IsLeftFrom (p + 1) s → ComesBefore r s
before_later p r s mine later = rw (mine.0, later.0) (inl (omega (arith, mine.1, later.1)))

module _ (l : Log) where
  all_waiting : (p : ℕ) → AllByRecursion (λ (i : LoggedIssue). i.pe ≡ p) (waiting l p)
  all_waiting p = all_left (λ i. not (is_answered l.answers i)) p (own p l.issues) (own_all p l.issues)

  own_rows : (p : ℕ) (is : List LoggedIssue) → AllByRecursion (λ (i : LoggedIssue). i.pe ≡ p) is → AllByRecursion (λ (r : Row). (r.answer ≡ None) × (r.issue.pe ≡ p)) (left_rows is)
  own_rows p [] all = tt
  own_rows p (i ∷ is) all = ((refl, all.0), own_rows p is all.1)

  waiting_ordered : (p k : ℕ) → ((q : ℕ) → q < p + k → AreOrdered ComesBefore (waiting_rows l q)) → AreLeftFrom p (flat_map (waiting_rows l) (range_with_len p k))
  waiting_ordered p zero each = record { ordered = tt; from = tt }
  waiting_ordered p (suc k) each =
      let rows = waiting_rows l p in
      let more = flat_map (waiting_rows l) (range_with_len (p + 1) k) in
      let rest = waiting_ordered (p + 1) k (λ q h. each q (omega (arith, h))) in
      record {
        ordered = ordered-append ComesBefore rows more (each p (omega arith)) rest.ordered
            (each-weaker (λ (r : Row). (r.answer ≡ None) × (r.issue.pe ≡ p)) (λ r. AllByRecursion (ComesBefore r) more) rows
            (λ r mine. each-weaker (IsLeftFrom (p + 1)) (ComesBefore r) more (λ s later. before_later p r s mine later) rest.from)
            (own_rows p (waiting l p) (all_waiting p)));
        from = each-append (IsLeftFrom p) rows more
            (all_left_from p (waiting l p) (all_waiting p))
            (each-weaker (IsLeftFrom (p + 1)) (IsLeftFrom p) more (λ r f. (f.0, omega (arith, f.1))) rest.from);
      }

-- ---- all rows
with_answers : (is : List LoggedIssue) (answers : List LoggedAnswer) → AllByRecursion (λ (r : Row). (a : LoggedAnswer) × (r.answer ≡ Some a)) (answered_rows is answers)
with_answers is [] = tt
with_answers is (a ∷ answers) = each-append (λ (r : Row). (a : LoggedAnswer) × (r.answer ≡ Some a)) (answered_row is a) (answered_rows is answers) (with_answer a (find (λ i. is_answer_to i a) is)) (with_answers is answers)
  where
    with_answer : (a : LoggedAnswer) (o : Option LoggedIssue) → AllByRecursion (λ (r : Row). (a : LoggedAnswer) × (r.answer ≡ Some a)) (rows_with_answer [] a o)
    with_answer a None = tt
    with_answer a (Some i) = ((a, refl), tt)

answered_first : (r s : Row) → (a : LoggedAnswer) × (r.answer ≡ Some a) → s.answer ≡ None → ComesBefore r s
answered_first r s with_one without = rw (with_one.1, without) tt

pub rows_ordered : (c : Settings) → AreInRange c → (program : List Instr) (n : ℕ) → AllPairs ComesBefore (request_rows (size c) (log_after c program n))
rows_ordered c range program n =
    let l = log_after c program n in
    let first = answered_rows l.issues l.answers in
    let rest = flat_map (waiting_rows l) (range_with_len 0 (size c)) in
    let left = waiting_ordered l 0 (size c) (λ p h. by_number p 0 _ (waiting l p) (ascending_filter (λ i. not (is_answered l.answers i)) 0 _ (own p l.issues) (in_step c range program n p (omega (arith, h))).ascending) (all_waiting l p)) in
    all_pairs ComesBefore (first ++ rest)
    (ordered-append ComesBefore first rest (answered_ordered l.issues l.answers (all_below c range program n).ordered) left.ordered
    (each-weaker (λ (r : Row). (a : LoggedAnswer) × (r.answer ≡ Some a)) (λ r. AllByRecursion (ComesBefore r) rest) first
    (λ r with_one. each-weaker (IsLeftFrom 0) (ComesBefore r) rest (λ s f. answered_first r s with_one f.0) left.from)
    (with_answers l.issues l.answers)))
