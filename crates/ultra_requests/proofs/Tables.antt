-- the table of a run is made of the rows of its cycles and of those at its end
use Rattle.std.proofs.Common.{ℕ, zero, suc, ◌≡◌, ◌≢◌, ◌+◌, ◌<◌, ◌≤◌, List, [], ◌∷◌, ◌++◌, length, Bool, true, false, not, ◌||◌, ◌&&◌, cond, map, append-nil, append_assoc, refl, sym, ap, ◌∙◌, subst, arith}
use Rattle.std.specs.{Prelude.{Option, Some, None, option_to_list, ◌==◌}, Option.option_or}
use Rattle.std.specs.List.{AllByRecursion, filter, find, flat_map, list_any, range_with_len}
use Rattle.std.proofs.lemmas.{Bool.{eqb-true, cases_Bool, Decides.nat_tests}, List.{Concat.flat_map-append, Folds.find-append}}
use Rattle.ultra_msg.specs.declared.Event.{Event, TheVariants.{Delivered, Served, Combined, Issued}}
use Rattle.ultra_isa.specs.declared.Instr.{Instr}
use Rattle.ultra_model.specs.{Machine.{Settings, size}, Phases.after, Ranges.AreInRange, Trace.{by_number, cycle_count}}
use Rattle.ultra_model.proofs.Each.{each-append, each-weaker}
use Rattle.ultra_serial_law.specs.{declared.records.{LoggedIssue.LoggedIssue, LoggedAnswer.LoggedAnswer}, SerialList.history}
use Rattle.ultra_serial_law.proofs.ProcessorForest.{issues_noted, noted_issues}
use Rattle.ultra_trace_text.proofs.Numbered.{by_number_more}
use Rattle.ultra_trace_alone.specs.RunText.{run_text}
use Rattle.ultra_latency.specs.{declared.open.OpenRequest.OpenRequest, Open.{row, open_rows}}
use Rattle.ultra_latency.proofs.OwnIssues.{logged_as, next_history, own}
use Rattle.ultra_requests.specs.RequestTable.{Row, answered_row, answered_rows, header_line, is_answer_to, is_answered, requests_of, row_line, waiting, waiting_rows}
use Rattle.ultra_requests.specs.{CycleRows.{answer_in, answers_of_cycle, log_after, rows_at_end, rows_of_cycle}, Along.{logged_issue, waiting_all, waiting_line, waiting_text}}
use Rattle.ultra_requests.proofs.{Numbered.{as_open, cond_tested, is_numbered, left_by, opens}, Steps.{answers_next, in_step, own_answers}, Found.{IsFound, all_found}}

-- ---- the issues so far stay where they are
abbrev IsLonger : List LoggedIssue → List LoggedIssue → Type 0
IsLonger is js = (more : List LoggedIssue) × (js ≡ is ++ more)

noted_longer : (n : ℕ) (es : List Event) (is : List LoggedIssue) → IsLonger is (issues_noted n es is)
noted_longer n [] is = ([], sym (append-nil is))
noted_longer n (Delivered r ∷ es) is = noted_longer n es is
noted_longer n (Served k r v now ∷ es) is = noted_longer n es is
noted_longer n (Combined s x a old new f ∷ es) is = noted_longer n es is
noted_longer n (Issued r k ∷ es) is =
    let rest = noted_longer n es (is ++ logged_as n r k ∷ []) in
    (logged_as n r k ∷ rest.0, rest.1 ∙ append_assoc is (logged_as n r k ∷ []) rest.0)

-- ---- answers find the same issues in a longer log
abbrev pub FindIn : List LoggedIssue → LoggedAnswer → Type 0
FindIn is a = (i : LoggedIssue) × (find (λ j. is_answer_to j a) is ≡ Some i)

same_rows : (is more : List LoggedIssue) (answers : List LoggedAnswer) → AllByRecursion (FindIn is) answers → answered_rows (is ++ more) answers ≡ answered_rows is answers
same_rows is more [] all = refl
same_rows is more (a ∷ answers) all =
    let t : LoggedIssue → Bool = λ j. is_answer_to j a in
    let rows : Option LoggedIssue → List Row = λ o. map (λ j. record { issue = j; answer = Some a }) (option_to_list o) in
    let longer : find t (is ++ more) ≡ Some all.0.0 = find-append t is more ∙ ap (λ o. option_or o (find t more)) all.0.1 in
    ap (λ o. rows o ++ answered_rows (is ++ more) answers) (longer ∙ sym all.0.1)
    ∙ ap (λ xs. answered_row is a ++ xs) (same_rows is more answers all.1)

module _ (c : Settings) (program : List Instr) where
  abbrev issues : ℕ → List LoggedIssue
  issues n = (log_after c program n).issues

  abbrev answers : ℕ → List LoggedAnswer
  answers n = (log_after c program n).answers

  cycle_longer : (n : ℕ) → IsLonger (issues n) (issues (n + 1))
  cycle_longer n =
      let next : n + 1 ≡ suc n = omega arith in
      let es = (after c program (suc n)).events in
      let longer = noted_longer n es (issues n) in
      (longer.0, ap (λ k. (history c program k).log.issues) next ∙ ap (λ h. h.log.issues) (next_history c program n) ∙ noted_issues n es (history c program n) ∙ longer.1)

  later_longer : (n m k : ℕ) → n + m ≡ k → IsLonger (issues n) (issues k)
  later_longer n zero k e = let same : k ≡ n = omega arith in ([], ap issues same ∙ sym (append-nil (issues n)))
  later_longer n (suc m) k e =
      let first = cycle_longer n in
      let rest = later_longer (n + 1) m k (omega (arith, e)) in
      (first.0 ++ rest.0, rest.1 ∙ ap (λ xs. xs ++ rest.0) first.1 ∙ append_assoc (issues n) first.0 rest.0)

  each_found : (n : ℕ) (es : List Event) → AllByRecursion (IsFound c program n) es → AllByRecursion (FindIn (issues n)) (flat_map (answer_in n (issues n)) es)
  each_found n [] all = tt
  each_found n (Delivered r ∷ es) all = ((_, all.0), each_found n es all.1)
  each_found n (Served k r v now ∷ es) all = each_found n es all.1
  each_found n (Combined s x a old new f ∷ es) all = each_found n es all.1
  each_found n (Issued r k ∷ es) all = each_found n es all.1

  lines_of : (n : ℕ) → flat_map row_line (answered_rows (issues n) (answers_of_cycle c program n)) ≡ rows_of_cycle c program n
  unfolding rows_of_cycle
  lines_of n = refl

  no_answers : answers 0 ≡ []
  unfolding history
  no_answers = refl

module _ (c : Settings) (range : AreInRange c) (program : List Instr) where
  -- the rows of the answers of a cycle, by a longer log
  later_rows : (n m k : ℕ) → n + m ≡ k → flat_map row_line (answered_rows (issues c program k) (answers_of_cycle c program n)) ≡ rows_of_cycle c program n
  later_rows n m k e =
      let longer = later_longer c program n m k e in
      ap (λ is. flat_map row_line (answered_rows is (answers_of_cycle c program n))) longer.1
      ∙ ap (flat_map row_line) (same_rows (issues c program n) longer.0 (answers_of_cycle c program n) (each_found c program n (after c program (n + 1)).events (all_found c range program n)))
      ∙ lines_of c program n

  rows_so_far : (n m k : ℕ) → n + m ≡ k → flat_map row_line (answered_rows (issues c program k) (answers c program n)) ≡ by_number n (rows_of_cycle c program)
  rows_so_far zero m k e = ap (λ xs. flat_map row_line (answered_rows (issues c program k) xs)) (no_answers c program)
  rows_so_far (suc n) m k e =
      let next : suc n ≡ n + 1 = omega arith in
      let is = issues c program k in
      let so_far = answers c program n in
      let now = answers_of_cycle c program n in
      ap (λ j. flat_map row_line (answered_rows is (answers c program j))) next
      ∙ ap (λ xs. flat_map row_line (answered_rows is xs)) (answers_next c range program n)
      ∙ ap (flat_map row_line) (flat_map-append (answered_row is) so_far now)
      ∙ flat_map-append row_line (answered_rows is so_far) (answered_rows is now)
      ∙ ap (λ text. text ++ flat_map row_line (answered_rows is now)) (rows_so_far n (m + 1) k (omega (arith, e)))
      ∙ ap (λ text. by_number n (rows_of_cycle c program) ++ text) (later_rows n (m + 1) k (omega (arith, e)))
      ∙ sym (by_number_more n (rows_of_cycle c program))
      ∙ ap (λ j. by_number j (rows_of_cycle c program)) (sym next)

  each_longer : (n : ℕ) (xs : List LoggedAnswer) → AllByRecursion (FindIn (issues c program n)) xs → AllByRecursion (FindIn (issues c program (n + 1))) xs
  each_longer n xs all =
      let longer = cycle_longer c program n in
      each-weaker (FindIn (issues c program n)) (FindIn (issues c program (n + 1))) xs
      (λ a f.
      let t : LoggedIssue → Bool = λ j. is_answer_to j a in
      (f.0, ap (find t) longer.1 ∙ find-append t (issues c program n) longer.0 ∙ ap (λ o. option_or o (find t longer.0)) f.1))
      all

  -- each answer so far finds its issue
  pub all_find : (n : ℕ) → AllByRecursion (FindIn (issues c program n)) (answers c program n)
  all_find zero = rw (no_answers c program) tt
  all_find (suc n) =
      let next : n + 1 ≡ suc n = omega arith in
      let now = each_found c program n (after c program (n + 1)).events (all_found c range program n) in
      subst (λ k. AllByRecursion (FindIn (issues c program k)) (answers c program k)) next
      (subst (λ xs. AllByRecursion (FindIn (issues c program (n + 1))) xs) (sym (answers_next c range program n))
      (each-append (FindIn (issues c program (n + 1))) (answers c program n) (answers_of_cycle c program n) (each_longer n (answers c program n) (all_find n)) (each_longer n (answers_of_cycle c program n) now)))

  pub table_is : run_text record { opening = header_line; lines = rows_of_cycle; closing = rows_at_end; last = None } c program ≡ requests_of c program
  unfolding run_text requests_of rows_at_end
  table_is =
      let n = cycle_count c program in
      let l = log_after c program n in
      let rest = flat_map (waiting_rows l) (range_with_len 0 (size c)) in
      sym
      (ap (λ text. header_line ++ text)
      (flat_map-append row_line (answered_rows l.issues l.answers) rest
      ∙ ap (λ text. text ++ flat_map row_line rest) (rows_so_far n 0 n (omega arith))))

-- ---- the rows at the end
any_if : (p : ℕ) (i : LoggedIssue) (a : LoggedAnswer) (rest : List LoggedAnswer) (b x : Bool) → i.pe ≡ p → (a.pe == p) ≡ b → x ≡ is_numbered rest i → (is_answer_to i a || x) ≡ is_numbered (cond b (a ∷ rest) rest) i
any_if p i a rest true x pe e h =
    let here : (i.pe == a.pe) ≡ true = grind (arith, nat_tests) in
    rw here (ap (λ y. (i.number == a.number) || y) h)
any_if p i a rest false x pe e h =
    let apart : (i.pe == a.pe) ≡ false = grind (arith, nat_tests) in
    rw apart h

any_own : (p : ℕ) (i : LoggedIssue) → i.pe ≡ p → (answers : List LoggedAnswer) → is_answered answers i ≡ is_numbered (own_answers p answers) i
any_own p i pe [] = refl
any_own p i pe (a ∷ answers) = any_if p i a (own_answers p answers) (a.pe == p) (is_answered answers i) pe refl (any_own p i pe answers)

pub own_all : (p : ℕ) (is : List LoggedIssue) → AllByRecursion (λ (i : LoggedIssue). i.pe ≡ p) (own p is)
own_all p [] = tt
own_all p (i ∷ is) = let rest = own_all p is in cond_tested (i.pe == p) (λ xs. AllByRecursion (λ (i : LoggedIssue). i.pe ≡ p) xs) (i ∷ own p is) (own p is) (λ z. (eqb-true i.pe p z, rest)) (λ z. rest)

pub all_left : (t : LoggedIssue → Bool) (p : ℕ) (is : List LoggedIssue) → AllByRecursion (λ (i : LoggedIssue). i.pe ≡ p) is → AllByRecursion (λ (i : LoggedIssue). i.pe ≡ p) (filter t is)
all_left t p [] all = tt
all_left t p (i ∷ is) all = let rest = all_left t p is all.1 in cond_tested (t i) (λ xs. AllByRecursion (λ (i : LoggedIssue). i.pe ≡ p) xs) (i ∷ filter t is) (filter t is) (λ z. (all.0, rest)) (λ z. rest)

pub left_same : (p : ℕ) (answers : List LoggedAnswer) (is : List LoggedIssue) → AllByRecursion (λ (i : LoggedIssue). i.pe ≡ p) is → filter (λ i. not (is_answered answers i)) is ≡ left_by (own_answers p answers) is
left_same p answers [] all = refl
left_same p answers (i ∷ is) all = rw (any_own p i all.0 answers, left_same p answers is all.1) refl

waiting_lines : (p : ℕ) (is : List LoggedIssue) → AllByRecursion (λ (i : LoggedIssue). i.pe ≡ p) is → waiting_text p (opens is) ≡ flat_map row_line (map (λ i. record { issue = i; answer = None }) is)
waiting_lines p [] all = refl
waiting_lines p (i ∷ is) all =
    ap (λ q. waiting_line q (as_open i) ++ waiting_text p (opens is)) (sym all.0)
    ∙ ap (λ text. row_line record { issue = i; answer = None } ++ text) (waiting_lines p is all.1)

flat_flat : {X Y : Type 0} (line : Y → List ℕ) (rows : X → List Y) (xs : List X) → flat_map line (flat_map rows xs) ≡ flat_map (λ x. flat_map line (rows x)) xs
flat_flat line rows [] = refl
flat_flat line rows (x ∷ xs) = flat_map-append line (rows x) (flat_map rows xs) ∙ ap (λ text. flat_map line (rows x) ++ text) (flat_flat line rows xs)

same_by_number : (f g : ℕ → List ℕ) (n a : ℕ) → ((k : ℕ) → k < a + n → f k ≡ g k) → flat_map f (range_with_len a n) ≡ flat_map g (range_with_len a n)
same_by_number f g zero a same = refl
same_by_number f g (suc n) a same =
    ap (λ text. text ++ flat_map f (range_with_len (a + 1) n)) (same a (omega arith))
    ∙ ap (λ text. g a ++ text) (same_by_number f g n (a + 1) (λ k h. same k (omega arith)))

module _ (c : Settings) (range : AreInRange c) (program : List Instr) (n : ℕ) where
  waiting_of : (p : ℕ) → p < size c → waiting_text p (row (open_rows c program n) p) ≡ flat_map row_line (waiting_rows (log_after c program n) p)
  waiting_of p h =
      let l = log_after c program n in
      let mine = own p l.issues in
      let all = own_all p l.issues in
      let left = left_by (own_answers p l.answers) mine in
      ap (waiting_text p) (sym (in_step c range program n p h).left)
      ∙ waiting_lines p left (all_left (λ i. not (is_numbered (own_answers p l.answers) i)) p mine all)
      ∙ ap (λ is. flat_map row_line (map (λ i. record { issue = i; answer = None }) is)) (sym (left_same p l.answers mine all))

  pub rows_end : waiting_all (size c) (open_rows c program n) ≡ flat_map row_line (flat_map (waiting_rows (log_after c program n)) (range_with_len 0 (size c)))
  rows_end =
      same_by_number (λ p. waiting_text p (row (open_rows c program n) p)) (λ p. flat_map row_line (waiting_rows (log_after c program n) p)) (size c) 0 (λ p h. waiting_of p (omega (arith, h)))
      ∙ sym (flat_flat row_line (waiting_rows (log_after c program n)) (range_with_len 0 (size c)))

pub end_is : (c : Settings) → AreInRange c → (program : List Instr) → waiting_all (size c) (open_rows c program (cycle_count c program)) ≡ rows_at_end c program
unfolding rows_at_end
end_is c range program = rows_end c range program (cycle_count c program)
