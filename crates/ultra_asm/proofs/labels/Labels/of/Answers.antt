use Rattle.std.proofs.Common.{◌≡◌, ℕ, ◌+◌, ◌≤◌, ◌∙◌, ap, sym, refl, inl, inr, eqb, true, false, List, [], ◌∷◌, ◌++◌, option_map, take, length, get_or, Some, None, arith, rules, tests}
use Rattle.std.proofs.lemmas.{Bool.eqb-true, List.{length-map, length_push, Sorted.answers_always}, Iterator.{Consumers.{YieldsList-at, YieldsList-from_enumerate}, Splits.YieldsList-from_slice_split}}
use Rattle.ultra_asm.specs.{declared.labels.Label.Label, Words.text_words, Label.AreInOrder, Labels.{line_label, statement, instructions_on}}
use Rattle.ultra_asm.proofs.{FirstWords.{label_few, count_few}, Turns.{Lent, texts, turn, end}, InstructionLines.{AreInstructionLines, lines_same, lines_push}, Collecting.{AreOfLines, line_unlabelled, line_labelled, in_order_found}}
use Rattle.ultra_asm.proofs.labels.Labels.of.Goals as goal
use Rattle.ultra_asm.proofs.labels.Labels.of.Goals.{After-sort_unstable_by_key, in-Some-line_label+in_ok-push, in_default, then-not-is_empty+then-len-lt-MOST_INSTRUCTIONS+in_ok-push-2, else-not-is_empty, else-not-is_empty-via-then-not-is_empty+else-len-lt-MOST_INSTRUCTIONS, else-not-is_empty-via-else-not-is_empty}

counted_none : (ws vs : List (List ℕ)) → vs ≡ statement ws → eqb (length vs) 0 ≡ true → instructions_on ws ≡ 0
counted_none ws [] e h = rw (← e) refl
counted_none ws (v ∷ vs) e h = absurd (omega (arith, eqb-true _ _ h))

counted_some : (ws vs : List (List ℕ)) → vs ≡ statement ws → eqb (length vs) 0 ≡ false → instructions_on ws ≡ 1
counted_some ws [] e h = absurd cc
counted_some ws (v ∷ vs) e h = rw (← e) refl

pub loop-line-preserved : goal.loop-line-preserved
loop-line-preserved c =
    let text = c.args.text.now in
    let ls = text_words text in
    let k = length c.loop-line.yielded in
    let ws = get_or ls k [] in
    let here = turn text c.loop-line.yielded _ c.loop-line.yielded_by _ _ c.in-Some.line c.in-Some.code c.in-Some.is c.next.ensures.steps (YieldsList-at c.into_iter-line-iterator.ensures.into_iter_gives (YieldsList-from_enumerate (YieldsList-at c.enumerate-line-items.ensures.source (YieldsList-from_slice_split _ (λ b. eqb b 10) text (cc) (cc) (cc) (λ x b q k. search (rules, tests)))) c.enumerate-line-items.ensures.count)) in
    let lt = here.within in
    let number = here.number in
    let line : texts c.in_ok-words.words.items ≡ take 6 ws = c.in_ok-words.ensures ∙ ap (take 6) here.words in
    let few : texts c.as_slice.result.now ≡ take 6 ws = ap texts c.as_slice.ensures.value ∙ line in
    let behind : texts c.statement.result.now ≡ statement (take 6 ws) = c.statement.ensures ∙ ap (λ (vs : List Lent). statement (texts vs)) c.as_slice-in-loop-line.ensures.value ∙ ap statement line in
    let words : length (texts c.statement.result.now) ≡ length c.statement.result.now = length-map c.statement.result.now (λ (w : Lent). w.now) in
    let empty : c.is_empty.result ≡ eqb (length (texts c.statement.result.now)) 0 = c.is_empty.ensures ∙ ap (λ n. eqb n 0) (sym words) in
    let label : option_map (λ (w : Lent). w.now) c.line_label.result ≡ line_label ws = c.line_label.ensures ∙ ap line_label few ∙ label_few ws in
    let more : length (c.loop-line.yielded ++ (c.in-Some.line, c.in-Some.code) ∷ []) ≡ k + 1 = length_push c.loop-line.yielded (c.in-Some.line, c.in-Some.code) in
    let labels : AreOfLines ls (k + 1) c.match-line_label.list.items =
    elim c.match-line_label.branch [
      | in-Some-line_label+in_ok-push w ↦
          let named : Some w.in-Some-line_label.name.now ≡ line_label ws = ap (option_map (λ (n : Lent). n.now)) (sym w.in-Some-line_label.is) ∙ label in
          rw (w.list-is, w.in_ok-push.ensures.items) (line_labelled ls k c.loop-line.list.items lt c.loop-line.invariant.labels _ named number)
      | in_default w ↦
          let none : None ≡ line_label ws = sym (ap (option_map (λ (n : Lent). n.now)) w.in_default.is) ∙ label in
          rw w.list-is (line_unlabelled ls k c.loop-line.list.items lt c.loop-line.invariant.labels none)
    ] in
    let lines : AreInstructionLines ls (k + 1) c.if-not-is_empty.instructions.items =
    elim c.if-not-is_empty.branch [
      | then-not-is_empty+then-len-lt-MOST_INSTRUCTIONS+in_ok-push-2 w ↦
          let one : instructions_on ws ≡ 1 = sym (count_few ws) ∙ counted_some (take 6 ws) _ behind (sym empty ∙ w.if-not-is_empty.true) in
          rw (w.instructions-is, w.in_ok-push-2.ensures.items, number) (lines_push ls k c.loop-line.instructions.items lt c.loop-line.invariant.lines one (omega (arith, w.len.ensures, c.loop-line.instructions.ok.0, w.if-len-lt-MOST_INSTRUCTIONS.true)))
      | else-not-is_empty w ↦
          rw w.instructions-is (lines_same ls k c.loop-line.instructions.items lt c.loop-line.invariant.lines (elim w.else-not-is_empty.branch [
            | else-not-is_empty-via-then-not-is_empty+else-len-lt-MOST_INSTRUCTIONS v ↦ inr (omega (arith, v.len.ensures, c.loop-line.instructions.ok.0, v.if-len-lt-MOST_INSTRUCTIONS.false))
            | else-not-is_empty-via-else-not-is_empty v ↦ inl (sym (count_few ws) ∙ counted_none (take 6 ws) _ behind (sym empty ∙ v.if-not-is_empty.false))
          ]))
    ] in
    record {
      labels = rw more labels;
      lines = rw more lines;
    }

-- all lines are read
all_read : (c : After-sort_unstable_by_key) → length (text_words c.args.text.now) ≤ length c.loop-line.yielded
all_read c = end c.args.text.now c.loop-line.yielded _ c.loop-line.yielded_by _ _ c.in-None.is c.next.ensures.steps (YieldsList-at c.into_iter-line-iterator.ensures.into_iter_gives (YieldsList-from_enumerate (YieldsList-at c.enumerate-line-items.ensures.source (YieldsList-from_slice_split _ (λ b. eqb b 10) c.args.text.now (cc) (cc) (cc) (λ x b q k. search (rules, tests)))) c.enumerate-line-items.ensures.count))

-- they are in order
sorted : (c : After-sort_unstable_by_key) → AreInOrder c.sort_unstable_by_key.new.self.items
sorted c = c.sort_unstable_by_key.ensures.sorted (λ (l : Label). (l.name, l.line)) (answers_always _ _ _ (λ f a r g h. search rules))

pub invariant_of-result : goal.invariant_of-result
invariant_of-result c = record { in_order = sorted ((goal.at.invariant_of-result c).After-sort_unstable_by_key); rising = c.loop-line.invariant.lines.rising }

pub returns : goal.returns
returns c =
    let before = (goal.at.returns c).After-sort_unstable_by_key in
    λ q. in_order_found (text_words c.args.text.now) (length c.loop-line.yielded) c.loop-line.instructions.items (all_read before) c.loop-line.invariant.lines q c.loop-line.list.items c.sort_unstable_by_key.new.self.items c.loop-line.invariant.labels c.sort_unstable_by_key.ensures.permutation (sorted before)
