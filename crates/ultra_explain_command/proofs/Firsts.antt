-- prefixes, and the lines of the first events of a cycle
use Rattle.std.proofs.Common.{◌≡◌, ◌∙◌, ℕ, zero, suc, ◌+◌, ◌<◌, List, [], ◌∷◌, ◌++◌, take, drop, get_or, length, ap, sym, refl, subst, append_assoc, append-nil}
use Rattle.std.proofs.lemmas.List.{take_more, drop_more}
use Rattle.std.specs.Prelude.{Result, Ok, Err, IfErr, OnOk, OnErr}
use Rattle.ultra_msg.specs.{Bytes.{IsPrefix, TakesPrefix}, declared.Event.Event}
use Rattle.ultra_msg.proofs.Prefixes.{prefix_behind, takes_all, takes_behind, takes_longer}
use Rattle.ultra_serial_law.specs.{Tree.{Kept, trees_after}, Explicable.{AreAbsorbable, IsAbsorbable}}
use Rattle.ultra_tree.specs.Absorb.{ExplainerState}
use Rattle.ultra_inputs.specs.declared.failure.Failure.{Failure, TheVariants.HeapFull}
use Rattle.ultra_explain_command.specs.Explanation.{tree_event_line, event_lines, trees_after_all, StopsAtCombination}

-- ---- what was put, whether all of it or not
pub put_part : {T E : Type 0} (r : Result T E) {bytes old new : List ℕ} → OnOk r (new ≡ old ++ bytes) → OnErr r (TakesPrefix bytes old new) → TakesPrefix bytes old new
put_part (Ok x) {bytes = bytes} same begun = takes_all bytes same
put_part (Err e) same begun = begun

-- what follows from it where all of it was put
pub at_success : {T E P Q : Type 0} (r : Result T E) → OnOk r P → (P → Q) → OnOk r Q
at_success (Ok x) p f = f p
at_success (Err e) p f = tt

-- what was put behind the bytes that waited, and then taken or a prefix of it
pub passed_on : {bytes waited waits before after : List ℕ} → TakesPrefix bytes waited waits → TakesPrefix waits before after → TakesPrefix (waited ++ bytes) before after
passed_on {bytes = bytes} {waited = waited} put t =
    takes_longer (subst (λ x. IsPrefix x (waited ++ bytes)) (sym put.taken) (prefix_behind waited put.part bytes put.begins)) t

-- ---- one event more
lines_more : (c : ℕ) (ks : List Kept) (es : List Event) (e : Event) → event_lines c ks (es ++ e ∷ []) ≡ event_lines c ks es ++ tree_event_line c (trees_after_all ks es) e
lines_more c ks [] e = append-nil (tree_event_line c ks e)
lines_more c ks (d ∷ es) e =
    let first = tree_event_line c ks d in
    let us = trees_after ks d in
    ap (λ t. first ++ t) (lines_more c us es e) ∙ sym (append_assoc first (event_lines c us es) (tree_event_line c (trees_after_all us es) e))

trees_more : (ks : List Kept) (es : List Event) (e : Event) → trees_after_all ks (es ++ e ∷ []) ≡ trees_after (trees_after_all ks es) e
trees_more ks [] e = refl
trees_more ks (d ∷ es) e = trees_more (trees_after ks d) es e

trees_next : (ks : List Kept) (es : List Event) (k : ℕ) (d : Event) → k < length es → trees_after_all ks (take (k + 1) es) ≡ trees_after (trees_after_all ks (take k es)) (get_or es k d)
trees_next ks es k d here = ap (λ us. trees_after_all ks us) (take_more es k d here) ∙ trees_more ks (take k es) (get_or es k d)

-- the lines of the first events are a prefix of those of all
first_begin : (c : ℕ) (ks : List Kept) (es : List Event) (k : ℕ) → IsPrefix (event_lines c ks (take k es)) (event_lines c ks es)
first_begin c ks es zero = (event_lines c ks es, refl)
first_begin c ks [] (suc k) = ([], refl)
first_begin c ks (e ∷ es) (suc k) =
    let first = tree_event_line c ks e in
    let p = first_begin c (trees_after ks e) es k in
    (p.0, append_assoc first (event_lines c (trees_after ks e) (take k es)) p.0 ∙ ap (λ t. first ++ t) p.1)

module _ (c : ℕ) (ks : List Kept) (es : List Event) (k : ℕ) (d : Event) (here : k < length es) where
  lines_next : event_lines c ks (take (k + 1) es) ≡ event_lines c ks (take k es) ++ tree_event_line c (trees_after_all ks (take k es)) (get_or es k d)
  lines_next = ap (λ us. event_lines c ks us) (take_more es k d here) ∙ lines_more c ks (take k es) (get_or es k d)

  -- with these lines and trees, and one line more
  module _ (us : List Kept) (old text : List ℕ) (trees : us ≡ trees_after_all ks (take k es)) (put : text ≡ old ++ event_lines c ks (take k es)) where
    with_line : text ++ tree_event_line c us (get_or es k d) ≡ old ++ event_lines c ks (take (k + 1) es)
    with_line = rw (trees, put, lines_next) (append_assoc old (event_lines c ks (take k es)) (tree_event_line c (trees_after_all ks (take k es)) (get_or es k d)))

    pub put_next : (new : List ℕ) → new ≡ text ++ tree_event_line c us (get_or es k d) → new ≡ old ++ event_lines c ks (take (k + 1) es)
    put_next new e = e ∙ with_line

    pub begun_there : (new : List ℕ) → TakesPrefix (tree_event_line c us (get_or es k d)) text new → TakesPrefix (event_lines c ks es) old new
    begun_there new b =
        takes_longer (first_begin c ks es (k + 1))
        (subst (λ t. TakesPrefix t old new) (sym lines_next)
        (subst (λ vs. TakesPrefix (event_lines c ks (take k es) ++ tree_event_line c vs (get_or es k d)) old new) trees (takes_behind (event_lines c ks (take k es)) put b)))

pub absorbed_next : (old e u : ExplainerState) (es : List Event) (k : ℕ) (d : Event) → k < length es → e ≡ record old { trees = trees_after_all old.trees (take k es) } → u ≡ record e { trees = trees_after e.trees (get_or es k d) } → u ≡ record old { trees = trees_after_all old.trees (take (k + 1) es) }
absorbed_next old e u es k d here same next =
    next
    ∙ (ap (λ (x : ExplainerState). record x { trees = trees_after x.trees (get_or es k d) }) same
    ∙ ap (λ us. record old { trees = us }) (sym (trees_next old.trees es k d here)))

-- the first of the events that are left can come, and the others after it
pub left_come : (n m : ℕ) (ks : List Kept) (es : List Event) (k : ℕ) (d : Event) → k < length es → AreAbsorbable n m ks (drop k es) → IsAbsorbable n m ks (get_or es k d) × AreAbsorbable n m (trees_after ks (get_or es k d)) (drop (k + 1) es)
left_come n m ks es k d here h = subst (λ us. AreAbsorbable n m ks us) (drop_more es k d here) h

-- lines that stop at a combination, behind what was written before
pub stops_behind : (c : ℕ) (ks : List Kept) (es : List Event) (first old put new : List ℕ) → new ≡ first ++ put → {T : Type 0} (r : Result T Failure) → IfErr r (λ f. f ≡ HeapFull → StopsAtCombination c ks es old put) → IfErr r (λ f. f ≡ HeapFull → StopsAtCombination c ks es (first ++ old) new)
stops_behind c ks es first old put new written (Ok x) h = tt
stops_behind c ks es first old put new written (Err f) h = λ full.
    let s = h full in
    record {
      before = s.before;
      event = s.event;
      next = s.next;
      combines = s.combines;
      lines = written ∙ (ap (λ t. first ++ t) s.lines ∙ sym (append_assoc first old (event_lines c ks (take s.before es))));
    }
