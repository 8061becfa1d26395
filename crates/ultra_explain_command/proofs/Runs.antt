-- the lines of a run, cycle by cycle
use Rattle.std.proofs.Common.{◌≡◌, ◌∙◌, ℕ, zero, suc, ◌+◌, ◌<◌, ◌≤◌, List, [], ◌∷◌, ◌++◌, true, false, refl, sym, ap, subst, arith, add-one, append_assoc, append-nil, ⊎_elim, length}
use Rattle.std.proofs.lemmas.Bool.{cases_eq}
use Rattle.ultra_msg.specs.{Bytes.{AreTakenOrWait, IsPrefix, TakesPrefix}, declared.Event.Event}
use Rattle.ultra_msg.proofs.Prefixes.{both_written, prefix_behind, rest_passed_on, takes_later, takes_longer}
use Rattle.ultra_isa.specs.declared.Instr.{Instr}
use Rattle.ultra_model.specs.{Machine.{Settings, fresh_element, size, start, is_quiet}, Phases.{processor_phase, cycle, after}}
use Rattle.ultra_model.proofs.Each.{length-places}
use Rattle.ultra_serial_law.specs.{Tree.{Kept, trees_after}, SerialList.{History, history}, Explicable.{AreAbsorbable, AreExplicable}}
use Rattle.ultra_serial.proofs.Cycles.{history_next}
use Rattle.ultra_serial_law.proofs.{Mentions.{trees_noted, noted_trees}, Rest.{IsAtRest, rest_if_quiet, rest_cycle, nothing_happens}}
use Rattle.ultra_tree.specs.Absorb.{ExplainerState}
use Rattle.ultra_explain_command.specs.Explanation.{event_lines, trees_after_all, lines_of_first, StopsAtCombination, StopsFull}

noted_all : (es : List Event) (ks : List Kept) → trees_noted es ks ≡ trees_after_all ks es
noted_all [] ks = refl
noted_all (e ∷ es) ks = noted_all es (trees_after ks e)

module _ (c : Settings) (program : List Instr) where
  -- ---- one cycle more
  pub trees_next : (n : ℕ) (es : List Event) → es ≡ (after c program (n + 1)).events → (history c program (n + 1)).trees ≡ trees_after_all (history c program n).trees es
  trees_next n es e =
      ap (λ (h : History). h.trees) (history_next c program n es e)
      ∙ (noted_trees n es (history c program n) ∙ noted_all es (history c program n).trees)

  pub no_lines : lines_of_first c program 0 ≡ []
  unfolding lines_of_first
  no_lines = refl

  pub lines_next : (n : ℕ) (es : List Event) → es ≡ (after c program (n + 1)).events → lines_of_first c program (n + 1) ≡ lines_of_first c program n ++ event_lines n (history c program n).trees es
  unfolding lines_of_first
  lines_next n es e = rw (e, add-one) refl

  -- ---- the lines of fewer cycles are a prefix of those of more
  pub lines_grow : (n m : ℕ) → n ≤ m → IsPrefix (lines_of_first c program n) (lines_of_first c program m)
  unfolding lines_of_first
  lines_grow n zero h = let none : n ≡ 0 = omega (arith, h) in ([], append-nil (lines_of_first c program n) ∙ ap (λ k. lines_of_first c program k) none)
  lines_grow n (suc m) h =
      ⊎_elim (λ e. ([], append-nil (lines_of_first c program n) ∙ ap (λ k. lines_of_first c program k) e))
      (λ ne.
      let p = lines_grow n m (omega (arith, h, ne)) in
      let more = event_lines m (history c program m).trees (after c program (suc m)).events in
      (p.0 ++ more, sym (append_assoc (lines_of_first c program n) p.0 more) ∙ ap (λ t. t ++ more) p.1)) (cases_eq n (suc m))

  -- ---- a machine that is quiet does nothing more
  all_elements : (n : ℕ) → length (after c program n).elements ≡ size c
  unfolding after start cycle processor_phase
  all_elements zero = length-places (size c) (λ p. fresh_element)
  all_elements (suc n) = length-places (size c) _

  rest_later : (n m : ℕ) → n ≤ m → IsAtRest c (after c program n) → IsAtRest c (after c program m) × (lines_of_first c program m ≡ lines_of_first c program n)
  unfolding after lines_of_first
  rest_later n zero l h = let none : n ≡ 0 = omega (arith, l) in (subst (λ k. IsAtRest c (after c program k)) none h, ap (λ k. lines_of_first c program k) (sym none))
  rest_later n (suc m) l h =
      ⊎_elim (λ e. (subst (λ k. IsAtRest c (after c program k)) e h, ap (λ k. lines_of_first c program k) (sym e)))
      (λ ne.
      let r = rest_later n m (omega (arith, l, ne)) h in (
        rest_cycle c program (after c program m) r.0,
        ap (λ es. lines_of_first c program m ++ event_lines m (history c program m).trees es) (nothing_happens c program (after c program m) r.0) ∙ (append-nil (lines_of_first c program m) ∙ r.1),
      )) (cases_eq n (suc m))

  pub quiet_lines : (n m : ℕ) → n ≤ m → is_quiet (after c program n) ≡ true → lines_of_first c program m ≡ lines_of_first c program n
  quiet_lines n m l q = (rest_later n m l (rest_if_quiet c (after c program n) (all_elements n) q)).1

  -- ---- the explainer that has absorbed the first cycles
  abbrev pub explained : ℕ → ExplainerState
  explained n = record { elements = size c; most_open = c.most_open; is_spent = false; trees = (history c program n).trees }

  module _ (n : ℕ) (es : List Event) (here : es ≡ (after c program (n + 1)).events) (e : ExplainerState) (now_is : e ≡ explained n) where
    pub can_come : AreExplicable c program → AreAbsorbable e.elements e.most_open e.trees es
    can_come law = rw (now_is, here) (law.absorbable n)

    pub explained_next : (u : ExplainerState) → u ≡ record e { trees = trees_after_all e.trees es } → u ≡ explained (n + 1)
    explained_next u d =
        d
        ∙ (ap (λ (x : ExplainerState). record x { trees = trees_after_all x.trees es }) now_is
        ∙ ap (λ (ks : List Kept). record (explained n) { trees = ks }) (sym (trees_next n es here)))

    lines_with : lines_of_first c program n ++ event_lines n e.trees es ≡ lines_of_first c program (n + 1)
    lines_with = rw now_is (sym (lines_next n es here))

    module _ (old waited now waits : List ℕ) (so_far : AreTakenOrWait (lines_of_first c program n) old waited now waits) where
      pub written_next : (new left : List ℕ) → AreTakenOrWait (event_lines n e.trees es) now waits new left → AreTakenOrWait (lines_of_first c program (n + 1)) old waited new left
      written_next new left w = subst (λ t. AreTakenOrWait t old waited new left) lines_with (both_written so_far w)

      -- a prefix of the lines so far with those of one cycle more is one of all lines
      pub begun_next : (new : List ℕ) (m : ℕ) → n + 1 ≤ m → TakesPrefix (waits ++ event_lines n e.trees es) now new → TakesPrefix (waited ++ lines_of_first c program m) old new
      begun_next new m h b =
          takes_longer (prefix_behind waited (lines_of_first c program (n + 1)) (lines_of_first c program m) (lines_grow (n + 1) m h))
          (subst (λ t. TakesPrefix (waited ++ t) old new) lines_with (takes_later (event_lines n e.trees es) so_far b))

      pub full_there : (new : List ℕ) → n < c.cycles → StopsAtCombination n e.trees es (now ++ waits) new → StopsFull c program (old ++ waited) new
      full_there new h s =
          let all : now ++ waits ≡ (old ++ waited) ++ lines_of_first c program n =
          rest_passed_on so_far refl ∙ sym (append_assoc old waited (lines_of_first c program n)) in
          record { cycle = n; within = h; stops = rw (now_is, here, all) at s }
