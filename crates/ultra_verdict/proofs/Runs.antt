-- what a run leaves that has made its cycles, or was quiet before
use Rattle.std.proofs.Common.{◌≡◌, ℕ, zero, suc, ◌≤◌, ◌⊎◌, List, [], ◌∷◌, true, inl, inr, sym, ap, subst, ◌∙◌, ⊎_elim}
use Rattle.std.proofs.Math.Path.{fun_ext}
use Rattle.ultra_isa.specs.declared.Instr.{Instr}
use Rattle.ultra_machine.specs.MachineState.{MachineState}
use Rattle.ultra_model.specs.{Machine.{Settings, Machine, is_quiet}, Phases.after, Ranges.AreInRange, Shape.HasShape, Trace.{cell_value, cycle_count, last_state}}
use Rattle.ultra_model.proofs.Sound.{after_is_sound}
use Rattle.ultra_serial_law.specs.{declared.records.{LoggedIssue.LoggedIssue, LoggedAnswer.LoggedAnswer}, Log.Log, Legal.{Has, given, cells_after}, Replies.{Delivery, AreAnswersOf, deliveries}, SerialList.{History, history}}
use Rattle.ultra_serial_law.proofs.{LastCycle.{EndsWell, count_ends}, Law.serial_after, Replies.answers_after, Rest.quiet_history}
use Rattle.ultra_serial.specs.HasRun.{HasRun}
use Rattle.ultra_verdict.specs.Judged.{IsIssueAnswered, AreAnswersIssued}

-- an answer has the issue of its delivery
issue_of : (issues : List LoggedIssue) (ds : List Delivery) (xs : List LoggedAnswer) → AreAnswersOf issues ds xs → (a : LoggedAnswer) → Has xs a → (i : LoggedIssue) × Has issues i × IsIssueAnswered i a
issue_of issues [] [] h a k = absurd cc
issue_of issues [] (x ∷ xs) h a k = absurd h
issue_of issues (d ∷ ds) [] h a k = absurd h
issue_of issues (d ∷ ds) (x ∷ xs) h a (zero, e) =
    let same : x ≡ a = cc in
    let r = h.0.request in
    subst (λ b. (i : LoggedIssue) × Has issues i × IsIssueAnswered i b) same (r.0, r.1, (r.2.pe ∙ sym h.0.pe, r.2.number))
issue_of issues (d ∷ ds) (x ∷ xs) h a (suc k, e) = issue_of issues ds xs h.1 a (k, e)

module _ (c : Settings) (range : AreInRange c) (program : List Instr) where
  pub answers_issued : (n : ℕ) → AreAnswersIssued (history c program n).log
  answers_issued n = issue_of (history c program n).log.issues (deliveries c program n) (history c program n).log.answers (answers_after c range program n)

  history_to_end : (n : ℕ) → EndsWell c program n → history c program n ≡ history c program c.cycles
  history_to_end n (inl e) = ap (λ k. history c program k) e
  history_to_end n (inr h) = quiet_history c program n c.cycles h.0 h.1

  pub log_to_end : (history c program c.cycles).log ≡ (history c program (cycle_count c program)).log
  log_to_end = ap (λ (h : History). h.log) (sym (history_to_end (cycle_count c program) (count_ends c program)))

  -- its cells are those of the replay of what was served
  cells_served : (n : ℕ) (a : ℕ) → cell_value c (after c program n) a ≡ cells_after (given c.initial) (history c program n).order a
  cells_served n a = sym ((serial_after c range program n).cells a)

  module _ (m : MachineState) (run : HasRun c program c.cycles m) where
    ended : EndsWell c program m.state.cycles
    ended = ⊎_elim (λ e. inl e) (λ h. inr (h.0, ap (λ (u : Machine). is_quiet u) (sym run.state) ∙ h.1)) run.end

    pub shape_at_end : HasShape m.settings m.state
    shape_at_end =
        subst (λ s. HasShape s m.state) (sym run.settings)
        (subst (λ u. HasShape c u) (sym run.state) (after_is_sound c range program m.state.cycles).shape)

    cells_of_last : (a : ℕ) → cell_value m.settings m.state a ≡ cell_value c (last_state c program) a
    unfolding last_state
    cells_of_last a =
        let n = m.state.cycles in
        let last = cycle_count c program in
        let same = history_to_end n ended ∙ sym (history_to_end last (count_ends c program)) in
        ap (λ s. cell_value s m.state a) run.settings
        ∙ (ap (λ u. cell_value c u a) run.state
        ∙ (cells_served n a
        ∙ (ap (λ (h : History). cells_after (given c.initial) h.order a) same
        ∙ sym (cells_served last a))))

    pub cells_at_end : cell_value m.settings m.state ≡ cell_value c (last_state c program)
    cells_at_end = fun_ext cells_of_last
