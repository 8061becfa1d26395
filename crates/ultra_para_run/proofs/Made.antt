-- steps that were made, and one more
use Rattle.std.proofs.Common.{◌≡◌, ℕ, ◌+◌, ◌-◌, ◌^◌, ◌<◌, ◌≤◌, List, [], ◌∷◌, ◌++◌, length, take, drop, get_or, Bool, true, false, refl, sym, ◌∙◌, ap, subst, arith, append_assoc, append-nil, inl, inr}
use Rattle.std.specs.Prelude.{◌==◌, if◌then◌else◌, slice_index, slice_set}
use Rattle.std.proofs.lemmas.{List.{get_or-set_same, get_or-set_other, take_more, take-append-drop}, Bool.{cases_eq, eq-eqb, ne_eqb}}
use Rattle.ultra_io.specs.{declared.text_buffer.TextBuffer.TextBuffer, TextBuffer.Writes}
use Rattle.ultra_io.proofs.Writing.{◌then◌, writes_failed, writes_spent}
use Rattle.ultra_isa.specs.declared.Instr.{Instr}
use Rattle.ultra_model.specs.Machine.{Settings, size}
use Rattle.ultra_para.specs.{declared.at_once.StepReport.{StepReport, TheVariants.{Nothing, Acted, Faulted}}, Para.{Para, start_para, para_step, run_para}, ParaState.ParaState, Report.step_report}
use Rattle.ultra_para.proofs.Schedules.{run-append}
use Rattle.ultra_para_run.specs.{declared.steps.ParaRun.ParaRun, Steps.HasMade}
use Rattle.ultra_para_run.specs.ParaText.{act_count, step_line, after_steps, count_of_acts, next_line, lines_after, steps_text, unless_only_end, para_end, para_text}

act_at_most_once : (o : StepReport) → act_count o ≤ 1
act_at_most_once Nothing = omega arith
act_at_most_once (Acted r v) = omega arith
act_at_most_once (Faulted f) = omega arith

counted_at_most_once : (b : Bool) (o : StepReport) → (if b then act_count o else 0) ≤ 1
counted_at_most_once true o = act_at_most_once o
counted_at_most_once false o = omega arith

module _ (c : Settings) (program : List Instr) where
  -- ---- acts
  pub acts_none : (p : ℕ) (v : Para) → count_of_acts c program p v [] ≡ 0
  unfolding count_of_acts
  acts_none p v = refl

  pub acts_more : (p : ℕ) (qs : List ℕ) (q : ℕ) (v : Para) → count_of_acts c program p v (qs ++ q ∷ []) ≡ count_of_acts c program p v qs + (if q == p then act_count (step_report c program (run_para c program v qs) q) else 0)
  unfolding count_of_acts
  acts_more p [] q v = omega arith
  acts_more p (r ∷ qs) q v = let rest = acts_more p qs q (para_step c program v r) in omega (arith, rest)

  pub acts_few : (p : ℕ) (qs : List ℕ) (v : Para) → count_of_acts c program p v qs ≤ length qs
  unfolding count_of_acts
  acts_few p [] v = omega arith
  acts_few p (q ∷ qs) v =
      let rest = acts_few p qs (para_step c program v q) in
      let one = counted_at_most_once (q == p) (step_report c program v q) in
      omega (arith, rest, one)

  -- ---- lines
  pub lines_append : (before ps qs : List ℕ) → lines_after c program before (ps ++ qs) ≡ lines_after c program before ps ++ lines_after c program (before ++ ps) qs
  lines_append before [] qs = ap (λ bs. lines_after c program bs qs) (sym (append-nil before))
  lines_append before (p ∷ ps) qs =
      let here = next_line c program before p in
      let first = lines_after c program (before ++ p ∷ []) ps in
      let behind : (before ++ p ∷ []) ++ ps ≡ before ++ p ∷ ps = append_assoc before (p ∷ []) ps in
      ap (λ t. here ++ t) (lines_append (before ++ p ∷ []) ps qs)
      ∙ (sym (append_assoc here first (lines_after c program ((before ++ p ∷ []) ++ ps) qs))
      ∙ ap (λ bs. (here ++ first) ++ lines_after c program bs qs) behind)

  pub lines_more : (ps : List ℕ) (p : ℕ) → steps_text c program (ps ++ p ∷ []) ≡ steps_text c program ps ++ next_line c program ps p
  lines_more ps p = lines_append [] ps (p ∷ []) ∙ ap (λ t. steps_text c program ps ++ t) (append-nil (next_line c program ps p))

  -- ---- the paracomputer
  pub state_more : (ps : List ℕ) (p : ℕ) → after_steps c program (ps ++ p ∷ []) ≡ para_step c program (after_steps c program ps) p
  state_more ps p = run-append c program ps (p ∷ []) (start_para c)

  module _ (ps : List ℕ) (p : ℕ) (small : p < 64) (old new : ParaRun) (made : HasMade c program ps old) (o : StepReport) (is : o ≡ step_report old.para.settings old.para.program old.para.state p) where
    pub report_here : o ≡ step_report c program (after_steps c program ps) p
    report_here = is ∙ ap (λ (m : ParaState). step_report m.settings m.program m.state p) made.state

    acts_here : (q : ℕ) → q < size c → length old.acts ≡ 64 → slice_index (slice_set old.acts p (slice_index old.acts p + act_count o)) q ≡ count_of_acts c program q (start_para c) (ps ++ p ∷ [])
    acts_here q few all = elim (cases_eq q p) [
      | inl e ↦
          let within : p < length old.acts = omega (arith, small, all) in
          let one : (p == q) ≡ true = eq-eqb p q (sym e) in
          let count : slice_index old.acts p ≡ count_of_acts c program q (start_para c) ps = ap (slice_index old.acts) (sym e) ∙ made.acts q few in
          let more : count_of_acts c program q (start_para c) (ps ++ p ∷ []) ≡ count_of_acts c program q (start_para c) ps + act_count (step_report c program (after_steps c program ps) p) = acts_more q ps p (start_para c) ∙ ap (λ b. count_of_acts c program q (start_para c) ps + (if b then act_count (step_report c program (after_steps c program ps) p) else 0)) one in
          ap (slice_index (slice_set old.acts p (slice_index old.acts p + act_count o))) e
          ∙ (get_or-set_same old.acts p (slice_index old.acts p + act_count o) 0 within
          ∙ (ap (λ n. n + act_count o) count ∙ (ap (λ r. count_of_acts c program q (start_para c) ps + act_count r) report_here ∙ sym more)))
      | inr e ↦
          let other : (p == q) ≡ false = ne_eqb p q (λ s. e (sym s)) in
          let more : count_of_acts c program q (start_para c) (ps ++ p ∷ []) ≡ count_of_acts c program q (start_para c) ps + 0 = acts_more q ps p (start_para c) ∙ ap (λ b. count_of_acts c program q (start_para c) ps + (if b then act_count (step_report c program (after_steps c program ps) p) else 0)) other in
          get_or-set_other old.acts p q (slice_index old.acts p + act_count o) 0 e ∙ (made.acts q few ∙ (omega (arith, more)))
    ]

    pub made_more : new.para ≡ record old.para { state = para_step old.para.settings old.para.program old.para.state p } → new.acts ≡ slice_set old.acts p (slice_index old.acts p + act_count o) → length old.acts ≡ 64 → HasMade c program (ps ++ p ∷ []) new
    made_more para acts all = record {
      state =
          para ∙ (ap (λ (m : ParaState). record m { state = para_step m.settings m.program m.state p }) made.state
          ∙ ap (λ (v : Para). record { settings = c; program = program; state = v }) (sym (state_more ps p)));
      acts = λ q few. ap (λ xs. slice_index xs q) acts ∙ acts_here q few all;
    }

    pub line_here : p < size c → step_line p (slice_index old.acts p) o ≡ next_line c program ps p
    unfolding next_line
    line_here few = ap (λ n. step_line p n o) (made.acts p few) ∙ ap (step_line p (count_of_acts c program p (start_para c) ps)) report_here

module _ (c : Settings) (program : List Instr) (ps : List ℕ) (r : ParaRun) (made : HasMade c program ps r) where
  -- no number of acts is too large to be counted on
  pub has_room : (p : ℕ) → p < size c → length ps < 2 ^ 64 - 1 → slice_index r.acts p < 2 ^ 64 - 1
  has_room p few short = omega (arith, made.acts p few, acts_few c program p ps (start_para c))

  pub own : HasMade r.para.settings r.para.program ps r
  own = subst (λ (m : ParaState). HasMade m.settings m.program ps r) (sym made.state) made

-- a schedule, cut behind a step
pub cut_behind : (schedule : List ℕ) (k : ℕ) → k < length schedule → (take k schedule ++ get_or schedule k 0 ∷ []) ++ drop (k + 1) schedule ≡ schedule
cut_behind schedule k h = ap (λ ps. ps ++ drop (k + 1) schedule) (sym (take_more schedule k 0 h)) ∙ take-append-drop (k + 1) schedule

-- ---- the lines, unless only the end is asked for
module _ (c : Settings) (program : List Instr) {S : Type 0} {taken : S → List ℕ} {failures : S → ℕ} where
  pub step_written : (only_end : Bool) (ps : List ℕ) (p : ℕ) {s t u : TextBuffer S} → Writes taken failures (unless_only_end only_end (steps_text c program ps)) s t → Writes taken failures (unless_only_end only_end (next_line c program ps p)) t u
      → Writes taken failures (unless_only_end only_end (steps_text c program (ps ++ p ∷ []))) s u
  step_written true ps p v w = v then w
  step_written false ps p v w = rw (lines_more c program ps p) (v then w)

  -- after a fault the lines that are missing don't matter
  pub steps_missing : (only_end : Bool) (ps qs : List ℕ) {s t : TextBuffer S} → t.failed ≡ true → Writes taken failures (unless_only_end only_end (steps_text c program ps)) s t
      → Writes taken failures (unless_only_end only_end (steps_text c program (ps ++ qs))) s t
  steps_missing true ps qs f w = w
  steps_missing false ps qs f w = rw (lines_append c program [] ps qs) (writes_failed (lines_after c program ps qs) f w)

  -- the end, where the state and the number of steps are these, unless the sink has failed
  end_written : (ps : List ℕ) (steps : ℕ) (r : ParaRun) (b : Bool) {t u : TextBuffer S} → t.failed ≡ b → (t.failed ≡ false → HasMade c program ps r) → (t.failed ≡ false → steps ≡ length ps)
      → Writes taken failures (para_end r.para.settings steps r.para.state) t u → Writes taken failures (para_end c (length ps) (after_steps c program ps)) t u
  end_written ps steps r true f made count w = writes_spent (para_end c (length ps) (after_steps c program ps)) f w
  end_written ps steps r false {t} {u} f made count w =
      let same : para_end r.para.settings steps r.para.state ≡ para_end c (length ps) (after_steps c program ps) =
      ap (λ n. para_end r.para.settings n r.para.state) (count f) ∙ ap (λ (m : ParaState). para_end m.settings (length ps) m.state) (made f).state in
      subst (λ text. Writes taken failures text t u) same w

  pub whole_written : (only_end : Bool) (ps : List ℕ) (steps : ℕ) (r : ParaRun) {s t u : TextBuffer S} → Writes taken failures (unless_only_end only_end (steps_text c program ps)) s t
      → (t.failed ≡ false → HasMade c program ps r) → (t.failed ≡ false → steps ≡ length ps) → Writes taken failures (para_end r.para.settings steps r.para.state) t u
      → Writes taken failures (para_text c program only_end ps) s u
  unfolding para_text
  whole_written only_end ps steps r {s} {t} {u} v made count w = v then end_written ps steps r t.failed refl made count w
