-- what is written of a paracomputer's run; this project's profile
use Rattle.std.specs.Prelude.{ℕ, ◌+◌, ◌*◌, ◌==◌, List, [], ◌∷◌, ◌++◌, length, Bool, true, false, codes, decimal, slice_index, if◌then◌else◌}
use Rattle.ultra_isa.specs.declared.Instr.{Instr}
use Rattle.ultra_model.specs.{Machine.{Settings, size}, Text.newline, Trace.{by_number, cell_line, fault_line, pe_line}}
use Rattle.ultra_list.specs.SerialText.{order_line}
use Rattle.ultra_para.specs.{declared.at_once.StepReport.{StepReport, TheVariants.{Nothing, Acted, Faulted}}, Para.{Para, core_at, start_para, para_step, run_para}, Report.{step_report, have_all_stopped}}

-- ---- steps
-- how many acts on memory a step is
abbrev pub act_count : StepReport → ℕ
act_count Nothing = 0
act_count (Acted r v) = 1
act_count (Faulted f) = 0

-- the line of a step of processing element p, which has acted n times before
abbrev pub step_line : ℕ → ℕ → StepReport → List ℕ
step_line p n Nothing = []
step_line p n (Acted r v) =
    order_line (record { pe = p; number = n; cell = r.cell; op = r.op; reply = v })
step_line p n (Faulted f) = fault_line (record { pe = p; fault = f })

module _ (c : Settings) (program : List Instr) where
  -- the paracomputer after these steps
  abbrev pub after_steps : List ℕ → Para
  after_steps ps = run_para c program (start_para c) ps

  -- how many of the steps that are made from a state are acts of processing element p
  unfoldable pub count_of_acts : ℕ → Para → List ℕ → ℕ
  count_of_acts p v [] = 0
  count_of_acts p v (q ∷ qs) =
      (if q == p then act_count (step_report c program v q) else 0)
      + count_of_acts p (para_step c program v q) qs

  -- the line of a step of processing element p, after other steps
  unfoldable pub next_line : List ℕ → ℕ → List ℕ
  next_line before p =
      step_line p (count_of_acts p (start_para c) before)
      (step_report c program (after_steps before) p)

  -- the lines of steps, after other steps
  abbrev pub lines_after : List ℕ → List ℕ → List ℕ
  lines_after before [] = []
  lines_after before (p ∷ ps) = next_line before p ++ lines_after (before ++ p ∷ []) ps

  abbrev pub steps_text : List ℕ → List ℕ
  steps_text ps = lines_after [] ps

-- ---- the end
abbrev pub stopped_text : Bool → List ℕ
stopped_text true = codes "stopped"
stopped_text false = codes "running"

-- after this number of steps, in this state
unfoldable pub para_end : Settings → ℕ → Para → List ℕ
para_end c steps v =
    codes "end steps " ++ decimal steps ++ codes " " ++ stopped_text (have_all_stopped v) ++ newline
    ++ by_number (size c * c.cells) (λ a. cell_line a (slice_index v.cells a))
    ++ by_number (size c) (λ p. pe_line p (core_at v p))

-- ---- the whole, or the end alone
abbrev pub unless_only_end : Bool → List ℕ → List ℕ
unless_only_end true text = []
unless_only_end false text = text

unfoldable pub para_text : Settings → List Instr → Bool → List ℕ → List ℕ
para_text c program only_end schedule =
    unless_only_end only_end (steps_text c program schedule)
    ++ para_end c (length schedule) (after_steps c program schedule)
