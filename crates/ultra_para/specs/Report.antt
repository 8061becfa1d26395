-- what a step of a processing element did that the others can see, or how it stopped
use Rattle.std.specs.Prelude.{ℕ, List, Bool, Option, Some, None, slice_index}
use Rattle.std.specs.List.{list_all}
use Rattle.ultra_msg.specs.{declared.Request.Request, Act.act}
use Rattle.ultra_isa.specs.{declared.{Instr.Instr, Step.Step}, Step.{Core, StepResult, has_stopped}}
use Rattle.ultra_isa.specs.declared.Step.TheVariants as step
use Rattle.ultra_model.specs.Machine.{Settings}
use Rattle.ultra_para.specs.{declared.at_once.StepReport.{StepReport, TheVariants.{Nothing, Acted, Faulted}}, Para.{Para, core_at, alone}}

-- of a step that sent no request
abbrev pub fault_in : Step → StepReport
fault_in (step.Fault f) = Faulted f
fault_in s = Nothing

-- of any step: a request that it sent acts on these cells, and gets the reply
abbrev pub report_with : List ℕ → StepResult → Option Request → StepReport
report_with cells t None = fault_in t.was
report_with cells t (Some r) = Acted r (act r.op (slice_index cells r.cell)).1

-- of a step of processing element p
unfoldable pub step_report : Settings → List Instr → Para → ℕ → StepReport
step_report c program v p =
    let t = alone c program p (core_at v p) in report_with v.cells t t.sent

-- whether all processing elements have halted or faulted
abbrev pub have_all_stopped : Para → Bool
have_all_stopped v = list_all (λ (e : Core). has_stopped e.activity) v.cores
