-- a paracomputer in the course of its steps
use Rattle.std.specs.Prelude.{◌≡◌, ℕ, ◌<◌, List, slice_index}
use Rattle.ultra_isa.specs.declared.Instr.{Instr}
use Rattle.ultra_model.specs.Machine.{Settings, size}
use Rattle.ultra_para.specs.Para.{start_para}
use Rattle.ultra_para_run.specs.{declared.steps.ParaRun.ParaRun, ParaText.{after_steps, count_of_acts}}

-- it has made these steps, and knows how often each processing element has acted
pub record HasMade (c : Settings) (program : List Instr) (ps : List ℕ) (r : ParaRun) : Type 0 where
  pub state : r.para
      ≡ record { settings = c; program = program; state = after_steps c program ps }
  pub acts : (p : ℕ) → p < size c
      → slice_index r.acts p ≡ count_of_acts c program p (start_para c) ps
