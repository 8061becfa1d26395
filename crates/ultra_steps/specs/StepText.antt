-- what is kept between two cycles of a run
use Rattle.std.specs.Prelude.{◌≡◌, ℕ, List, vec_capacity}
use Rattle.ultra_isa.specs.declared.Instr.{Instr}
use Rattle.ultra_model.specs.{Machine.{Settings, size, element_at}, Phases.after}
use Rattle.ultra_latency.specs.Open.{IsOpenTable}
use Rattle.ultra_steps.specs.{declared.steps.StepText.StepText, Copies.AreCopies}

-- the open requests and a copy of each processing element, after n cycles. However long the run
-- is, it has memory for these, and for no more
pub record IsStepTextAfter (c : Settings) (program : List Instr) (n : ℕ) (t : StepText) : Type 0 where
  pub table : IsOpenTable c program n t.table
  pub copies : AreCopies c (element_at (after c program n)) t.copies.items
  pub capacity : vec_capacity t.copies ≡ size c
