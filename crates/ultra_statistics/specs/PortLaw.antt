-- the table of ports against the measures of the stages
use Rattle.std.specs.Prelude.{◌≡◌, ℕ, List}
use Rattle.ultra_isa.specs.declared.Instr.{Instr}
use Rattle.ultra_model.specs.{Machine.{Settings, size}, Balance.total}
use Rattle.ultra_block.specs.Held.{Held, TheVariants.Record}
use Rattle.ultra_measure.specs.{Held.{held_at, full_waits}, Window.{greatest, sum_of, most_of, event_count}, EventKinds.is_combination_in}
use Rattle.ultra_statistics.specs.Ports.{held_sum, held_most, full_count, combination_count}

-- over the positions of stage s the sums of what they held add up to the measure of the stage, and
-- the greatest of what each held at most is the measure. The full wait buffers add up to theirs, and
-- so do the combinations
pub record IsPortLaw (c : Settings) (program : List Instr) (from to s : ℕ) : Type 0 where
  pub sums : (held : Held) → total (size c) (held_sum c program from to held s)
      ≡ sum_of c program from to (λ m. total (size c) (held_at held s m))
  pub most : (held : Held) → greatest (size c) (held_most c program from to held s)
      ≡ most_of c program from to (λ m. greatest (size c) (held_at held s m))
  pub full_waits : total (size c) (full_count c program from to Record s)
      ≡ sum_of c program from to (λ m. total (size c) (full_waits c s m))
  pub combined : total (size c) (combination_count c program from to s)
      ≡ event_count c program from to (is_combination_in s)

abbrev pub PortLaw : Type 0
PortLaw =
    (c : Settings) (program : List Instr) (from to s : ℕ) → IsPortLaw c program from to s
