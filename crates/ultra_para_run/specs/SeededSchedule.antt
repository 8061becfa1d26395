-- a schedule that is drawn from a number; this project's profile
use Rattle.std.specs.Prelude.{ℕ, zero, suc, ◌+◌, ◌-◌, ◌*◌, ◌/◌, ◌%◌, ◌^◌, List, [], ◌∷◌, Bool, true, false, Option, Some, None}
use Rattle.ultra_isa.specs.declared.Instr.{Instr}
use Rattle.ultra_model.specs.Machine.{Settings, size}
use Rattle.ultra_para.specs.{Para.{Para, start_para, para_step}, Report.have_all_stopped}

-- the next number of 64 bits
unfoldable pub next_number : ℕ → ℕ
next_number x = (6364136223846793005 * x + 1442695040888963407) % 2 ^ 64

-- the processing element that it draws: its highest bits, one for each stage
unfoldable pub drawn_pe : Settings → ℕ → ℕ
drawn_pe c x = x / 2 ^ (64 - c.stages)

-- the steps that are left, unless all processing elements have stopped
abbrev pub unless_stopped : Bool → List ℕ → List ℕ
unless_stopped true ps = []
unless_stopped false ps = ps

module _ (c : Settings) (program : List Instr) where
  -- the steps from a state and a number on, at most n, until all processing elements have stopped
  unfoldable pub drawn_from : ℕ → Para → ℕ → List ℕ
  drawn_from zero v x = []
  drawn_from (suc n) v x =
      let y = next_number x in
      unless_stopped (have_all_stopped v)
      (drawn_pe c y ∷ drawn_from n (para_step c program v (drawn_pe c y)) y)

  abbrev pub seeded_schedule : ℕ → ℕ → List ℕ
  seeded_schedule seed n = drawn_from n (start_para c) seed

-- how many steps are made at most
abbrev pub most_steps : Settings → Option ℕ → ℕ
most_steps c None = c.cycles * size c
most_steps c (Some n) = n
