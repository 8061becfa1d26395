-- a paracomputer with its settings and its program
use Rattle.std.specs.Prelude.{◌≡◌, ℕ, ◌*◌, ◌<◌, List, map, length, slice_index_or}
use Rattle.ultra_isa.specs.{declared.Instr.Instr, Step.{ProcessorState, Core, fresh_core}}
use Rattle.ultra_model.specs.{Places.places, Machine.{Settings, size, site}}
use Rattle.ultra_para.specs.Para.{Para}

pub record ParaState : Type 0 where
  pub settings : Settings
  pub program : List Instr
  pub state : Para

abbrev pub cores_of : List ProcessorState → List Core
cores_of ps = map (λ (p : ProcessorState). p.core) ps

abbrev pub programmed : Settings → List Instr → List ℕ → List ProcessorState → ParaState
programmed c program cells ps =
    record {
      settings = c;
      program = program;
      state = record { cells = cells; cores = cores_of ps };
    }

-- each processor before its first step
abbrev pub fresh_processors : Settings → List ProcessorState
fresh_processors c = places (size c) (λ p. record { site = site c p; core = fresh_core })

-- there are all cells, and each processor knows which one it is
pub record HasAllParts (c : Settings) (cells : List ℕ) (ps : List ProcessorState) : Type 0 where
  pub held : length cells ≡ size c * c.cells
  pub elements : length ps ≡ size c
  pub sites : (p : ℕ) (d : ProcessorState) → p < size c → (slice_index_or ps p d).site ≡ site c p
