-- the paracomputer: every request acts on its cell at once. The paracomputer is the 1983 paper's;
-- its instructions are this project's profile
use Rattle.std.specs.Prelude.{ℕ, ◌*◌, List, [], ◌∷◌, Option, Some, None, slice_index, slice_index_or, slice_set}
use Rattle.ultra_msg.specs.{declared.Request.Request, Act.act}
use Rattle.ultra_pni.specs.Interface.{empty_interface, target_of}
use Rattle.ultra_isa.specs.{declared.Instr.Instr, Instruction.Site, Step.{Core, fresh_core, StepResult, step_of, received}}
use Rattle.ultra_model.specs.{Places.places, Machine.{Settings, size, site, given_value}}

-- the cells by address, and the registers, program counter and state of each processing element
pub record Para : Type 0 where
  pub cells : List ℕ
  pub cores : List Core

abbrev pub core_at : Para → ℕ → Core
core_at m p = slice_index_or m.cores p fresh_core

-- a step of the machine's processing element while no cell is open. No register is awaited, no
-- issue is refused, and a fence has nothing to wait for, so it never stalls
abbrev pub alone_at : Site → List Instr → Core → StepResult
alone_at s program core = step_of s 1 program core empty_interface

-- the request that it sent, if it sent one, acts at once: the cells afterwards, and the processor
-- with its reply
abbrev pub cells_acted : List ℕ → Option Request → List ℕ
cells_acted cells None = cells
cells_acted cells (Some r) = slice_set cells r.cell (act r.op (slice_index cells r.cell)).0

abbrev pub core_answered : List ℕ → StepResult → Option Request → Core
core_answered cells t None = t.core
core_answered cells t (Some r) =
    record t.core {
      registers = received t.core.registers (target_of r.cell t.interface.opened)
          (act r.op (slice_index cells r.cell)).1;
    }

module _ (c : Settings) where
  -- at first the cells hold the initial values and else 0, as the machine's do, and the processing
  -- elements are fresh
  abbrev pub start_para : Para
  start_para =
      record {
        cells = places (size c * c.cells) (λ a. given_value c.initial a 0);
        cores = places (size c) (λ p. fresh_core);
      }

  module _ (program : List Instr) where
    abbrev pub alone : ℕ → Core → StepResult
    alone p core = alone_at (site c p) program core

    abbrev pub after_alone : Para → ℕ → StepResult → Para
    after_alone m p t =
        record {
          cells = cells_acted m.cells t.sent;
          cores = slice_set m.cores p (core_answered m.cells t t.sent);
        }

    -- a step of processing element p
    abbrev pub para_step : Para → ℕ → Para
    para_step m p = after_alone m p (alone p (core_at m p))

    -- the steps of a schedule
    abbrev pub run_para : Para → List ℕ → Para
    run_para m [] = m
    run_para m (p ∷ ps) = run_para (para_step m p) ps
