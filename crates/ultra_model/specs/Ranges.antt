-- the ranges of the settings of a machine: this project's profile
use Rattle.std.specs.Prelude.{ℕ, ◌*◌, ◌<◌, ◌≤◌, All}
use Rattle.ultra_route.specs.declared.TheConstants.{MOST_STAGES}
use Rattle.ultra_switch.specs.declared.TheConstants.{MOST_REQUEST_PLACES, MOST_WAIT_PLACES}
use Rattle.ultra_mem.specs.declared.TheConstants.{MOST_CELLS}
use Rattle.ultra_pni.specs.declared.TheConstants.{MOST_OPEN}
use Rattle.ultra_model.specs.{declared.config.TheConstants.MOST_REPLY_PLACES, Machine.{Settings, size}}

-- there are 1 to 6 stages. A queue toward memory has 2 to 32 places, one toward the processing
-- elements 4 to 64, a wait buffer 0 to 16. The maximum number of open cells is 1 to 8, and a module
-- has 1 to 4096 cells. The initial cells are cells of the memory
pub record AreInRange (c : Settings) : Type 0 where
  pub some_stages : 1 ≤ c.stages
  pub most_stages : c.stages ≤ MOST_STAGES
  pub some_request_places : 2 ≤ c.request_places
  pub most_request_places : c.request_places ≤ MOST_REQUEST_PLACES
  pub some_reply_places : 4 ≤ c.reply_places
  pub most_reply_places : c.reply_places ≤ MOST_REPLY_PLACES
  pub most_wait_places : c.wait_places ≤ MOST_WAIT_PLACES
  pub some_open : 1 ≤ c.most_open
  pub few_open : c.most_open ≤ MOST_OPEN
  pub some_cells : 1 ≤ c.cells
  pub most_cells : c.cells ≤ MOST_CELLS
  pub addresses : All (λ (i : ℕ × ℕ). i.0 < size c * c.cells) c.initial
