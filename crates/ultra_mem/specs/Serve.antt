-- what one memory module does. That the module adds is the 1983 paper's; its two registers are this
-- project's profile
use Rattle.std.specs.Prelude.{◌≡◌, ℕ, List, [], Option, Some, None, replicate, slice_index, slice_set}
use Rattle.ultra_msg.specs.{declared.{ReplyMessage.ReplyMessage, Request.Request}, Act.act}
use Rattle.ultra_mem.specs.declared.{Placed.Placed, Served.Served}

-- its cells by offset, the request that waits for it, and the reply that waits to leave
pub record ModuleState : Type 0 where
  pub cells : List ℕ
  pub inp : Option Placed
  pub out : Option ReplyMessage

-- no module: it has no cell and nothing waits
abbrev pub empty_module : ModuleState
empty_module = record { cells = []; inp = None; out = None }

-- a module of n cells at the start: each holds 0, and nothing waits
abbrev pub fresh_module : ℕ → ModuleState
fresh_module n = record { cells = replicate n 0; inp = None; out = None }

-- no request waits to be served, and no reply waits to leave
pub record IsIdle (b : ModuleState) : Type 0 where
  pub no_request : b.inp ≡ None
  pub no_reply : b.out ≡ None

-- a module that has taken a request for a cell, and one whose reply has left
abbrev pub with_waiting : ModuleState → Request → ℕ → ModuleState
with_waiting b r offset = record b { inp = Some record { request = r; offset = offset } }

abbrev pub without_out : ModuleState → ModuleState
without_out b = record b { out = None }

-- the request that is served now: the one that waits, if no reply is in its way
abbrev pub to_serve : ModuleState → Option Placed
to_serve b = elim b.out [ None ↦ b.inp | Some r ↦ None ]

-- the value of the request's cell
abbrev pub value_at : ModuleState → Placed → ℕ
value_at b p = slice_index b.cells p.offset

-- the module acts: the cell and the reply are those of the operation, and no request waits any more
abbrev pub after_serving : ModuleState → Option Placed → ModuleState
after_serving b None = b
after_serving b (Some p) = record {
  cells = slice_set b.cells p.offset (act p.request.op (value_at b p)).0;
  inp = None;
  out =
      Some record {
        pe = p.request.pe;
        cell = p.request.cell;
        reply = (act p.request.op (value_at b p)).1;
      };
}

-- the module after it has served what it serves now
abbrev pub serve : ModuleState → ModuleState
serve b = after_serving b (to_serve b)

-- what is reported of an act: the request, its reply and the cell's new value
abbrev pub act_of : ModuleState → Option Placed → Option Served
act_of b None = None
act_of b (Some p) =
    Some record {
      request = p.request;
      reply = (act p.request.op (value_at b p)).1;
      now = (act p.request.op (value_at b p)).0;
    }

-- what it does now
abbrev pub served : ModuleState → Option Served
served b = act_of b (to_serve b)
