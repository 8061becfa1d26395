-- the serial list of a run: what was served, by cycle and module, each served request as the leaves
-- of its tree in serial order
use Rattle.std.specs.Prelude.{ℕ, zero, suc, List, [], ◌∷◌, ◌++◌}
use Rattle.ultra_msg.specs.declared.Event.{Event}
use Rattle.ultra_isa.specs.declared.Instr.{Instr}
use Rattle.ultra_model.specs.{Machine.Settings, Phases.after}
use Rattle.ultra_serial_law.specs.{Tree.{NamedRequest, Kept, trees_after, served_leaves}, Log.{Log, empty_log, logged}, Legal.{Entry, given, replayed}}

-- what a run leaves behind: the trees that are kept, the requests that were served, in order, and
-- the log
pub record History : Type 0 where
  pub trees : List Kept
  pub order : List NamedRequest
  pub log : Log

abbrev pub empty_history : History
empty_history = record { trees = []; order = []; log = empty_log }

-- it after an event of a cycle, and after several
abbrev pub after_event : ℕ → History → Event → History
after_event cycle h e = record {
  trees = trees_after h.trees e;
  order = h.order ++ served_leaves h.trees e;
  log = logged cycle h.log e;
}

abbrev pub noted : ℕ → List Event → History → History
noted cycle [] h = h
noted cycle (e ∷ es) h = noted cycle es (after_event cycle h e)

module _ (c : Settings) where
  -- the history of the first n cycles
  unfoldable pub history : List Instr → ℕ → History
  history program zero = empty_history
  history program (suc n) = noted n (after c program (suc n)).events (history program n)

  -- the serial list of the first n cycles: each request with its reply in a replay from the initial
  -- cells
  abbrev pub serial_list : List Instr → ℕ → List Entry
  serial_list program n = replayed (given c.initial) (history program n).order
