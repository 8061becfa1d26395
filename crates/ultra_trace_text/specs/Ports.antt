-- lines of what switches hold
use Rattle.std.specs.Prelude.{ℕ, List}
use Rattle.ultra_model.specs.{Machine.Machine, Trace.{req_lines, wait_lines, rep_lines}}
use Rattle.ultra_block.specs.Held.{Held, TheVariants.{Reply, Request, Record}}

-- the line of what a switch holds of one kind, at a position of a stage
abbrev pub port_line : Held → Machine → ℕ → ℕ → List ℕ
port_line Reply m = rep_lines m
port_line Request m = req_lines m
port_line Record m = wait_lines m
