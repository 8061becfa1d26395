use Rattle.std.proofs.Common.{◌/◌, arith}
use Rattle.ultra_trace_text.proofs.Numbered.{value_or_zero}
use Rattle.ultra_trace_text.proofs.ending.value_of_cell.Goals as goal

pub returns : goal.returns
returns c =
    let is = value_or_zero c.memory_module-memory_module.result.now.cells (c.args.address / c.positions-modules.result) in
    grind arith
