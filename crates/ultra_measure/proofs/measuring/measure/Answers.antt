use Rattle.ultra_measure.proofs.Windows.{fresh_are}
use Rattle.ultra_measure.proofs.measuring.measure.Goals as goal

pub write_measures-requires-clause-start : goal.write_measures-requires-clause-start
write_measures-requires-clause-start g c =
    fresh_are c.args.config.now c.args.program.now c.in_ok-blocks.blocks _ c.in_ok-blocks.ensures c.in_ok-table.table c.in_ok-table.ensures
