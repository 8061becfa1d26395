use Rattle.std.specs.List.{flat_map, range_with_len}
use Rattle.ultra_io.specs.TextBuffer.{Writes}
use Rattle.ultra_measure.specs.{Columns.stage_columns, Rows.columns_text}
use Rattle.ultra_measure.proofs.columns.put_stages.Given as goal

abbrev pub invariant-loop-stage : goal.invariant-loop-stage
invariant-loop-stage g l = Writes g.S.Sink.taken g.S.Sink.failures (columns_text l.form (flat_map (stage_columns l.blocks.config l.blocks.program l.window.from l.to) (range_with_len 0 l.stage))) l.initial.buffer l.buffer
