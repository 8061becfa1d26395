use Rattle.std.specs.Prelude.{slice_index_or}
use Rattle.ultra_io.specs.TextBuffer.{Writes}
use Rattle.ultra_isa.specs.Step.{fresh_core}
use Rattle.ultra_model.specs.Trace.{by_number, pe_line}
use Rattle.ultra_para.specs.ParaState.{cores_of}
use Rattle.ultra_para_run.proofs.ending.put_processors.Given as goal

abbrev pub invariant-loop-pe : goal.invariant-loop-pe
invariant-loop-pe g l = Writes g.S.Sink.taken g.S.Sink.failures (by_number l.pe (λ p. pe_line p (slice_index_or (cores_of l.processors) p fresh_core))) l.initial.buffer l.buffer
