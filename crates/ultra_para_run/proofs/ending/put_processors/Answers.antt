use Rattle.std.proofs.{Common.{◌≡◌, sym, ◌∙◌, ap, subst}, lemmas.List.get_or-map}
use Rattle.std.specs.Prelude.{slice_index_or}
use Rattle.ultra_io.specs.TextBuffer.{Writes}
use Rattle.ultra_isa.specs.Step.{ProcessorState, fresh_core}
use Rattle.ultra_model.specs.Trace.{pe_line}
use Rattle.ultra_para.specs.ParaState.{cores_of}
use Rattle.ultra_trace_text.proofs.Numbered.{writes_number}
use Rattle.ultra_para_run.proofs.ending.put_processors.Goals as goal

pub loop-pe-preserved : goal.loop-pe-preserved
loop-pe-preserved g c =
    let processors = c.args.processors.now in
    let pe = c.loop-pe.pe in
    let core : slice_index_or (cores_of processors) pe fresh_core ≡ c.index-processors-pe.result.core =
    get_or-map (λ (l : ProcessorState). l.core) processors pe c.index-processors-pe.result fresh_core c.loop-pe-test.true ∙ ap (λ (l : ProcessorState). l.core) (sym c.index-processors-pe.is) in
    writes_number (λ p. pe_line p (slice_index_or (cores_of processors) p fresh_core)) pe c.loop-pe.invariant
    (subst (λ e. Writes g.S.Sink.taken g.S.Sink.failures (pe_line pe e) c.loop-pe.buffer c.put_pe.new.buffer) (sym core) c.put_pe.ensures)
