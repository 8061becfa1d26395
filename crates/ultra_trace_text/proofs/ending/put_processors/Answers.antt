use Rattle.std.proofs.{lemmas.Grind.common_steps, Common.{arith, ap}}
use Rattle.ultra_model.specs.{Machine.Element, Trace.pe_lines}
use Rattle.ultra_trace_text.proofs.Numbered.{writes_number}
use Rattle.ultra_trace_text.proofs.ending.put_processors.Goals as goal

pub loop-pe-preserved : goal.loop-pe-preserved
loop-pe-preserved g c =
    let written = rw (ap (λ (e : Element). e.core) c.element.ensures.state) at c.put_pe.ensures in
    writes_number (pe_lines c.args.blocks.now.machine) c.loop-pe.pe c.loop-pe.invariant written

pub loop-pe-init : goal.loop-pe-init
loop-pe-init g c = grind (arith, common_steps)

pub returns : goal.returns
returns g c = grind (arith, common_steps)
