use Rattle.std.proofs.Common.{arith, ◌+◌}
use Rattle.ultra_trace_alone.proofs.Count.{done_after}
use Rattle.ultra_trace_alone.proofs.part.TracePartRunText.put_lines.Goals as goal

pub put_chosen-requires : goal.put_chosen-requires
put_chosen-requires g c =
    let b = c.args.blocks.now in
    rw (done_after b.config b.program (c.args.cycle + 1) b c.requires.made) (omega arith)
