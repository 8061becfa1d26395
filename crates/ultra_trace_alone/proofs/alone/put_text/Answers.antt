use Rattle.std.proofs.Common.{sym}
use Rattle.ultra_trace_alone.specs.RunText.{cycles_for, run_text}
use Rattle.ultra_io.proofs.Writing.{◌then◌, writes_failed}
use Rattle.ultra_trace_alone.proofs.Count.{closing_written}
use Rattle.ultra_trace_alone.proofs.alone.put_text.Goals as goal

pub returns-then-has_failed : goal.returns-then-has_failed
unfolding run_text
returns-then-has_failed g c =
    let first = c.args.blocks.now in
    let written = c.put_opening.ensures then c.put_cycles.ensures.writes in
    writes_failed ((g.T.RunText.pieces c.args.text.now).closing first.config first.program) (sym c.if-has_failed.ensures) written

pub returns : goal.returns
unfolding run_text
returns g c =
    let first = c.args.blocks.now in
    let pieces = g.T.RunText.pieces c.args.text.now in
    let end = c.put_cycles.ensures.end (sym c.if-has_failed.ensures) in
    let closed = closing_written first.config first.program (cycles_for first.config first.program pieces.last) pieces c.put_cycles.new.blocks end (g.T.RunText.pieces c.put_cycles.new.text) c.put_cycles.ensures.same c.put_closing.ensures in
    c.put_opening.ensures then c.put_cycles.ensures.writes then closed
