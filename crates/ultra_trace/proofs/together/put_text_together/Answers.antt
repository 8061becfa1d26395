use Rattle.std.proofs.Common.{◌++◌, append_assoc, rules, subst, sym}
use Rattle.ultra_msg.specs.Bytes.{IsPrefix}
use Rattle.ultra_io.specs.TextBuffer.{WritesPrefix}
use Rattle.ultra_model.specs.Trace.{by_number}
use Rattle.ultra_io.proofs.Writing.{◌then◌, begins_within, writes_failed}
use Rattle.ultra_trace_alone.specs.RunText.{cycles_for, run_text}
use Rattle.ultra_trace_alone.proofs.Count.{closing_written}
use Rattle.ultra_trace.proofs.together.put_text_together.Goals as goal

pub returns-then-has_failed-clause-ok : goal.returns-then-has_failed-clause-ok
unfolding run_text
returns-then-has_failed-clause-ok g c =
    let first = c.args.blocks in
    let failed = sym c.if-has_failed.ensures in
    let pieces = g.T.RunText.pieces c.args.text in
    let lines = by_number (cycles_for first.config first.program pieces.last) (pieces.lines first.config first.program) in
    writes_failed (pieces.closing first.config first.program) failed (writes_failed lines failed c.put_opening.ensures)

pub returns-in_err-blocks-clause-err : goal.returns-in_err-blocks-clause-err
unfolding run_text
returns-in_err-blocks-clause-err g c =
    let first = c.args.blocks in
    let (part, begins, writes) = c.in_err-blocks.ensures.err in
    let pieces = g.T.RunText.pieces c.args.text in
    let opening = pieces.opening in
    let lines = by_number (cycles_for first.config first.program pieces.last) (pieces.lines first.config first.program) in
    let closing = pieces.closing first.config first.program in
    let within = subst (λ text. IsPrefix (opening ++ part) text) (sym (append_assoc opening lines closing)) (begins_within opening part lines closing begins) in
    let begun : WritesPrefix g.S.Sink.taken g.S.Sink.failures (run_text pieces first.config first.program) c.args.buffer.now c.put_cycles_together.new.buffer = (opening ++ part, within, c.put_opening.ensures then writes) in
    search rules

pub returns-then-has_failed-2-clause-ok : goal.returns-then-has_failed-2-clause-ok
unfolding run_text
returns-then-has_failed-2-clause-ok g c =
    let first = c.args.blocks in
    let written = c.put_opening.ensures then c.in_ok-blocks.ensures.writes in
    writes_failed ((g.T.RunText.pieces c.args.text).closing first.config first.program) (sym c.if-has_failed-2.ensures) written

pub returns-clause-ok : goal.returns-clause-ok
unfolding run_text
returns-clause-ok g c =
    let first = c.args.blocks in
    let pieces = g.T.RunText.pieces c.args.text in
    let end = c.in_ok-blocks.ensures.end (sym c.if-has_failed-2.ensures) in
    let closed = closing_written first.config first.program (cycles_for first.config first.program pieces.last) pieces c.in_ok-blocks.blocks end (g.T.RunText.pieces c.put_cycles_together.new.text) c.in_ok-blocks.ensures.same c.put_closing.ensures in
    c.put_opening.ensures then c.in_ok-blocks.ensures.writes then closed
