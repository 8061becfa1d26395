use Rattle.std.proofs.Common.{rules}
use Rattle.ultra_trace_alone.specs.RunText.{run_text}
use Rattle.ultra_trace.proofs.Ended.{ended}
use Rattle.ultra_trace.proofs.together.write_by_pool.Goals as goal

pub returns-clause-ok : goal.returns-clause-ok
returns-clause-ok g c =
    let text = run_text (g.T.RunText.pieces c.args.text) c.args.blocks.config c.args.blocks.program in
    let made = c.put_text_together-made.ensures in
    let finished = c.finish_text.ensures in
    let e = ended g.S.Sink.taken g.S.Sink.failures text _ _ _ c.new-buffer.ensures.blank c.put_text_together-made.result c.finish_text.result made.ok made.err made.sound finished.refused finished.left finished.writes finished.ok finished.err in
    let ok = e.ok in
    search rules

pub returns-clause-err : goal.returns-clause-err
returns-clause-err g c =
    let text = run_text (g.T.RunText.pieces c.args.text) c.args.blocks.config c.args.blocks.program in
    let made = c.put_text_together-made.ensures in
    let finished = c.finish_text.ensures in
    let e = ended g.S.Sink.taken g.S.Sink.failures text _ _ _ c.new-buffer.ensures.blank c.put_text_together-made.result c.finish_text.result made.ok made.err made.sound finished.refused finished.left finished.writes finished.ok finished.err in
    let err = e.err in
    search rules
