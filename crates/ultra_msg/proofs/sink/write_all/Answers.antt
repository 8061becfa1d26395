use Rattle.std.proofs.Common.{◌∙◌}
use Rattle.ultra_msg.proofs.Parts.{taken_more, taken_so_far, at_error}
use Rattle.ultra_msg.proofs.sink.write_all.Goals as goal

pub loop-start-preserved : goal.loop-start-preserved
loop-start-preserved g c =
    let t = taken_more c.in_ok-start.field-0 c.loop-start.start c.args.bytes.now (g.S.Sink.taken c.args.sink.now) (g.S.Sink.taken c.loop-start.sink) (g.S.Sink.taken c.write.new.self) c.loop-start.invariant.within c.loop-start.invariant.taken c.in_ok-start.ensures.ok in
    record { within = t.within; taken = t.taken; still = c.in_ok-start.ensures.still ∙ c.loop-start.invariant.still }

pub returns-in_err-start-clause-err : goal.returns-in_err-start-clause-err
returns-in_err-start-clause-err g c =
    at_error c.from_residual.result (taken_so_far c.loop-start.start c.args.bytes.now (g.S.Sink.taken c.args.sink.now) (g.S.Sink.taken c.loop-start.sink) (g.S.Sink.taken c.write.new.self) c.loop-start.invariant.taken c.in_err-start.ensures.err)
