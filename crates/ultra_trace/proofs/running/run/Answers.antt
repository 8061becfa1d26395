use Rattle.ultra_trace_alone.proofs.{Headlines.headline_on_ok, Parts.whole_part}
use Rattle.ultra_trace.proofs.running.run.Goals as goal

pub returns-clause-headline : goal.returns-clause-headline
returns-clause-headline g c =
    let valid = c.initial-valid.ensures.valid in
    let written = rw (c.whole-whole.ensures, whole_part c.args.config.now c.args.program.now valid.most_cycles) at c.run_part.ensures.ok in
    headline_on_ok c.args.config.now c.args.program.now c.run_part.result (g.S.Sink.taken c.args.sink.now) (g.S.Sink.taken c.run_part.new.sink) valid.range written

pub returns-clause-ok : goal.returns-clause-ok
returns-clause-ok g c =
    rw (c.whole-whole.ensures, whole_part c.args.config.now c.args.program.now c.initial-valid.ensures.valid.most_cycles) at c.run_part.ensures.ok

pub returns-clause-err : goal.returns-clause-err
returns-clause-err g c =
    rw (c.whole-whole.ensures, whole_part c.args.config.now c.args.program.now c.initial-valid.ensures.valid.most_cycles) at c.run_part.ensures.err
