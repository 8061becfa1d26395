use Rattle.std.proofs.Common.{◌≤◌, arith}
use Rattle.ultra_inputs.specs.Shown.{stream}
use Rattle.ultra_sweep_command.proofs.Showing.{shown-unwritten, shown-more}
use Rattle.ultra_sweep_command.proofs.meter.ProgressMeter.show.Goals as goal

pub returns-then-not-self-clause-shown : goal.returns-then-not-self-clause-shown
returns-then-not-self-clause-shown g c start so_far =
    let m = c.args.self.now in
    let k = c.min-finished.result in
    let now = stream (g.E.Sink.taken c.args.err.now) (g.E.Sink.failures c.args.err.now) in
    let then = stream (g.E.Sink.taken c.write_count.new.err) (g.E.Sink.failures c.write_count.new.err) in
    let least = c.min-finished.ensures in
    let within : k ≤ m.count = omega arith in
    rw c.is_err-self.ensures.value (shown-more m k start now so_far c.if-finished-self.false within c.if-not-self.true then c.write_count.result c.write_count.ensures)

pub returns-else-not-self-clause-shown : goal.returns-else-not-self-clause-shown
returns-else-not-self-clause-shown g c start so_far =
    let m = c.args.self.now in
    let k = c.min-finished.result in
    let now = stream (g.E.Sink.taken c.args.err.now) (g.E.Sink.failures c.args.err.now) in
    let least = c.min-finished.ensures in
    let within : k ≤ m.count = omega arith in
    shown-unwritten m k start now so_far c.if-finished-self.false within c.if-not-self.false
