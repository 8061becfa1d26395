use Rattle.std.proofs.Common.{◌∙◌, refl}
use Rattle.ultra_inputs.specs.Shown.{stream}
use Rattle.ultra_sweep_command.proofs.Showing.{shown-first}
use Rattle.ultra_sweep_command.proofs.running.fn.run_together.scope.Goals as goal

pub returns : goal.returns
returns g c =
    let start = stream (g.E.Sink.taken c.captures.err.now) (g.E.Sink.failures c.captures.err.now) in
    let meter = c.new-meter in
    let done = c.run_and_watch-seat_results.ensures in
    record {
      seat_results = done.seat_results;
      no_thread = done.no_thread;
      count = done.count ∙ meter.ensures.count;
      same_err = refl;
      shown = done.shown start (shown-first meter.result start meter.ensures.last meter.ensures.sound);
      quiet = done.quiet;
    }
