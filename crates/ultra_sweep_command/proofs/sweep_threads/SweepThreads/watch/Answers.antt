use Rattle.std.proofs.Common.{◌∙◌}
use Rattle.ultra_sweep_command.proofs.{Sharing.fresh-read, sweep_threads.SweepThreads.watch.Goals.{in-None, in-Some+then-ended-threads}}
use Rattle.ultra_sweep_command.proofs.sweep_threads.SweepThreads.watch.Goals as goal

pub loop-preserved : goal.loop-preserved
loop-preserved g c =
    let so_far = c.loop.invariant in
    let progress = c.show_progress.ensures in
    record {
      can = tt;
      sweep_threads = record {
        task = so_far.sweep_threads.task;
        fresh = fresh-read c.loop.self.task.board.now 1 c.loop.self.seat c.show_progress.new.seat progress.board progress.read so_far.sweep_threads.fresh;
        parts = so_far.sweep_threads.parts;
      };
      task = so_far.task;
      threads = so_far.threads;
      count = progress.count ∙ so_far.count;
      shown = λ start shown. progress.shown start (so_far.shown start shown);
    }

pub returns-clause-shown : goal.returns-clause-shown
returns-clause-shown g c start shown =
    elim c.match-next.branch [
      | in-None w ↦ rw (w.meter-is, w.err-is) (c.loop.invariant.shown start shown)
      | in-Some+then-ended-threads w ↦ rw (w.meter-is, w.err-is) (w.show_progress.ensures.shown start (c.loop.invariant.shown start shown))
    ]
