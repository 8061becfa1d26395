use Rattle.std.proofs.Common.{◌≡◌, ◌≤◌, drop}
use Rattle.ultra_model.specs.{Machine.element_at, Phases.after}
use Rattle.ultra_steps.specs.{RegisterSettings.before_steps, StepLines.reply_line_at}
use Rattle.ultra_steps.proofs.Loops.{AreBetween, AreShown, events_from}
use Rattle.ultra_steps.proofs.cycle.put_replies.Given as goal

abbrev pub invariant-loop-pe : goal.invariant-loop-pe
invariant-loop-pe g l =
    let c = l.blocks.config in
    let program = l.blocks.program in
    record {
      few : l.next ≤ l.pe;
      events : drop l.next l.events ≡ events_from c program l.cycle l.pe;
      copies : AreBetween c (element_at (after c program l.cycle)) (element_at (before_steps c program l.cycle)) l.pe l.copies;
      written : AreShown g.S.Sink.taken g.S.Sink.failures l.is_shown (reply_line_at c program l.cycle) l.pe l.initial.buffer l.buffer;
    }
