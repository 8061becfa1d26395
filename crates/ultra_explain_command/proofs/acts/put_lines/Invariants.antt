use Rattle.std.proofs.Common.{◌≡◌, ◌++◌, take, drop}
use Rattle.ultra_serial_law.specs.Explicable.{AreAbsorbable}
use Rattle.ultra_explain_command.specs.Explanation.{event_lines, trees_after_all}
use Rattle.ultra_explain_command.proofs.acts.put_lines.Given as goal

abbrev pub invariant-loop-event : goal.invariant-loop-event
invariant-loop-event g l = let old = l.initial.explainer in
    let first = take l.event-index l.events in
    record {
      same : l.explainer ≡ record old { trees = trees_after_all old.trees first };
      absorbable : AreAbsorbable l.explainer.elements l.explainer.most_open l.explainer.trees (drop l.event-index l.events);
      put : l.lines.bytes.items ≡ l.initial.lines.bytes.items ++ event_lines l.cycle old.trees first;
    }
