use Rattle.ultra_io.proofs.Writing.{◌then◌}
use Rattle.ultra_model.specs.{Machine.size, Trace.by_number}
use Rattle.ultra_steps.specs.StepLines.{steps_of_cycle, reply_line_at, step_line_at}
use Rattle.ultra_steps.proofs.Loops.{shown_both}
use Rattle.ultra_steps.proofs.steps.StepTextRunText.put_lines.Goals as goal

pub returns-clause-writes : goal.returns-clause-writes
unfolding steps_of_cycle
returns-clause-writes g c =
    let b = c.args.blocks.now in
    let replies = by_number (size b.config) (reply_line_at b.config b.program c.args.cycle) in
    let steps = by_number (size b.config) (step_line_at b.config b.program c.args.cycle) in
    rw (← c.shows-is_shown.ensures, ← shown_both c.shows-is_shown.result replies steps) (c.put_replies.ensures.writes then c.put_steps.ensures.writes)
