use Rattle.std.proofs.{lemmas.{Grind.common_steps, Bool.Decides.nat_tests}, Common.{arith, codes, refl}}
use Rattle.ultra_model.specs.Text.{message_text}
use Rattle.ultra_io.proofs.Writing.{◌then◌}
use Rattle.ultra_trace_text.proofs.Listed.{line_is}
use Rattle.ultra_trace_text.proofs.places.put_rep.Goals as goal

pub returns-then-not-is_empty : goal.returns-then-not-is_empty
returns-then-not-is_empty g c = rw (line_is message_text _ c.args.queue.now.replies (grind (arith, nat_tests))) (c.begin_place-at.ensures.goes_on (codes "rep") refl then c.put_entries.ensures)

pub returns-else-not-is_empty : goal.returns-else-not-is_empty
returns-else-not-is_empty g c = grind (arith, common_steps)
