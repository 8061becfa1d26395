use Rattle.std.proofs.{lemmas.{Grind.common_steps, Bool.Decides.nat_tests}, Common.{arith, codes, refl}}
use Rattle.ultra_model.specs.Text.{entry_text}
use Rattle.ultra_io.proofs.Writing.{◌then◌}
use Rattle.ultra_trace_text.proofs.Listed.{line_is}
use Rattle.ultra_trace_text.proofs.places.put_req.Goals as goal

pub returns-then-not-is_empty : goal.returns-then-not-is_empty
returns-then-not-is_empty g c = rw (line_is entry_text _ c.args.queue.now.lane.queue (grind (arith, nat_tests))) (c.begin_place-at.ensures.goes_on (codes "req") refl then c.put_entries.ensures)

pub returns-else-not-is_empty : goal.returns-else-not-is_empty
returns-else-not-is_empty g c = grind (arith, common_steps)
