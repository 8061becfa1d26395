use Rattle.std.proofs.Common.{arith, codes, refl}
use Rattle.ultra_model.specs.Text.{record_text}
use Rattle.ultra_io.proofs.Writing.{◌then◌}
use Rattle.ultra_trace_text.proofs.Listed.{line_is}
use Rattle.ultra_trace_text.proofs.places.put_wait.Goals as goal

pub returns-then-record_count-gt0 : goal.returns-then-record_count-gt0
returns-then-record_count-gt0 g c = rw (line_is record_text _ c.args.queue.now.lane.records (omega arith)) (c.begin_place-at.ensures.goes_on (codes "wait") refl then c.put_entries.ensures)
