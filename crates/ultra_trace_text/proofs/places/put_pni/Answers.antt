use Rattle.std.proofs.Common.{arith, codes, refl}
use Rattle.ultra_model.specs.Text.{request_text}
use Rattle.ultra_io.proofs.Writing.{◌then◌}
use Rattle.ultra_trace_text.proofs.Listed.{line_is}
use Rattle.ultra_trace_text.proofs.places.put_pni.Goals as goal

pub returns-then-pending_count-gt0 : goal.returns-then-pending_count-gt0
returns-then-pending_count-gt0 g c = rw (line_is request_text _ c.args.interface.now.interface.pending (omega arith)) (c.begin_unit-at.ensures.goes_on (codes "pni") refl then c.put_entries.ensures)
