use Rattle.std.proofs.Common.{codes, refl}
use Rattle.ultra_io.proofs.Writing.{◌then◌}
use Rattle.ultra_trace_text.proofs.Listed.{inp_line_is}
use Rattle.ultra_trace_text.proofs.places.put_inp.Goals as goal

pub returns-in-Some : goal.returns-in-Some
returns-in-Some g c =
    rw (inp_line_is c.args.module c.args.memory_module.now.inp _ c.in-Some.ensures)
    (c.begin_unit-at.ensures.goes_on (codes "inp") refl then c.write_request-at.ensures.goes_on then c.end_line.ensures)
