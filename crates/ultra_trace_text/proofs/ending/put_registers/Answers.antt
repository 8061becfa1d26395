use Rattle.std.proofs.Common.{◌≡◌, arith}
use Rattle.std.specs.Prelude.{slice_index}
use Rattle.ultra_model.specs.Trace.{registers_text, register_text}
use Rattle.ultra_io.proofs.Writing.{◌then◌}
use Rattle.ultra_trace_text.proofs.{Numbered.by_number_more, ending.put_registers.Goals.{in-Some, in_default}}
use Rattle.ultra_trace_text.proofs.ending.put_registers.Goals as goal

pub loop-index-preserved : goal.loop-index-preserved
loop-index-preserved g c =
    rw (by_number_more c.loop-index.index (λ i. register_text i (slice_index c.args.processor.now.core.registers i)))
    (elim c.match-new.branch [
      | in-Some w ↦
          let written = rw (w.register.ensures, w.in-Some.ensures.some.0) at w.put_register.ensures in
          rw w.buffer-is (c.loop-index.invariant then written)
      | in_default w ↦ absurd (omega (arith, w.in_default.ensures.none))
    ])

pub returns : goal.returns
unfolding registers_text
returns g c = let all : c.loop-index.index ≡ 16 = omega arith in rw all at c.loop-index.invariant
