use Rattle.std.proofs.Common.{◌<◌, ◌^◌, ap, ◌∙◌, arith}
use Rattle.ultra_model.specs.{Machine.{Settings, size}}
use Rattle.ultra_steps.specs.{StepLines.step_line_at}
use Rattle.ultra_steps.proofs.Loops.{few_here, goes_on, here, one_shown, step_here, step_line_here}
use Rattle.ultra_steps.proofs.cycle.put_steps.Goals as goal

pub put_step_of-requires-clause-few : goal.put_step_of-requires-clause-few
put_step_of-requires-clause-few g c =
    let b = c.args.blocks.now in
    let count = c.size-pe-end.ensures.value ∙ ap (λ d. 2 ^ d) (c.net.ensures ∙ ap (λ (s : Settings). s.stages) c.config.ensures) in
    let h : c.loop-pe.pe < size c.args.blocks.now.config = omega (arith, count, c.loop-pe-test.true) in
    few_here b.config b.program c.args.cycle c.loop-pe.pe h _ (here b.config _ _ c.loop-pe.pe h c.loop-pe.copies c.loop-pe.invariant.copies c.index-copies-pe.result) (omega arith)

pub loop-pe-preserved : goal.loop-pe-preserved
loop-pe-preserved g c =
    let b = c.args.blocks.now in
    let n = c.args.cycle in
    let p = c.loop-pe.pe in
    let are = c.loop-pe.invariant in
    let count = c.size-pe-end.ensures.value ∙ ap (λ d. 2 ^ d) (c.net.ensures ∙ ap (λ (s : Settings). s.stages) c.config.ensures) in
    let h : c.loop-pe.pe < size c.args.blocks.now.config = omega (arith, count, c.loop-pe-test.true) in
    let copy = here b.config _ _ p h c.loop-pe.copies are.copies c.index-copies-pe.result in
    record {
      copies = goes_on b.config _ _ p h c.loop-pe.copies are.copies c.put_step_of.new.copy (step_here b.config b.program n p h _ copy c.put_step_of.new.copy (rw c.program.ensures at c.put_step_of.ensures.copy));
      written = one_shown _ _ c.args.is_shown (step_line_at b.config b.program n) p are.written (rw (step_line_here b.config b.program n p h _ copy) at (rw c.program.ensures at c.put_step_of.ensures.writes));
    }
