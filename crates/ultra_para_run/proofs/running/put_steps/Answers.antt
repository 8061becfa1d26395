use Rattle.std.proofs.Common.{[], ◌∷◌, ◌++◌, ◌+◌, ◌-◌, ◌^◌, ◌<◌, length, take, drop, get_or, sym, subst, arith}
use Rattle.std.proofs.lemmas.List.{take_more, length-take-le, Elements.All-get_or}
use Rattle.ultra_io.specs.TextBuffer.{Writes}
use Rattle.ultra_model.specs.Machine.{size}
use Rattle.ultra_para_run.specs.{ParaText.{steps_text, unless_only_end}, Steps.HasMade}
use Rattle.ultra_para_run.proofs.Made.{has_room, cut_behind, step_written, steps_missing}
use Rattle.ultra_para_run.proofs.running.put_steps.Goals as goal

pub put_step-requires-clause-room : goal.put_step-requires-clause-room
put_step-requires-clause-room g c =
    let s = c.args.run.now.para.settings in
    let schedule = c.args.schedule.now in
    let k = c.loop-pe.pe-index in
    let few = All-get_or (λ p. p < size s) schedule k 0 c.loop-pe-test.true c.requires.there in
    let short : length (take k schedule) < 2 ^ 64 - 1 = omega (arith, length-take-le k schedule c.loop-pe.auto.pe-index-end) in
    has_room s c.args.run.now.para.program (take k schedule) c.loop-pe.run c.loop-pe.invariant.made (get_or schedule k 0) few short

pub returns-then-has_failed-clause-writes : goal.returns-then-has_failed-clause-writes
returns-then-has_failed-clause-writes g c =
    let s = c.args.run.now.para.settings in
    let program = c.args.run.now.para.program in
    let schedule = c.args.schedule.now in
    let k = c.loop-pe.pe-index in
    let pe = get_or schedule k 0 in
    let inv = c.loop-pe.invariant in
    let written = step_written s program c.args.only_end (take k schedule) pe inv.writes (c.put_step.ensures.writes s program (take k schedule) inv.made) in
    let whole = steps_missing s program c.args.only_end (take k schedule ++ pe ∷ []) (drop (k + 1) schedule) (sym c.if-has_failed.ensures) written in
    subst (λ ps. Writes g.S.Sink.taken g.S.Sink.failures (unless_only_end c.args.only_end (steps_text s program ps)) c.args.buffer.now c.put_step.new.buffer) (cut_behind schedule k c.loop-pe-test.true) whole

pub loop-pe-preserved : goal.loop-pe-preserved
loop-pe-preserved g c =
    let s = c.args.run.now.para.settings in
    let program = c.args.run.now.para.program in
    let schedule = c.args.schedule.now in
    let k = c.loop-pe.pe-index in
    let pe = get_or schedule k 0 in
    let inv = c.loop-pe.invariant in
    let more = sym (take_more schedule k 0 c.loop-pe-test.true) in
    let written = step_written s program c.args.only_end (take k schedule) pe inv.writes (c.put_step.ensures.writes s program (take k schedule) inv.made) in
    record {
      made = subst (λ ps. HasMade s program ps c.put_step.new.run) more (c.put_step.ensures.made s program (take k schedule) inv.made);
      writes = subst (λ ps. Writes g.S.Sink.taken g.S.Sink.failures (unless_only_end c.args.only_end (steps_text s program ps)) c.args.buffer.now c.put_step.new.buffer) more written;
    }
