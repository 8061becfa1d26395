use Rattle.std.proofs.Common.{◌≡◌, [], ◌∷◌, ◌++◌, ◌+◌, ◌-◌, ◌^◌, ◌<◌, true, false, length, sym, ◌∙◌, ap, subst, arith}
use Rattle.std.proofs.lemmas.List.{length_push}
use Rattle.ultra_io.specs.TextBuffer.{Writes}
use Rattle.ultra_model.specs.Machine.{size}
use Rattle.ultra_para.specs.{Report.have_all_stopped, ParaState.ParaState}
use Rattle.ultra_para_run.specs.{ParaText.{after_steps, steps_text, unless_only_end}, SeededSchedule.drawn_from, Steps.HasMade}
use Rattle.ultra_para_run.proofs.{Draw.few_elements, Drawn.{AreDrawn, drawn_stopped, drawn_all, drawn_next}, Made.{has_room, step_written, steps_missing}}
use Rattle.ultra_para_run.proofs.running.put_drawn.Goals as goal

pub returns-then-have_all_stopped-clause-writes : goal.returns-then-have_all_stopped-clause-writes
returns-then-have_all_stopped-clause-writes g c =
    let s = c.args.run.now.para.settings in
    let program = c.args.run.now.para.program in
    let seed = c.args.seed in
    let most = c.args.most in
    let inv = c.loop-made.invariant in
    let ps = inv.steps in
    let stopped : have_all_stopped (after_steps s program ps) ≡ true = ap (λ (m : ParaState). have_all_stopped m.state) (sym inv.made.state) ∙ sym c.if-have_all_stopped.ensures in
    let is = drawn_stopped s program seed most ps (most - c.loop-made.made) c.loop-made.x inv.drawn stopped in
    subst (λ qs. Writes g.S.Sink.taken g.S.Sink.failures (unless_only_end c.args.only_end (steps_text s program qs)) c.args.buffer.now c.loop-made.buffer) (sym is) inv.writes

pub returns-then-have_all_stopped-clause-made : goal.returns-then-have_all_stopped-clause-made
returns-then-have_all_stopped-clause-made g c = λ sound.
    let s = c.args.run.now.para.settings in
    let program = c.args.run.now.para.program in
    let seed = c.args.seed in
    let most = c.args.most in
    let inv = c.loop-made.invariant in
    let ps = inv.steps in
    let stopped : have_all_stopped (after_steps s program ps) ≡ true = ap (λ (m : ParaState). have_all_stopped m.state) (sym inv.made.state) ∙ sym c.if-have_all_stopped.ensures in
    let is = drawn_stopped s program seed most ps (most - c.loop-made.made) c.loop-made.x inv.drawn stopped in
    subst (λ qs. HasMade s program qs c.loop-made.run) (sym is) inv.made

pub returns-then-have_all_stopped-clause-count : goal.returns-then-have_all_stopped-clause-count
returns-then-have_all_stopped-clause-count g c = λ sound.
    let s = c.args.run.now.para.settings in
    let program = c.args.run.now.para.program in
    let seed = c.args.seed in
    let most = c.args.most in
    let inv = c.loop-made.invariant in
    let ps = inv.steps in
    let stopped : have_all_stopped (after_steps s program ps) ≡ true = ap (λ (m : ParaState). have_all_stopped m.state) (sym inv.made.state) ∙ sym c.if-have_all_stopped.ensures in
    let is = drawn_stopped s program seed most ps (most - c.loop-made.made) c.loop-made.x inv.drawn stopped in
    sym inv.count ∙ ap length (sym is)

pub put_step-requires-clause-few : goal.put_step-requires-clause-few
put_step-requires-clause-few g c = few_elements c.highest_bits.result c.args.stages c.requires.few c.highest_bits.ensures.below

pub put_step-requires-clause-room : goal.put_step-requires-clause-room
put_step-requires-clause-room g c =
    let s = c.args.run.now.para.settings in
    let program = c.args.run.now.para.program in
    let seed = c.args.seed in
    let most = c.args.most in
    let inv = c.loop-made.invariant in
    let ps = inv.steps in
    let few : c.highest_bits.result < size s = subst (λ n. c.highest_bits.result < 2 ^ n) c.requires.stages c.highest_bits.ensures.below in
    let short : length ps < 2 ^ 64 - 1 = omega (arith, inv.count, c.loop-made-test.true, c.ranges.most.fits) in
    has_room s program ps c.loop-made.run inv.made c.highest_bits.result few short

pub returns-then-has_failed-clause-writes : goal.returns-then-has_failed-clause-writes
returns-then-has_failed-clause-writes g c =
    let s = c.args.run.now.para.settings in
    let program = c.args.run.now.para.program in
    let seed = c.args.seed in
    let most = c.args.most in
    let inv = c.loop-made.invariant in
    let ps = inv.steps in
    let pe = c.highest_bits.result in
    let running : have_all_stopped (after_steps s program ps) ≡ false = ap (λ (m : ParaState). have_all_stopped m.state) (sym inv.made.state) ∙ sym c.if-have_all_stopped.ensures in
    let next = drawn_next s program seed most ps c.loop-made.made c.loop-made.x c.next_number-x.result pe c.args.stages c.loop-made-test.true inv.drawn running c.next_number-x.ensures c.requires.stages c.highest_bits.ensures.value in
    let written = step_written s program c.args.only_end ps pe inv.writes (c.put_step.ensures.writes s program ps inv.made) in
    let rest = drawn_from s program (most - (c.loop-made.made + 1)) (after_steps s program (ps ++ pe ∷ [])) c.next_number-x.result in
    let whole = steps_missing s program c.args.only_end (ps ++ pe ∷ []) rest (sym c.if-has_failed.ensures) written in
    subst (λ qs. Writes g.S.Sink.taken g.S.Sink.failures (unless_only_end c.args.only_end (steps_text s program qs)) c.args.buffer.now c.put_step.new.buffer) (sym next.rest) whole

pub loop-made-preserved : goal.loop-made-preserved
loop-made-preserved g c =
    let s = c.args.run.now.para.settings in
    let program = c.args.run.now.para.program in
    let seed = c.args.seed in
    let most = c.args.most in
    let inv = c.loop-made.invariant in
    let ps = inv.steps in
    let pe = c.highest_bits.result in
    let running : have_all_stopped (after_steps s program ps) ≡ false = ap (λ (m : ParaState). have_all_stopped m.state) (sym inv.made.state) ∙ sym c.if-have_all_stopped.ensures in
    let next = drawn_next s program seed most ps c.loop-made.made c.loop-made.x c.next_number-x.result pe c.args.stages c.loop-made-test.true inv.drawn running c.next_number-x.ensures c.requires.stages c.highest_bits.ensures.value in
    let written = step_written s program c.args.only_end ps pe inv.writes (c.put_step.ensures.writes s program ps inv.made) in
    record {
      steps = ps ++ pe ∷ [];
      count = length_push ps pe ∙ ap (λ n. n + 1) inv.count;
      made = c.put_step.ensures.made s program ps inv.made;
      drawn = next;
      writes = written;
    }

pub returns-clause-writes : goal.returns-clause-writes
returns-clause-writes g c =
    let s = c.args.run.now.para.settings in
    let program = c.args.run.now.para.program in
    let seed = c.args.seed in
    let most = c.args.most in
    let inv = c.loop-made.invariant in
    let ps = inv.steps in
    let none : most - c.loop-made.made ≡ 0 = omega (arith, c.loop-made-test.false) in
    let is = drawn_all s program seed most ps c.loop-made.x (subst (λ n. AreDrawn s program seed most ps n c.loop-made.x) none inv.drawn) in
    subst (λ qs. Writes g.S.Sink.taken g.S.Sink.failures (unless_only_end c.args.only_end (steps_text s program qs)) c.args.buffer.now c.loop-made.buffer) (sym is) inv.writes

pub returns-clause-made : goal.returns-clause-made
returns-clause-made g c = λ sound.
    let s = c.args.run.now.para.settings in
    let program = c.args.run.now.para.program in
    let seed = c.args.seed in
    let most = c.args.most in
    let inv = c.loop-made.invariant in
    let ps = inv.steps in
    let none : most - c.loop-made.made ≡ 0 = omega (arith, c.loop-made-test.false) in
    let is = drawn_all s program seed most ps c.loop-made.x (subst (λ n. AreDrawn s program seed most ps n c.loop-made.x) none inv.drawn) in
    subst (λ qs. HasMade s program qs c.loop-made.run) (sym is) inv.made

pub returns-clause-count : goal.returns-clause-count
returns-clause-count g c = λ sound.
    let s = c.args.run.now.para.settings in
    let program = c.args.run.now.para.program in
    let seed = c.args.seed in
    let most = c.args.most in
    let inv = c.loop-made.invariant in
    let ps = inv.steps in
    let none : most - c.loop-made.made ≡ 0 = omega (arith, c.loop-made-test.false) in
    let is = drawn_all s program seed most ps c.loop-made.x (subst (λ n. AreDrawn s program seed most ps n c.loop-made.x) none inv.drawn) in
    let whole : most ≡ length ps = omega (arith, c.loop-made-test.false, inv.count) in
    whole ∙ ap length (sym is)
