use Rattle.std.proofs.Common.{arith, rules, refl, sym, ap, subst, ◌≡◌, ◌+◌, ◌∙◌}
use Rattle.ultra_model.specs.Machine.{is_quiet}
use Rattle.ultra_io.proofs.Writing.{writes_nothing}
use Rattle.ultra_trace_alone.specs.{BlocksAfter.IsAfter, RunText.most_for}
use Rattle.ultra_trace_alone.proofs.Count.{next_after, own_after, of_settings, done_after, cycle_written, busy_none, first_written, last_written, last_count, still_busy, limit_written, limit_count, not_second}
use Rattle.ultra_trace.proofs.together.put_cycles_together.Goals as goal

pub loop-cycle-init : goal.loop-cycle-init
loop-cycle-init g c = record {
  state = c.requires.start;
  ready = c.requires.ready;
  same = refl;
  writes = writes_nothing c.args.buffer.now;
  busy = busy_none c.args.blocks.config c.args.blocks.program;
  sound = c.requires.sound;
  expected = c.requires.expected;
}

pub cycle-requires-clause-counted : goal.cycle-requires-clause-counted
cycle-requires-clause-counted g c =
    let first = c.args.blocks in
    rw (done_after first.config first.program c.loop-cycle.cycle c.loop-cycle.blocks c.loop-cycle.invariant.state) (omega arith)

pub put_lines-requires-clause-made : goal.put_lines-requires-clause-made
put_lines-requires-clause-made g c =
    let first = c.args.blocks in
    let n = c.loop-cycle.cycle in
    let now = next_after first.config first.program n c.loop-cycle.blocks c.in_ok-blocks.blocks c.loop-cycle.invariant.state c.in_ok-blocks.ensures.state in
    own_after first.config first.program (n + 1) c.in_ok-blocks.blocks now

pub returns-in_err-blocks-clause-err : goal.returns-in_err-blocks-clause-err
returns-in_err-blocks-clause-err g c =
    let first = c.args.blocks in
    let limit = c.most_cycles-cycle-end.ensures.value ∙ ap (most_for first.config) c.last_cycle.ensures in
    let pieces = g.T.RunText.pieces c.args.text.now in
    let begun = first_written first.config first.program pieces.last (pieces.lines first.config first.program) c.loop-cycle.cycle c.loop-cycle.invariant.busy (omega (arith, limit)) c.loop-cycle.invariant.writes in
    search rules

pub returns-then-is_over-clause-writes : goal.returns-then-is_over-clause-writes
returns-then-is_over-clause-writes g c =
    let first = c.args.blocks in
    let limit = c.most_cycles-cycle-end.ensures.value ∙ ap (most_for first.config) c.last_cycle.ensures in
    let n = c.loop-cycle.cycle in
    let inv = c.loop-cycle.invariant in
    let b = c.in_ok-blocks.blocks in
    let pieces = g.T.RunText.pieces c.args.text.now in
    let now = next_after first.config first.program n c.loop-cycle.blocks b inv.state c.in_ok-blocks.ensures.state in
    let written = cycle_written first.config first.program pieces n b now (g.T.RunText.pieces c.loop-cycle.text) inv.same inv.writes c.put_lines.ensures.writes in
    last_written first.config first.program pieces.last n b now inv.busy (omega (arith, limit)) (pieces.lines first.config first.program) (sym c.if-is_over.ensures) written

pub returns-then-is_over-clause-end : goal.returns-then-is_over-clause-end
returns-then-is_over-clause-end g c failed =
    let first = c.args.blocks in
    let limit = c.most_cycles-cycle-end.ensures.value ∙ ap (most_for first.config) c.last_cycle.ensures in
    let n = c.loop-cycle.cycle in
    let inv = c.loop-cycle.invariant in
    let b = c.in_ok-blocks.blocks in
    let now = next_after first.config first.program n c.loop-cycle.blocks b inv.state c.in_ok-blocks.ensures.state in
    let count = last_count first.config first.program (g.T.RunText.pieces c.args.text.now).last n b now inv.busy (omega (arith, limit)) c.put_lines.new.buffer.failed (sym c.if-is_over.ensures) failed in
    subst (λ k. IsAfter first.config first.program k b) count now

pub returns-then-is_over-clause-ready : goal.returns-then-is_over-clause-ready
returns-then-is_over-clause-ready g c failed =
    let first = c.args.blocks in
    let limit = c.most_cycles-cycle-end.ensures.value ∙ ap (most_for first.config) c.last_cycle.ensures in
    let n = c.loop-cycle.cycle in
    let inv = c.loop-cycle.invariant in
    let b = c.in_ok-blocks.blocks in
    let now = next_after first.config first.program n c.loop-cycle.blocks b inv.state c.in_ok-blocks.ensures.state in
    let count = last_count first.config first.program (g.T.RunText.pieces c.args.text.now).last n b now inv.busy (omega (arith, limit)) c.put_lines.new.buffer.failed (sym c.if-is_over.ensures) failed in
    subst (λ k. g.T.RunText.is_ready c.put_lines.new.self first.config first.program k) count
    (of_settings first.config first.program (n + 1) (λ s p. g.T.RunText.is_ready c.put_lines.new.self s p (n + 1)) b now c.put_lines.ensures.ready)

pub loop-cycle-preserved : goal.loop-cycle-preserved
loop-cycle-preserved g c =
    let first = c.args.blocks in
    let limit = c.most_cycles-cycle-end.ensures.value ∙ ap (most_for first.config) c.last_cycle.ensures in
    let n = c.loop-cycle.cycle in
    let inv = c.loop-cycle.invariant in
    let b = c.in_ok-blocks.blocks in
    let old = c.loop-cycle.text in
    let new = c.put_lines.new.self in
    let over = sym c.if-is_over.ensures in
    let pieces = g.T.RunText.pieces c.args.text.now in
    let now = next_after first.config first.program n c.loop-cycle.blocks b inv.state c.in_ok-blocks.ensures.state in
    record {
      state = now;
      ready = of_settings first.config first.program (n + 1) (λ s p. g.T.RunText.is_ready new s p (n + 1)) b now c.put_lines.ensures.ready;
      same = c.put_lines.ensures.same ∙ inv.same;
      writes = cycle_written first.config first.program pieces n b now (g.T.RunText.pieces old) inv.same inv.writes c.put_lines.ensures.writes;
      busy = still_busy first.config first.program pieces.last n b now inv.busy (omega (arith, limit)) c.put_lines.new.buffer.failed over;
      sound = not_second (is_quiet b.machine) c.put_lines.new.buffer.failed over;
      expected = c.in_ok-blocks.ensures.expected;
    }

pub returns-clause-writes : goal.returns-clause-writes
returns-clause-writes g c =
    let first = c.args.blocks in
    let limit = c.most_cycles-cycle-end.ensures.value ∙ ap (most_for first.config) c.last_cycle.ensures in
    let pieces = g.T.RunText.pieces c.args.text.now in
    let inv = c.loop-cycle.invariant in
    limit_written first.config first.program pieces.last c.loop-cycle.cycle (omega (arith, limit)) inv.busy (pieces.lines first.config first.program) inv.writes

pub returns-clause-end : goal.returns-clause-end
returns-clause-end g c failed =
    let first = c.args.blocks in
    let limit = c.most_cycles-cycle-end.ensures.value ∙ ap (most_for first.config) c.last_cycle.ensures in
    let inv = c.loop-cycle.invariant in
    subst (λ k. IsAfter first.config first.program k c.loop-cycle.blocks) (limit_count first.config first.program (g.T.RunText.pieces c.args.text.now).last c.loop-cycle.cycle (omega (arith, limit)) inv.busy) inv.state

pub returns-clause-ready : goal.returns-clause-ready
returns-clause-ready g c failed =
    let first = c.args.blocks in
    let limit = c.most_cycles-cycle-end.ensures.value ∙ ap (most_for first.config) c.last_cycle.ensures in
    let inv = c.loop-cycle.invariant in
    subst (λ k. g.T.RunText.is_ready c.loop-cycle.text first.config first.program k) (limit_count first.config first.program (g.T.RunText.pieces c.args.text.now).last c.loop-cycle.cycle (omega (arith, limit)) inv.busy) inv.ready
