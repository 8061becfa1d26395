use Rattle.std.proofs.Common.{arith, refl, sym, ap, subst, ◌≡◌, ◌+◌, ◌∙◌}
use Rattle.ultra_io.proofs.Writing.{writes_nothing}
use Rattle.ultra_trace_alone.specs.{BlocksAfter.IsAfter, RunText.most_for}
use Rattle.ultra_trace_alone.proofs.Count.{next_after, own_after, of_settings, done_after, cycle_written, busy_none, last_written, last_count, still_busy, limit_written, limit_count}
use Rattle.ultra_trace_alone.proofs.alone.put_cycles.Goals as goal

pub loop-cycle-init : goal.loop-cycle-init
loop-cycle-init g c = record {
  state = c.requires.start;
  takes = c.requires.takes;
  ready = c.requires.ready;
  same = refl;
  writes = writes_nothing c.args.buffer.now;
  busy = busy_none c.args.blocks.now.config c.args.blocks.now.program;
}

pub cycle-requires : goal.cycle-requires
cycle-requires g c =
    let first = c.args.blocks.now in
    rw (done_after first.config first.program c.loop-cycle.cycle c.loop-cycle.blocks c.loop-cycle.invariant.state) (omega arith)

pub put_lines-requires-clause-made : goal.put_lines-requires-clause-made
put_lines-requires-clause-made g c =
    let first = c.args.blocks.now in
    let n = c.loop-cycle.cycle in
    let now = next_after first.config first.program n c.loop-cycle.blocks c.cycle.new.self c.loop-cycle.invariant.state c.cycle.ensures in
    own_after first.config first.program (n + 1) c.cycle.new.self now

pub returns-then-is_over-clause-writes : goal.returns-then-is_over-clause-writes
returns-then-is_over-clause-writes g c =
    let first = c.args.blocks.now in
    let limit = c.most_cycles-cycle-end.ensures.value ∙ ap (most_for first.config) c.last_cycle.ensures in
    let n = c.loop-cycle.cycle in
    let inv = c.loop-cycle.invariant in
    let pieces = g.T.RunText.pieces c.args.text.now in
    let now = next_after first.config first.program n c.loop-cycle.blocks c.cycle.new.self inv.state c.cycle.ensures in
    let written = cycle_written first.config first.program pieces n c.cycle.new.self now (g.T.RunText.pieces c.loop-cycle.text) inv.same inv.writes c.put_lines.ensures.writes in
    last_written first.config first.program pieces.last n c.cycle.new.self now inv.busy (omega (arith, limit)) (pieces.lines first.config first.program) (sym c.if-is_over.ensures) written

pub returns-then-is_over-clause-end : goal.returns-then-is_over-clause-end
returns-then-is_over-clause-end g c failed =
    let first = c.args.blocks.now in
    let limit = c.most_cycles-cycle-end.ensures.value ∙ ap (most_for first.config) c.last_cycle.ensures in
    let n = c.loop-cycle.cycle in
    let inv = c.loop-cycle.invariant in
    let now = next_after first.config first.program n c.loop-cycle.blocks c.cycle.new.self inv.state c.cycle.ensures in
    let count = last_count first.config first.program (g.T.RunText.pieces c.args.text.now).last n c.cycle.new.self now inv.busy (omega (arith, limit)) c.put_lines.new.buffer.failed (sym c.if-is_over.ensures) failed in
    subst (λ k. IsAfter first.config first.program k c.cycle.new.self) count now

pub returns-then-is_over-clause-ready : goal.returns-then-is_over-clause-ready
returns-then-is_over-clause-ready g c failed =
    let first = c.args.blocks.now in
    let limit = c.most_cycles-cycle-end.ensures.value ∙ ap (most_for first.config) c.last_cycle.ensures in
    let n = c.loop-cycle.cycle in
    let inv = c.loop-cycle.invariant in
    let now = next_after first.config first.program n c.loop-cycle.blocks c.cycle.new.self inv.state c.cycle.ensures in
    let count = last_count first.config first.program (g.T.RunText.pieces c.args.text.now).last n c.cycle.new.self now inv.busy (omega (arith, limit)) c.put_lines.new.buffer.failed (sym c.if-is_over.ensures) failed in
    subst (λ k. g.T.RunText.is_ready c.put_lines.new.self first.config first.program k) count
    (of_settings first.config first.program (n + 1) (λ s p. g.T.RunText.is_ready c.put_lines.new.self s p (n + 1)) c.cycle.new.self now c.put_lines.ensures.ready)

pub loop-cycle-preserved : goal.loop-cycle-preserved
loop-cycle-preserved g c =
    let first = c.args.blocks.now in
    let limit = c.most_cycles-cycle-end.ensures.value ∙ ap (most_for first.config) c.last_cycle.ensures in
    let n = c.loop-cycle.cycle in
    let inv = c.loop-cycle.invariant in
    let b = c.cycle.new.self in
    let old = c.loop-cycle.text in
    let new = c.put_lines.new.self in
    let pieces = g.T.RunText.pieces c.args.text.now in
    let now = next_after first.config first.program n c.loop-cycle.blocks b inv.state c.cycle.ensures in
    record {
      state = now;
      takes = rw c.cycle.ensures inv.takes;
      ready = of_settings first.config first.program (n + 1) (λ s p. g.T.RunText.is_ready new s p (n + 1)) b now c.put_lines.ensures.ready;
      same = c.put_lines.ensures.same ∙ inv.same;
      writes = cycle_written first.config first.program pieces n b now (g.T.RunText.pieces old) inv.same inv.writes c.put_lines.ensures.writes;
      busy = still_busy first.config first.program pieces.last n b now inv.busy (omega (arith, limit)) c.put_lines.new.buffer.failed (sym c.if-is_over.ensures);
    }

pub returns-clause-writes : goal.returns-clause-writes
returns-clause-writes g c =
    let first = c.args.blocks.now in
    let limit = c.most_cycles-cycle-end.ensures.value ∙ ap (most_for first.config) c.last_cycle.ensures in
    let pieces = g.T.RunText.pieces c.args.text.now in
    let inv = c.loop-cycle.invariant in
    limit_written first.config first.program pieces.last c.loop-cycle.cycle (omega (arith, limit)) inv.busy (pieces.lines first.config first.program) inv.writes

pub returns-clause-end : goal.returns-clause-end
returns-clause-end g c failed =
    let first = c.args.blocks.now in
    let limit = c.most_cycles-cycle-end.ensures.value ∙ ap (most_for first.config) c.last_cycle.ensures in
    let inv = c.loop-cycle.invariant in
    subst (λ k. IsAfter first.config first.program k c.loop-cycle.blocks) (limit_count first.config first.program (g.T.RunText.pieces c.args.text.now).last c.loop-cycle.cycle (omega (arith, limit)) inv.busy) inv.state

pub returns-clause-ready : goal.returns-clause-ready
returns-clause-ready g c failed =
    let first = c.args.blocks.now in
    let limit = c.most_cycles-cycle-end.ensures.value ∙ ap (most_for first.config) c.last_cycle.ensures in
    let inv = c.loop-cycle.invariant in
    subst (λ k. g.T.RunText.is_ready c.loop-cycle.text first.config first.program k) (limit_count first.config first.program (g.T.RunText.pieces c.args.text.now).last c.loop-cycle.cycle (omega (arith, limit)) inv.busy) inv.ready
