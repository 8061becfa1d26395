use Rattle.std.proofs.Common.{ℕ, ◌≡◌, ◌+◌, ◌∙◌, sym, ap, arith}
use Rattle.ultra_block.specs.State.{BlocksState}
use Rattle.ultra_trace_alone.proofs.Count.{busy_none, busy_more, count_quiet, done_after, next_after, quiet_after}
use Rattle.ultra_measure.proofs.Windows.{after_cycle, next_now, table_in}
use Rattle.ultra_measure.proofs.measuring.skip_cycles.Goals as goal

pub loop-cycle-init : goal.loop-cycle-init
loop-cycle-init c = record { now = c.requires.start; busy = busy_none c.args.blocks.now.config c.args.blocks.now.program }

pub cycle-requires : goal.cycle-requires
cycle-requires c =
    let first = c.args.blocks.now in
    rw (done_after first.config first.program c.loop-cycle.cycle c.loop-cycle.blocks c.loop-cycle.invariant.now.state) (omega (arith, c.requires.few))

pub skip_latencies-requires : goal.skip_latencies-requires
skip_latencies-requires c =
    let first = c.args.blocks.now in
    let n = c.loop-cycle.cycle in
    let inv = c.loop-cycle.invariant in
    let state = next_after first.config first.program n c.loop-cycle.blocks c.cycle.new.self inv.now.state c.cycle.ensures in
    record {
      one = ap (λ (b : BlocksState). b.count) c.cycle.ensures ∙ inv.now.one;
      run = after_cycle first.config first.program n c.cycle.new.self state;
      early = omega (arith, c.requires.few);
      table = table_in first.config first.program (n + 1) c.cycle.new.self state n c.loop-cycle.table inv.now.table;
    }

pub returns-then-is_quiet-clause-over : goal.returns-then-is_quiet-clause-over
returns-then-is_quiet-clause-over c over =
    let first = c.args.blocks.now in
    let n = c.loop-cycle.cycle in
    let inv = c.loop-cycle.invariant in
    let state = next_after first.config first.program n c.loop-cycle.blocks c.cycle.new.self inv.now.state c.cycle.ensures in
    let quiet = quiet_after first.config first.program (n + 1) c.cycle.new.self state ∙ sym c.if-is_quiet.ensures in
    let count = count_quiet first.config first.program n inv.busy (omega (arith, c.requires.within)) quiet in
    omega (arith, count)

pub loop-cycle-preserved : goal.loop-cycle-preserved
loop-cycle-preserved c =
    let first = c.args.blocks.now in
    let n = c.loop-cycle.cycle in
    let inv = c.loop-cycle.invariant in
    let state = next_after first.config first.program n c.loop-cycle.blocks c.cycle.new.self inv.now.state c.cycle.ensures in
    let busy = quiet_after first.config first.program (n + 1) c.cycle.new.self state ∙ sym c.if-is_quiet.ensures in
    record {
      now = next_now first.config first.program n c.loop-cycle.blocks c.cycle.new.self c.loop-cycle.table c.skip_latencies.new.table inv.now c.cycle.ensures c.skip_latencies.ensures;
      busy = busy_more first.config first.program n inv.busy busy;
    }
