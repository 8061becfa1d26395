use Rattle.std.proofs.Common.{◌≡◌, ◌+◌, ◌-◌, ◌<◌, sym, subst, min, arith}
use Rattle.std.specs.Prelude.{Some}
use Rattle.ultra_io.proofs.Writing.{writes_nothing}
use Rattle.ultra_trace_alone.specs.RunText.{most_for}
use Rattle.ultra_measure.specs.Running.{IsWindowRun}
use Rattle.ultra_measure.proofs.Ends.{none_is}
use Rattle.ultra_measure.proofs.Windows.{on_in, run_of, none_left, low_is, kept_here, ended_here, text_more, reached, high_is, next_start, put_all, put_failed}
use Rattle.ultra_measure.proofs.measuring.put_rows.Goals as goal

pub loop-cycle-init : goal.loop-cycle-init
loop-cycle-init g c = record {
  on = c.requires.on;
  windows = (0, omega (arith, c.requires.asked, c.most_cycles-most.ensures.value), omega (arith, c.requires.some), writes_nothing c.args.buffer.now);
}

pub run_window-run-requires-clause-start : goal.run_window-run-requires-clause-start
run_window-run-requires-clause-start g c =
    let first = c.args.blocks.now in
    let on = c.loop-cycle.invariant.on in
    on_in first.config first.program c.loop-cycle.cycle c.loop-cycle.blocks on.now.state c.loop-cycle.cycle c.loop-cycle.table on

pub put_row-requires-clause-kept : goal.put_row-requires-clause-kept
put_row-requires-clause-kept g c =
    let first = c.args.blocks.now in
    let inv = c.loop-cycle.invariant in
    let run = c.run_window-run.result in
    let now = c.run_window-run.new.blocks in
    let table = c.run_window-run.new.table in
    let left = min c.args.every (most_for first.config (Some c.args.to) - c.loop-cycle.cycle) in
    let more : c.loop-cycle.cycle < most_for first.config (Some c.args.to) = omega (arith, c.loop-cycle-test.true, c.most_cycles-most.ensures.value) in
    let same : c.min.result ≡ left = omega (arith, c.min.ensures, c.most_cycles-most.ensures.value) in
    let ran = subst (λ n. IsWindowRun first.config first.program c.loop-cycle.cycle n now table run) same (run_of first.config first.program c.loop-cycle.cycle c.loop-cycle.blocks inv.on.now.state c.loop-cycle.cycle c.min.result now table run c.run_window-run.ensures) in
    kept_here first.config first.program c.args.form c.args.from c.args.to c.args.every c.requires.some inv.windows.0 c.loop-cycle.cycle inv.windows.1 more c.loop-cycle.blocks now c.loop-cycle.table table run inv.on ran

pub put_row-requires-clause-ended : goal.put_row-requires-clause-ended
put_row-requires-clause-ended g c =
    let first = c.args.blocks.now in
    let inv = c.loop-cycle.invariant in
    let run = c.run_window-run.result in
    let now = c.run_window-run.new.blocks in
    let table = c.run_window-run.new.table in
    let left = min c.args.every (most_for first.config (Some c.args.to) - c.loop-cycle.cycle) in
    let more : c.loop-cycle.cycle < most_for first.config (Some c.args.to) = omega (arith, c.loop-cycle-test.true, c.most_cycles-most.ensures.value) in
    let same : c.min.result ≡ left = omega (arith, c.min.ensures, c.most_cycles-most.ensures.value) in
    let ran = subst (λ n. IsWindowRun first.config first.program c.loop-cycle.cycle n now table run) same (run_of first.config first.program c.loop-cycle.cycle c.loop-cycle.blocks inv.on.now.state c.loop-cycle.cycle c.min.result now table run c.run_window-run.ensures) in
    ended_here first.config first.program c.args.form c.args.from c.args.to c.args.every c.requires.some inv.windows.0 c.loop-cycle.cycle inv.windows.1 more c.loop-cycle.blocks now c.loop-cycle.table table run inv.on ran

pub returns-then-is_some : goal.returns-then-is_some
returns-then-is_some g c =
    let first = c.args.blocks.now in
    let inv = c.loop-cycle.invariant in
    let run = c.run_window-run.result in
    let now = c.run_window-run.new.blocks in
    let table = c.run_window-run.new.table in
    let left = min c.args.every (most_for first.config (Some c.args.to) - c.loop-cycle.cycle) in
    let more : c.loop-cycle.cycle < most_for first.config (Some c.args.to) = omega (arith, c.loop-cycle-test.true, c.most_cycles-most.ensures.value) in
    let same : c.min.result ≡ left = omega (arith, c.min.ensures, c.most_cycles-most.ensures.value) in
    let ran = subst (λ n. IsWindowRun first.config first.program c.loop-cycle.cycle n now table run) same (run_of first.config first.program c.loop-cycle.cycle c.loop-cycle.blocks inv.on.now.state c.loop-cycle.cycle c.min.result now table run c.run_window-run.ensures) in
    let written = text_more first.config first.program c.args.form c.args.from c.args.to c.args.every c.requires.some inv.windows.0 c.loop-cycle.cycle inv.windows.1 more c.loop-cycle.blocks now c.loop-cycle.table table run inv.on ran inv.windows.3 c.put_row.ensures in
    put_all first.config first.program c.args.form c.args.from c.args.to c.args.every c.requires.some (inv.windows.0 + 1) (reached first.config first.program c.args.form c.args.from c.args.to c.args.every c.requires.some inv.windows.0 c.loop-cycle.cycle inv.windows.1 more c.loop-cycle.blocks now c.loop-cycle.table table run inv.on ran) (high_is first.config first.program c.args.form c.args.from c.args.to c.args.every c.requires.some inv.windows.0 c.loop-cycle.cycle inv.windows.1 more c.loop-cycle.blocks now c.loop-cycle.table table run inv.on ran (sym c.if-is_some.ensures)) written

pub returns-then-has_failed : goal.returns-then-has_failed
returns-then-has_failed g c =
    let first = c.args.blocks.now in
    let inv = c.loop-cycle.invariant in
    let run = c.run_window-run.result in
    let now = c.run_window-run.new.blocks in
    let table = c.run_window-run.new.table in
    let left = min c.args.every (most_for first.config (Some c.args.to) - c.loop-cycle.cycle) in
    let more : c.loop-cycle.cycle < most_for first.config (Some c.args.to) = omega (arith, c.loop-cycle-test.true, c.most_cycles-most.ensures.value) in
    let same : c.min.result ≡ left = omega (arith, c.min.ensures, c.most_cycles-most.ensures.value) in
    let ran = subst (λ n. IsWindowRun first.config first.program c.loop-cycle.cycle n now table run) same (run_of first.config first.program c.loop-cycle.cycle c.loop-cycle.blocks inv.on.now.state c.loop-cycle.cycle c.min.result now table run c.run_window-run.ensures) in
    let written = text_more first.config first.program c.args.form c.args.from c.args.to c.args.every c.requires.some inv.windows.0 c.loop-cycle.cycle inv.windows.1 more c.loop-cycle.blocks now c.loop-cycle.table table run inv.on ran inv.windows.3 c.put_row.ensures in
    put_failed first.config first.program c.args.form c.args.from c.args.to c.args.every c.requires.some inv.windows.0 (low_is first.config first.program c.args.form c.args.from c.args.to c.args.every c.requires.some inv.windows.0 c.loop-cycle.cycle inv.windows.1 more c.loop-cycle.blocks now c.loop-cycle.table table run inv.on ran) (sym c.if-has_failed.ensures) written

pub loop-cycle-preserved : goal.loop-cycle-preserved
loop-cycle-preserved g c =
    let first = c.args.blocks.now in
    let inv = c.loop-cycle.invariant in
    let run = c.run_window-run.result in
    let now = c.run_window-run.new.blocks in
    let table = c.run_window-run.new.table in
    let left = min c.args.every (most_for first.config (Some c.args.to) - c.loop-cycle.cycle) in
    let more : c.loop-cycle.cycle < most_for first.config (Some c.args.to) = omega (arith, c.loop-cycle-test.true, c.most_cycles-most.ensures.value) in
    let same : c.min.result ≡ left = omega (arith, c.min.ensures, c.most_cycles-most.ensures.value) in
    let ran = subst (λ n. IsWindowRun first.config first.program c.loop-cycle.cycle n now table run) same (run_of first.config first.program c.loop-cycle.cycle c.loop-cycle.blocks inv.on.now.state c.loop-cycle.cycle c.min.result now table run c.run_window-run.ensures) in
    let none = none_is _ (sym c.if-is_some.ensures) in
    record {
      on = ran.on none;
      windows = (inv.windows.0 + 1, next_start first.config first.program c.args.form c.args.from c.args.to c.args.every c.requires.some inv.windows.0 c.loop-cycle.cycle inv.windows.1 more c.loop-cycle.blocks now c.loop-cycle.table table run inv.on ran none, reached first.config first.program c.args.form c.args.from c.args.to c.args.every c.requires.some inv.windows.0 c.loop-cycle.cycle inv.windows.1 more c.loop-cycle.blocks now c.loop-cycle.table table run inv.on ran, text_more first.config first.program c.args.form c.args.from c.args.to c.args.every c.requires.some inv.windows.0 c.loop-cycle.cycle inv.windows.1 more c.loop-cycle.blocks now c.loop-cycle.table table run inv.on ran inv.windows.3 c.put_row.ensures);
    }

pub returns : goal.returns
returns g c =
    let first = c.args.blocks.now in
    let inv = c.loop-cycle.invariant in
    let high = none_left first.config first.program c.args.from c.args.to c.args.every inv.windows.0 c.loop-cycle.cycle inv.windows.1 (omega (arith, c.loop-cycle-test.false, c.most_cycles-most.ensures.value)) c.loop-cycle.blocks c.loop-cycle.table inv.on in
    put_all first.config first.program c.args.form c.args.from c.args.to c.args.every c.requires.some inv.windows.0 inv.windows.2 high inv.windows.3
