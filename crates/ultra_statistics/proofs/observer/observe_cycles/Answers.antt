use Rattle.std.proofs.Common.{◌≡◌, ◌+◌, ◌-◌, sym, subst, ◌∙◌, arith}
use Rattle.ultra_trace_alone.proofs.Count.{next_after, own_after, of_settings, done_after, quiet_after, busy_more}
use Rattle.ultra_statistics.proofs.Ends.{end_quiet, end_limit}
use Rattle.ultra_statistics.proofs.observer.observe_cycles.Goals as goal

pub cycle-requires : goal.cycle-requires
cycle-requires g c =
    let first = c.args.blocks.now in
    rw (done_after first.config first.program c.loop-cycle.cycle c.loop-cycle.blocks c.loop-cycle.invariant.state) (omega arith)

pub note-requires-then-is_quiet-clause-state : goal.note-requires-then-is_quiet-clause-state
note-requires-then-is_quiet-clause-state g c =
    let first = c.args.blocks.now in
    let n = c.loop-cycle.cycle in
    let now = next_after first.config first.program n c.loop-cycle.blocks c.cycle.new.self c.loop-cycle.invariant.state c.cycle.ensures in
    own_after first.config first.program (n + 1) c.cycle.new.self now

pub returns-then-is_quiet-clause-end : goal.returns-then-is_quiet-clause-end
returns-then-is_quiet-clause-end g c =
    let first = c.args.blocks.now in
    let n = c.loop-cycle.cycle in
    let now = next_after first.config first.program n c.loop-cycle.blocks c.cycle.new.self c.loop-cycle.invariant.state c.cycle.ensures in
    end_quiet first.config first.program c.args.to n c.loop-cycle.invariant.busy (omega arith) (omega arith) (quiet_after first.config first.program (n + 1) c.cycle.new.self now ∙ sym c.if-is_quiet.ensures)

pub loop-cycle-preserved : goal.loop-cycle-preserved
loop-cycle-preserved g c =
    let first = c.args.blocks.now in
    let n = c.loop-cycle.cycle in
    let inv = c.loop-cycle.invariant in
    let b = c.cycle.new.self in
    let now = next_after first.config first.program n c.loop-cycle.blocks b inv.state c.cycle.ensures in
    let noted = of_settings first.config first.program n (λ s p. g.O.Observer.has_noted c.note.new.self s p n (n + 1)) c.loop-cycle.blocks inv.state c.in_ok-note.ensures.noted in
    let back : n ≡ n + 1 - 1 = omega arith in
    record {
      one = rw c.cycle.ensures inv.one;
      state = now;
      noted = subst (λ k. g.O.Observer.has_noted c.note.new.self first.config first.program k (n + 1)) back noted;
      from = c.in_ok-note.ensures.from ∙ inv.from;
      busy = busy_more first.config first.program n inv.busy (quiet_after first.config first.program (n + 1) b now ∙ sym c.if-is_quiet.ensures);
    }

pub returns-clause-end : goal.returns-clause-end
returns-clause-end g c =
    let first = c.args.blocks.now in
    omega (arith, end_limit first.config first.program c.args.to c.loop-cycle.cycle c.loop-cycle.invariant.busy (omega arith))
