use Rattle.std.proofs.Common.{◌≡◌, ◌∙◌, ◌+◌, true, rules, arith, refl, sym, ap, subst}
use Rattle.std.proofs.lemmas.Result.{err_from_is_err_and}
use Rattle.ultra_msg.specs.Bytes.{AreTakenOrWait}
use Rattle.ultra_msg.proofs.Prefixes.{none_written}
use Rattle.ultra_machine.specs.MachineState.{MachineState}
use Rattle.ultra_model.specs.Machine.{Settings, is_quiet}
use Rattle.ultra_serial.proofs.Cycles.{cycles_after, running_start, running_next, history_start}
use Rattle.ultra_explain_command.specs.Explanation.{lines_of_first}
use Rattle.ultra_explain_command.proofs.{LastCycle.whole_lines, explaining.explain_cycles.Goals.{else-loop-cycle-test, then-loop-cycle-test+in_ok-explain_cycle+then-is_quiet}}
use Rattle.ultra_explain_command.proofs.Runs.{no_lines, quiet_lines, can_come, explained_next, written_next, begun_next, full_there}
use Rattle.ultra_explain_command.proofs.explaining.explain_cycles.Goals as goal

pub loop-cycle-init : goal.loop-cycle-init
loop-cycle-init g c =
    let m = c.args.machine.now in
    record {
      machine = running_start m.settings m.program m (ap (λ s. record m { state = s }) c.requires.start);
      explainer = rw (history_start m.settings m.program) c.requires.none_held;
      written = rw (no_lines m.settings m.program) (none_written (g.O.Sink.taken c.args.out.now) c.args.lines.now.bytes.items);
      still = refl;
    }

pub cycle-requires : goal.cycle-requires
cycle-requires g c =
    let m = c.args.machine.now in
    let done = ap (λ (r : MachineState). r.state.cycles) c.loop-cycle.invariant.machine ∙ cycles_after m.settings m.program c.loop-cycle.cycle in
    omega (arith, done)

pub explain_cycle-requires-clause-absorbable : goal.explain_cycle-requires-clause-absorbable
explain_cycle-requires-clause-absorbable g c =
    let v = c.args.machine.now.settings in
    let p = c.args.machine.now.program in
    let n = c.loop-cycle.cycle in
    let now = running_next v p c.loop-cycle.machine c.cycle.new.self n c.loop-cycle.invariant.machine c.cycle.ensures in
    let events = c.events.ensures ∙ ap (λ (r : MachineState). r.state.events) now in
    can_come v p n c.events.result.now events c.loop-cycle.explainer c.loop-cycle.invariant.explainer (c.explaining_law.ensures.explained v c.requires.in_range p)

pub returns-in_err-explain_cycle-clause-err : goal.returns-in_err-explain_cycle-clause-err
returns-in_err-explain_cycle-clause-err g c =
    let r = err_from_is_err_and c.from_residual.result c.from_residual.ensures.1 in
    let v = c.args.machine.now.settings in
    let p = c.args.machine.now.program in
    let n = c.loop-cycle.cycle in
    let now = running_next v p c.loop-cycle.machine c.cycle.new.self n c.loop-cycle.invariant.machine c.cycle.ensures in
    let events = c.events.ensures ∙ ap (λ (r : MachineState). r.state.events) now in
    let old = g.O.Sink.taken c.args.out.now in
    let waited = c.args.lines.now.bytes.items in
    let end : c.cycles-cycle-end.result ≡ v.cycles = c.cycles-cycle-end.ensures.value ∙ ap (λ (s : Settings). s.cycles) c.config.ensures in
    rw (r.1, whole_lines v p) (begun_next v p n c.events.result.now events c.loop-cycle.explainer c.loop-cycle.invariant.explainer old waited _ _ c.loop-cycle.invariant.written _ v.cycles (omega (arith, end)) c.in_err-explain_cycle.ensures.err)

pub returns-in_err-explain_cycle-clause-full : goal.returns-in_err-explain_cycle-clause-full
returns-in_err-explain_cycle-clause-full g c =
    let r = err_from_is_err_and c.from_residual.result c.from_residual.ensures.1 in
    let v = c.args.machine.now.settings in
    let p = c.args.machine.now.program in
    let n = c.loop-cycle.cycle in
    let now = running_next v p c.loop-cycle.machine c.cycle.new.self n c.loop-cycle.invariant.machine c.cycle.ensures in
    let events = c.events.ensures ∙ ap (λ (r : MachineState). r.state.events) now in
    let old = g.O.Sink.taken c.args.out.now in
    let waited = c.args.lines.now.bytes.items in
    let end : c.cycles-cycle-end.result ≡ v.cycles = c.cycles-cycle-end.ensures.value ∙ ap (λ (s : Settings). s.cycles) c.config.ensures in
    rw (r.1, r.2) (λ full. full_there v p n c.events.result.now events c.loop-cycle.explainer c.loop-cycle.invariant.explainer old waited _ _ c.loop-cycle.invariant.written _ (omega (arith, end)) (c.in_err-explain_cycle.ensures.full full))

pub loop-cycle-preserved : goal.loop-cycle-preserved
loop-cycle-preserved g c =
    let v = c.args.machine.now.settings in
    let p = c.args.machine.now.program in
    let n = c.loop-cycle.cycle in
    let now = running_next v p c.loop-cycle.machine c.cycle.new.self n c.loop-cycle.invariant.machine c.cycle.ensures in
    let events = c.events.ensures ∙ ap (λ (r : MachineState). r.state.events) now in
    let e = c.loop-cycle.explainer in
    let now_is = c.loop-cycle.invariant.explainer in
    let old = g.O.Sink.taken c.args.out.now in
    let waited = c.args.lines.now.bytes.items in
    record {
      machine = now;
      explainer = explained_next v p n c.events.result.now events e now_is c.explain_cycle.new.explainer c.in_ok-explain_cycle.ensures.trees;
      written = written_next v p n c.events.result.now events e now_is old waited _ _ c.loop-cycle.invariant.written _ _ c.in_ok-explain_cycle.ensures.ok;
      still = c.in_ok-explain_cycle.ensures.still ∙ c.loop-cycle.invariant.still;
    }

pub returns-clause-ok : goal.returns-clause-ok
returns-clause-ok g c =
    let v = c.args.machine.now.settings in
    let p = c.args.machine.now.program in
    let n = c.loop-cycle.cycle in
    let e = c.loop-cycle.explainer in
    let now_is = c.loop-cycle.invariant.explainer in
    let old = g.O.Sink.taken c.args.out.now in
    let waited = c.args.lines.now.bytes.items in
    let end : c.cycles-cycle-end.result ≡ v.cycles = c.cycles-cycle-end.ensures.value ∙ ap (λ (s : Settings). s.cycles) c.config.ensures in
    elim c.loop-cycle-test.branch [
      | else-loop-cycle-test w ↦
          let all : n ≡ v.cycles = omega (arith, end) in
          rw (w.out-is, w.lines-is, whole_lines v p) (subst (λ k. AreTakenOrWait (lines_of_first v p k) old waited (g.O.Sink.taken c.loop-cycle.out) c.loop-cycle.lines.bytes.items) all c.loop-cycle.invariant.written)
      | then-loop-cycle-test+in_ok-explain_cycle+then-is_quiet w ↦
          let now = running_next v p c.loop-cycle.machine w.cycle.new.self n c.loop-cycle.invariant.machine w.cycle.ensures in
          let events = w.events.ensures ∙ ap (λ (r : MachineState). r.state.events) now in
          let found : is_quiet w.cycle.new.self.state ≡ true = search rules in
          let quiet = sym (ap (λ (r : MachineState). is_quiet r.state) now) ∙ found in
          let all = sym (quiet_lines v p (n + 1) v.cycles (omega (arith, end)) quiet) in
          rw (w.out-is, w.lines-is, whole_lines v p) (subst (λ t. AreTakenOrWait t old waited (g.O.Sink.taken w.explain_cycle.new.out) w.explain_cycle.new.lines.bytes.items) all (written_next v p n w.events.result.now events e now_is old waited _ _ c.loop-cycle.invariant.written _ _ w.in_ok-explain_cycle.ensures.ok))
    ]
