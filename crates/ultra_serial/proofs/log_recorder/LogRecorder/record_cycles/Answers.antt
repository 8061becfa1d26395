use Rattle.std.proofs.Common.{◌≡◌, ◌+◌, inl, inr, true, rules, arith, sym, ap, subst, ◌∙◌}
use Rattle.ultra_machine.specs.MachineState.{MachineState}
use Rattle.ultra_model.specs.Machine.{is_quiet}
use Rattle.ultra_serial_law.specs.{Log.Log, SerialList.{History, history}}
use Rattle.ultra_serial.specs.LogRecorder.{Records}
use Rattle.ultra_serial.proofs.Cycles.{cycles_after, running_start, running_next, has_run, history_start, history_next}
use Rattle.ultra_serial.proofs.Numbers.{noted_log}
use Rattle.ultra_serial_law.proofs.Rest.{quiet_history}
use Rattle.ultra_serial.proofs.log_recorder.LogRecorder.record_cycles.Goals as goal

pub loop-cycle-init : goal.loop-cycle-init
loop-cycle-init c =
    let m = c.args.machine.now in
    record {
      machine = running_start m.settings m.program m (ap (λ s. record m { state = s }) c.requires.start);
      recording = rw (history_start m.settings m.program) c.requires.before;
    }

pub cycle-requires : goal.cycle-requires
cycle-requires c =
    let m = c.args.machine.now in
    let done = ap (λ (r : MachineState). r.state.cycles) c.loop-cycle.invariant.machine ∙ cycles_after m.settings m.program c.loop-cycle.cycle in
    omega (arith, done)

pub loop-cycle-preserved : goal.loop-cycle-preserved
loop-cycle-preserved c =
    let v = c.args.machine.now.settings in
    let p = c.args.machine.now.program in
    let n = c.loop-cycle.cycle in
    let now = running_next v p c.loop-cycle.machine c.cycle.new.self n c.loop-cycle.invariant.machine c.cycle.ensures in
    let events = c.events.ensures ∙ ap (λ (r : MachineState). r.state.events) now in
    let es = c.events.result.now in
    let log = ap (λ (h : History). h.log) (history_next v p n es events) ∙ noted_log n es (history v p n) in
    record {
      machine = now;
      recording = subst (λ (l : Log). Records c.note_all.new.self l) (sym log) (c.in_ok-note_all.ensures (history v p n).log c.loop-cycle.invariant.recording);
    }

pub returns-then-is_quiet-clause-log : goal.returns-then-is_quiet-clause-log
returns-then-is_quiet-clause-log c =
    let v = c.args.machine.now.settings in
    let p = c.args.machine.now.program in
    let n = c.loop-cycle.cycle in
    let now = running_next v p c.loop-cycle.machine c.cycle.new.self n c.loop-cycle.invariant.machine c.cycle.ensures in
    let events = c.events.ensures ∙ ap (λ (r : MachineState). r.state.events) now in
    let es = c.events.result.now in
    let found : is_quiet c.cycle.new.self.state ≡ true = search rules in
    let quiet = sym (ap (λ (r : MachineState). is_quiet r.state) now) ∙ found in
    let all = sym (history_next v p n es events) ∙ quiet_history v p (n + 1) c.args.cycles (omega arith) quiet in
    let log = sym (noted_log n es (history v p n)) ∙ ap (λ (h : History). h.log) all in
    subst (λ (l : Log). Records c.note_all.new.self l) log (c.in_ok-note_all.ensures (history v p n).log c.loop-cycle.invariant.recording)

pub returns-after-loop-cycle-clause-log : goal.returns-after-loop-cycle-clause-log
returns-after-loop-cycle-clause-log c =
    let v = c.args.machine.now.settings in
    let p = c.args.machine.now.program in
    subst (λ k. Records c.loop-cycle.self (history v p k).log) (omega arith) c.loop-cycle.invariant.recording

pub returns-then-is_quiet-clause-machine : goal.returns-then-is_quiet-clause-machine
returns-then-is_quiet-clause-machine c =
    let v = c.args.machine.now.settings in
    let p = c.args.machine.now.program in
    let n = c.loop-cycle.cycle in
    let now = running_next v p c.loop-cycle.machine c.cycle.new.self n c.loop-cycle.invariant.machine c.cycle.ensures in
    let found : is_quiet c.cycle.new.self.state ≡ true = search rules in
    has_run v p c.args.cycles (n + 1) c.cycle.new.self now (inr (omega arith, sym (ap (λ (r : MachineState). is_quiet r.state) now) ∙ found))

pub returns-after-loop-cycle-clause-machine : goal.returns-after-loop-cycle-clause-machine
returns-after-loop-cycle-clause-machine c =
    has_run c.args.machine.now.settings c.args.machine.now.program c.args.cycles c.loop-cycle.cycle c.loop-cycle.machine c.loop-cycle.invariant.machine (inl (omega arith))
