use Rattle.std.proofs.Common.{ℕ, Bool, ◌≡◌, ◌+◌, ◌∙◌, refl, sym, ap, subst, arith}
use Rattle.std.specs.Prelude.{Option, ◌==◌, None, IsSome}
use Rattle.ultra_model.specs.Machine.{Settings, is_quiet}
use Rattle.ultra_trace_alone.proofs.Count.{done_after}
use Rattle.ultra_measure.specs.{Rows.ended_if, Running.IsWindowRun}
use Rattle.ultra_measure.proofs.Ends.{count_beyond, ending_is, over_is, on_is, not_ended, none_is, not_none, no_end}
use Rattle.ultra_measure.proofs.Windows.{one_next, net_next, run_next, kept_next, table_next, next_now, kept_done, quiet_next}
use Rattle.ultra_measure.proofs.measuring.run_window_sized.Goals as goal

pub loop-cycle-init : goal.loop-cycle-init
loop-cycle-init g c =
    let first = c.args.blocks.now in
    let on = c.requires.start in
    record {
      now = on.now;
      busy = on.busy;
      within = on.within;
      from = c.new-window.ensures.from;
      kept = c.new-window.ensures.kept first.config first.program (sym c.requires.net.is);
    }

pub cycle-requires : goal.cycle-requires
cycle-requires g c =
    let first = c.args.blocks.now in
    let cycles = c.cycles-most.ensures.value ∙ ap (λ (t : Settings). t.cycles) c.config.ensures in
    let now = c.loop-cycle.invariant in
    rw (done_after first.config first.program c.loop-cycle.cycle c.loop-cycle.blocks now.now.state) (omega (arith, cycles, now.within, c.cycles-most.ensures.range.1))

pub note_cycle-requires : goal.note_cycle-requires
note_cycle-requires g c =
    let first = c.args.blocks.now in
    let cycles = c.cycles-most.ensures.value ∙ ap (λ (t : Settings). t.cycles) c.config.ensures in
    let now = c.loop-cycle.invariant in
    let n = c.loop-cycle.cycle in
    let from = c.args.from in
    record {
      one = one_next first.config first.program n from c.loop-cycle.blocks c.cycle.new.self c.loop-cycle.table c.loop-cycle.window now.now c.cycle.ensures now.from;
      net = net_next first.config first.program n from c.loop-cycle.blocks c.cycle.new.self c.loop-cycle.table c.loop-cycle.window now.now c.cycle.ensures now.from c.requires.net;
      run = run_next first.config first.program n from c.loop-cycle.blocks c.cycle.new.self c.loop-cycle.table c.loop-cycle.window now.now c.cycle.ensures now.from;
      order = omega (arith, now.from, c.loop-cycle.auto.cycle);
      early = omega (arith, cycles, now.within, c.cycles-most.ensures.range.1);
      kept = kept_next first.config first.program n from c.loop-cycle.blocks c.cycle.new.self c.loop-cycle.table c.loop-cycle.window now.now c.cycle.ensures now.from now.kept;
      table = table_next first.config first.program n from c.loop-cycle.blocks c.cycle.new.self c.loop-cycle.table c.loop-cycle.window now.now c.cycle.ensures now.from;
    }

pub returns-then-is_some : goal.returns-then-is_some
returns-then-is_some g c =
    let first = c.args.blocks.now in
    let s = first.config in
    let p = first.program in
    let cycles = c.cycles-most.ensures.value ∙ ap (λ (t : Settings). t.cycles) c.config.ensures in
    let inv = c.loop-cycle.invariant in
    let n = c.loop-cycle.cycle in
    let from = c.args.from in
    let old = c.loop-cycle.blocks in
    let b = c.cycle.new.self in
    let made = c.cycle.ensures in
    let noted = c.note_cycle.ensures in
    let quiet = quiet_next s p n from old b c.loop-cycle.table c.loop-cycle.window inv.now made inv.from in
    let limit : (n + 1 == s.cycles) ≡ (n + 1 == c.cycles-most.result) = ap (λ m. n + 1 == m) (sym cycles) in
    let ended = c.end_of-ended.ensures in
    let P : Option Bool → Type 0 = λ o. IsSome o in
    let some = sym c.if-is_some.ensures in
    let over = over_is s p from n inv.busy inv.within (is_quiet b.machine) (n + 1 == c.cycles-most.result) quiet limit (subst P ended some) in
    record {
      now = next_now s p n old b c.loop-cycle.table c.note_cycle.new.table inv.now made noted.table;
      begins = noted.from ∙ inv.from;
      further = omega (arith, c.loop-cycle.auto.cycle);
      to = omega (arith, over, c.loop-cycle-test.true, c.min.ensures);
      kept = kept_done s p n from old b c.loop-cycle.table c.loop-cycle.window inv.now made inv.from c.note_cycle.new.self noted.kept;
      ended = ap ended_if ended ∙ ending_is s p from n inv.busy inv.within (is_quiet b.machine) (n + 1 == c.cycles-most.result) quiet limit;
      on = λ none. absurd (not_none _ some none);
      last = λ some. sym over;
    }

pub loop-cycle-preserved : goal.loop-cycle-preserved
loop-cycle-preserved g c =
    let first = c.args.blocks.now in
    let s = first.config in
    let p = first.program in
    let cycles = c.cycles-most.ensures.value ∙ ap (λ (t : Settings). t.cycles) c.config.ensures in
    let inv = c.loop-cycle.invariant in
    let n = c.loop-cycle.cycle in
    let from = c.args.from in
    let old = c.loop-cycle.blocks in
    let b = c.cycle.new.self in
    let made = c.cycle.ensures in
    let noted = c.note_cycle.ensures in
    let quiet = quiet_next s p n from old b c.loop-cycle.table c.loop-cycle.window inv.now made inv.from in
    let limit : (n + 1 == s.cycles) ≡ (n + 1 == c.cycles-most.result) = ap (λ m. n + 1 == m) (sym cycles) in
    let none = none_is _ (sym c.if-is_some.ensures) in
    let on = on_is s p from n inv.busy inv.within (is_quiet b.machine) (n + 1 == c.cycles-most.result) quiet limit (sym c.end_of-ended.ensures ∙ none) in
    record {
      now = next_now s p n old b c.loop-cycle.table c.note_cycle.new.table inv.now made noted.table;
      busy = on.0;
      within = on.1;
      from = noted.from ∙ inv.from;
      kept = kept_done s p n from old b c.loop-cycle.table c.loop-cycle.window inv.now made inv.from c.note_cycle.new.self noted.kept;
    }

pub returns : goal.returns
returns g c =
    let first = c.args.blocks.now in
    let s = first.config in
    let p = first.program in
    let cycles = c.cycles-most.ensures.value ∙ ap (λ (t : Settings). t.cycles) c.config.ensures in
    let inv = c.loop-cycle.invariant in
    let n = c.loop-cycle.cycle in
    let from = c.args.from in
    let every = c.args.every in
    let w = c.loop-cycle.window in
    let blocks = c.loop-cycle.blocks in
    let table = c.loop-cycle.table in
    let beyond = count_beyond s p n inv.busy inv.within in
    let within = c.requires.start.within in
    let end : n ≡ from + c.min.result = omega (arith, c.loop-cycle.auto.cycle-end (omega arith), c.loop-cycle-test.false) in
    let far : n ≡ from + every = omega (arith, end, c.min.ensures, inv.within, cycles) in
    let P : ℕ → Type 0 = λ k. IsWindowRun s p from every blocks table record { window = w; to = k; ended = None } in
    let here : P n = record {
      now = inv.now;
      begins = inv.from;
      further = omega (arith, far, c.requires.some);
      to = omega (arith, far, beyond);
      kept = inv.kept;
      ended = sym (not_ended s p from n (omega (arith, beyond)));
      on = λ none. record { now = inv.now; busy = inv.busy; within = inv.within };
      last = λ some. absurd (no_end None refl some);
    } in
    subst P end here
