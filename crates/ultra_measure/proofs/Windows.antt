-- a run, window by window
use Rattle.std.proofs.Common.{ℕ, zero, suc, ◌≡◌, ◌+◌, ◌*◌, ◌-◌, ◌≤◌, ◌<◌, inl, inr, Bool, true, false, nat_lt, List, [], ◌++◌, refl, sym, ◌∙◌, ap, subst, min, append-nil, arith}
use Rattle.std.specs.{Prelude.{Some, None, IsSome}, List.{find, range_with_len}, Option.unwrap_or, Fmt.digits}
use Rattle.std.proofs.{Math.Nat.div-eq_of_lt-le, lemmas.{Bool.{cases_lt, cond-false, cond-true, Decides.nat_tests}, Nat.le-div}}
use Rattle.ultra_isa.specs.declared.Instr.{Instr}
use Rattle.ultra_io.specs.{declared.text_buffer.TextBuffer.TextBuffer, TextBuffer.Writes}
use Rattle.ultra_io.proofs.Writing.{writes_failed}
use Rattle.ultra_model.specs.{Machine.{Settings, is_quiet, start}, Phases.{after, cycle}, Trace.{by_number, cycle_count}}
use Rattle.ultra_block.specs.State.{BlocksState}
use Rattle.ultra_latency.specs.{declared.open.OpenTable.OpenTable, Open.IsOpenTable}
use Rattle.ultra_trace_alone.specs.{BlocksAfter.IsAfter, RunText.{cycles_until, most_for}}
use Rattle.ultra_trace_alone.proofs.Count.{after_none, next_after, quiet_after, first_lines}
use Rattle.ultra_trace_text.proofs.Numbered.{writes_number}
use Rattle.ultra_measure.specs.{declared.{window.Window.Window, columns.Form.{Form, TheVariants.{Lines, Values, JobValues}}, measuring.{Layout.Layout, WindowRun.WindowRun}}, Columns.{measures, ending}, Kept.{IsAfterCycle, IsKept}, Nets.IsNetOf, Rows.{row_text, ended_if}, Running.{AreAfter, IsOn, IsWindowRun}}
use Rattle.ultra_measure.specs.Texts.{all_names, window_of, window_count, job_rows, measure_lines, measure_table, measure_text, measured, names_line}
use Rattle.ultra_measure.proofs.Ends.{count_beyond}

module _ (c : Settings) (program : List Instr) where
  -- ---- the settings and the program of blocks are those of the run
  module _ (k : ℕ) (b : BlocksState) (a : IsAfter c program k b) where
    pub kept_in : (from to : ℕ) (w : Window) → IsKept c program from to w → IsKept b.config b.program from to w
    kept_in from to w kept = subst (λ s. IsKept s b.program from to w) (sym a.settings) (subst (λ p. IsKept c p from to w) (sym a.instructions) kept)

    pub kept_of : (from to : ℕ) (w : Window) → IsKept b.config b.program from to w → IsKept c program from to w
    kept_of from to w kept = subst (λ p. IsKept c p from to w) a.instructions (subst (λ s. IsKept s b.program from to w) a.settings kept)

    pub table_in : (n : ℕ) (t : OpenTable) → IsOpenTable c program n t → IsOpenTable b.config b.program n t
    table_in n t is = subst (λ s. IsOpenTable s b.program n t) (sym a.settings) (subst (λ p. IsOpenTable c p n t) (sym a.instructions) is)

    pub table_of : (n : ℕ) (t : OpenTable) → IsOpenTable b.config b.program n t → IsOpenTable c program n t
    table_of n t is = subst (λ p. IsOpenTable c p n t) a.instructions (subst (λ s. IsOpenTable s b.program n t) a.settings is)

    pub ending_in : (from to : ℕ) → ending b.config b.program from to ≡ ending c program from to
    ending_in from to = ap (λ s. ending s b.program from to) a.settings ∙ ap (λ p. ending c p from to) a.instructions

    pub measures_in : (from to : ℕ) → measures b.config b.program from to ≡ measures c program from to
    measures_in from to = ap (λ s. measures s b.program from to) a.settings ∙ ap (λ p. measures c p from to) a.instructions

    pub run_of : (from every : ℕ) (now : BlocksState) (table : OpenTable) (r : WindowRun) → IsWindowRun b.config b.program from every now table r → IsWindowRun c program from every now table r
    run_of from every now table r ran = subst (λ p. IsWindowRun c p from every now table r) a.instructions (subst (λ s. IsWindowRun s b.program from every now table r) a.settings ran)

    pub on_in : (n : ℕ) (table : OpenTable) → IsOn c program n b table → IsOn b.config b.program n b table
    on_in n table on = subst (λ s. IsOn s b.program n b table) (sym a.settings) (subst (λ p. IsOn c p n b table) (sym a.instructions) on)

  pub after_cycle : (n : ℕ) (b : BlocksState) → IsAfter c program (n + 1) b → IsAfterCycle n b
  after_cycle n b a = a.state ∙ sym (ap (λ s. after s b.program (n + 1)) a.settings ∙ ap (λ p. after c p (n + 1)) a.instructions)

  -- a cycle more
  pub next_now : (n : ℕ) (old new : BlocksState) (before table : OpenTable) → AreAfter c program n old before → new ≡ record old { machine = cycle old.config old.program old.machine } → IsOpenTable new.config new.program (n + 1) table → AreAfter c program (n + 1) new table
  next_now n old new before table now made is =
      let state = next_after c program n old new now.state made in
      record {
        one = ap (λ (b : BlocksState). b.count) made ∙ now.one;
        state = state;
        table = table_of (n + 1) new state (n + 1) table is;
      }

  -- ---- a cycle is noted
  module _ (n from : ℕ) (old b : BlocksState) (before : OpenTable) (w : Window) (now : AreAfter c program n old before) (made : b ≡ record old { machine = cycle old.config old.program old.machine }) (start : w.from ≡ from) where
    state_next : IsAfter c program (n + 1) b
    state_next = next_after c program n old b now.state made

    pub one_next : b.count ≡ 1
    one_next = ap (λ (x : BlocksState). x.count) made ∙ now.one

    pub net_next : {small : Bool} {net : ℕ} → IsNetOf small net c → IsNetOf small net b.config
    net_next {small} {net} is = subst (IsNetOf small net) (sym state_next.settings) is

    pub run_next : IsAfterCycle n b
    run_next = after_cycle n b state_next

    pub kept_next : IsKept c program from n w → IsKept b.config b.program w.from n w
    kept_next kept = kept_in (n + 1) b state_next w.from n w (subst (λ f. IsKept c program f n w) (sym start) kept)

    pub table_next : IsOpenTable b.config b.program n before
    table_next = table_in (n + 1) b state_next n before now.table

    pub kept_done : (x : Window) → IsKept b.config b.program w.from (n + 1) x → IsKept c program from (n + 1) x
    kept_done x noted = subst (λ f. IsKept c program f (n + 1) x) start (kept_of (n + 1) b state_next w.from (n + 1) x noted)

    pub quiet_next : is_quiet (after c program (n + 1)) ≡ is_quiet b.machine
    quiet_next = quiet_after c program (n + 1) b state_next

  -- ---- texts of windows, from a cycle to another
  module _ (form : Form) (first last e : ℕ) (some : 1 ≤ e) where
    abbrev pub row : ℕ → List ℕ
    row k = row_text form (window_of c program first last e k)

    abbrev pub made : ℕ
    made = cycles_until c program last

    -- the window that begins k times e cycles behind the first, as far as it goes
    pub row_is : (k from to : ℕ) → from ≡ first + k * e → to ≡ min (from + e) made → row_text form (measures c program from to) ≡ row k
    row_is k from to start end =
        let close : to ≡ min (first + (k + 1) * e) made = end ∙ ap (λ n. min n made) (omega (arith, start)) in
        ap (λ n. row_text form (measures c program n to)) start ∙ ap (λ n. row_text form (measures c program (first + k * e) n)) close

    -- a window that begins before the end is one of all
    count_past : (k : ℕ) → first + k * e < made → k + 1 ≤ window_count c program first last e
    count_past k low = le-div (k + 1) (made - first + e - 1) e some (omega (arith, some, low))

    -- as many windows as reach the end are all
    pub count_is : (k : ℕ) → k * e + 1 ≤ made - first + e → made ≤ first + k * e → window_count c program first last e ≡ k
    count_is k low high = div-eq_of_lt-le e (omega (arith, some, low)) (omega (arith, some, high))

    module _ {S : Type 0} {taken : S → List ℕ} {failures : S → ℕ} {s t : TextBuffer S} where
      pub put_all : (k : ℕ) → k * e + 1 ≤ made - first + e → made ≤ first + k * e → Writes taken failures (by_number k row) s t → Writes taken failures (by_number (window_count c program first last e) row) s t
      put_all k low high written = subst (λ n. Writes taken failures (by_number n row) s t) (sym (count_is k low high)) written

      -- after a fault the windows that are missing don't matter
      pub put_failed : (k : ℕ) → first + k * e < made → t.failed ≡ true → Writes taken failures (by_number (k + 1) row) s t → Writes taken failures (by_number (window_count c program first last e) row) s t
      put_failed k low failed written =
          let firsts = first_lines row (k + 1) (window_count c program first last e) (count_past k low) in
          subst (λ text. Writes taken failures text s t) (sym firsts.1) (writes_failed firsts.0 failed written)

    -- where the end isn't behind the first cycle, there is none
    pub none_are : made ≤ first → by_number (window_count c program first last e) row ≡ []
    none_are high = ap (λ n. by_number n row) (count_is 0 (omega (arith, some)) (omega (arith, high)))

  -- the names are the same for all runs
  pub names_are : (from to : ℕ) → all_names ≡ names_line (measures c program from to)
  unfolding all_names measures digits
  names_are from to = refl

  -- ---- the whole texts
  found_within : (test : ℕ → Bool) (a n b : ℕ) → a + n ≤ b + 1 → unwrap_or (find test (range_with_len a n)) b ≤ b
  found_within test a zero b h = omega arith
  found_within test a (suc n) b h = let rest = found_within test (a + 1) n b in grind arith

  pub count_within : cycle_count c program ≤ c.cycles
  unfolding cycle_count
  count_within = found_within (λ n. is_quiet (after c program n)) 1 c.cycles c.cycles (omega arith)

  module _ (first last : ℕ) where
    pub lines_are : (e : ℕ) → 1 ≤ e → c.cycles ≤ e → by_number (window_count c program first last e) (λ k. row_text Lines (window_of c program first last e k)) ≡ measure_text c program first last
    unfolding measure_text
    lines_are e some most = elim (cases_lt first (cycles_until c program last)) [
      | inl low ↦
          let within = count_within in
          let one = count_is Lines first last e some 1 (omega (arith, low)) (omega (arith, within, most)) in
          let close : min (first + (0 + 1) * e) (cycles_until c program last) ≡ cycles_until c program last = omega (arith, within, most) in
          let start : first + 0 * e ≡ first = omega arith in
          let text = measure_lines (measures c program first (cycles_until c program last)) in
          let here : nat_lt first (cycles_until c program last) ≡ true = grind (arith, nat_tests) in
          ap (λ n. by_number n (λ k. row_text Lines (window_of c program first last e k))) one
          ∙ append-nil (row_text Lines (window_of c program first last e 0))
          ∙ ap (λ n. measure_lines (measures c program n (min (first + (0 + 1) * e) (cycles_until c program last)))) start
          ∙ ap (λ n. measure_lines (measures c program first n)) close
          ∙ sym (cond-true (nat_lt first (cycles_until c program last)) text [] here)
      | inr high ↦
          let here : nat_lt first (cycles_until c program last) ≡ false = grind (arith, nat_tests) in
          none_are Lines first last e some high
          ∙ sym (cond-false (nat_lt first (cycles_until c program last)) (measure_lines (measures c program first (cycles_until c program last))) [] here)
    ]

    pub table_is : (e : ℕ) → names_line (window_of c program first last e 0) ++ by_number (window_count c program first last e) (λ k. row_text Values (window_of c program first last e k)) ≡ measure_table c program first last e
    unfolding measure_table
    table_is e = refl

    pub rows_are : (job e : ℕ) → by_number (window_count c program first last e) (λ k. row_text (JobValues job) (window_of c program first last e k)) ≡ job_rows c program first last job e
    unfolding job_rows
    rows_are job e = refl

  -- ---- a window was run, of those to a last cycle
  module _ (form : Form) (first last e : ℕ) (some : 1 ≤ e) (k from : ℕ) (start : from ≡ min (first + k * e) (most_for c (Some last))) (more : from < most_for c (Some last)) (old b : BlocksState) (before table : OpenTable) (r : WindowRun) (on : IsOn c program from old before) (ran : IsWindowRun c program from (min e (most_for c (Some last) - from)) b table r) where
    begins : from ≡ first + k * e
    begins = omega (arith, start, more)

    pub low_is : first + k * e < cycles_until c program last
    low_is = let beyond = count_beyond c program from on.busy on.within in omega (arith, begins, more, beyond)

    pub kept_here : IsKept b.config b.program r.window.from r.to r.window
    kept_here = kept_in r.to b ran.now.state r.window.from r.to r.window (subst (λ f. IsKept c program f r.to r.window) (sym ran.begins) ran.kept)

    pub ended_here : ended_if r.ended ≡ ending b.config b.program r.window.from r.to
    ended_here = ran.ended ∙ ap (λ f. ending c program f r.to) (sym ran.begins) ∙ sym (ending_in r.to b ran.now.state r.window.from r.to)

    ends : r.to ≡ min (from + e) (cycles_until c program last)
    ends = let within = count_within in omega (arith, ran.to, more, within)

    text_is : row_text form (measures b.config b.program r.window.from r.to) ≡ row form first last e some k
    text_is =
        ap (row_text form) (measures_in r.to b ran.now.state r.window.from r.to)
        ∙ ap (λ f. row_text form (measures c program f r.to)) ran.begins
        ∙ row_is form first last e some k from r.to begins ends

    pub text_more : {S : Type 0} {taken : S → List ℕ} {failures : S → ℕ} {s t u : TextBuffer S} → Writes taken failures (by_number k (row form first last e some)) s t → Writes taken failures (row_text form (measures b.config b.program r.window.from r.to)) t u → Writes taken failures (by_number (k + 1) (row form first last e some)) s u
    text_more {taken = taken} {failures = failures} {t = t} {u = u} so_far here =
        writes_number (row form first last e some) k so_far (subst (λ text. Writes taken failures text t u) text_is here)

    -- one more window is reached
    pub reached : (k + 1) * e + 1 ≤ cycles_until c program last - first + e
    reached = omega (arith, low_is)

    -- the run ended with it
    pub high_is : IsSome r.ended → cycles_until c program last ≤ first + (k + 1) * e
    high_is over = let all = ran.last over in omega (arith, begins, ran.to, all)

    -- or the next one begins behind it, if there is one
    pub next_start : r.ended ≡ None → r.to ≡ min (first + (k + 1) * e) (most_for c (Some last))
    next_start none =
        let goes = ran.on none in
        let beyond = count_beyond c program r.to goes.busy goes.within in
        omega (arith, begins, more, ran.to, beyond)

  -- no cycle is left that is asked for
  pub none_left : (first last e k from : ℕ) → from ≡ min (first + k * e) (most_for c (Some last)) → most_for c (Some last) ≤ from → (old : BlocksState) (before : OpenTable) → IsOn c program from old before → cycles_until c program last ≤ first + k * e
  none_left first last e k from start over old before on =
      let beyond = count_beyond c program from on.busy on.within in
      let within = on.within in
      omega (arith, start, over, beyond, within)

-- ---- at the start, in one block
module _ (c : Settings) (program : List Instr) (b : BlocksState) (partition : List ℕ) (is : b ≡ record { config = c; program = program; partition = partition; count = 1; machine = start c }) where
  settings_are : b.config ≡ c
  settings_are = ap (λ (x : BlocksState). x.config) is

  pub fresh_are : (table : OpenTable) → ((p : List Instr) → IsOpenTable c p 0 table) → AreAfter b.config b.program 0 b table
  fresh_are table empty = record {
    one = ap (λ (x : BlocksState). x.count) is;
    state = record {
      settings = refl;
      instructions = refl;
      state = ap (λ (x : BlocksState). x.machine) is ∙ ap start (sym settings_are) ∙ sym (after_none b.config b.program);
    };
    table = subst (λ s. IsOpenTable s b.program 0 table) (sym settings_are) (empty b.program);
  }

  pub measured_is : (from to : ℕ) (layout : Layout) → measured b.config b.program from to layout ≡ measured c program from to layout
  measured_is from to layout = ap (λ s. measured s b.program from to layout) settings_are ∙ ap (λ p. measured c p from to layout) (ap (λ (x : BlocksState). x.program) is)
