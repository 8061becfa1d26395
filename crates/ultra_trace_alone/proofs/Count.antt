-- how many cycles a trace has
use Rattle.std.proofs.Common.{ℕ, zero, suc, ◌≡◌, ◌+◌, ◌-◌, ◌≤◌, ◌<◌, ◌⊎◌, inl, inr, List, [], ◌++◌, append-nil, Bool, true, false, ◌||◌, Option, Some, None, refl, sym, ◌∙◌, ap, subst, arith, add-one}
use Rattle.std.specs.{List.{find, range_with_len, flat_map}, Option.unwrap_or}
use Rattle.std.proofs.lemmas.{Bool.cases_lt, List.Concat.flat_map-append}
use Rattle.ultra_isa.specs.declared.Instr.{Instr}
use Rattle.ultra_model.specs.{Machine.{Settings, Machine, start, is_quiet}, Trace.{by_number, cycle_count}}
use Rattle.ultra_block.specs.State.{BlocksState}
use Rattle.ultra_model.specs.Phases.{after, cycle, reply_phase, memory_phase, request_phase, processor_phase}
use Rattle.ultra_io.specs.{declared.text_buffer.TextBuffer.TextBuffer, TextBuffer.{Writes, WritesPrefix}}
use Rattle.ultra_trace_alone.specs.{BlocksAfter.IsAfter, RunText.{TextPieces, cycles_for, cycles_until, most_for}}
use Rattle.ultra_io.proofs.Writing.{writes_failed}
use Rattle.ultra_holders.proofs.Skipped.{range_parts}
use Rattle.ultra_trace_text.proofs.Numbered.{by_number_more, writes_number}

-- ---- the first number of a range that passes a test
module _ (test : ℕ → Bool) where
  none_found : (a n : ℕ) → ((j : ℕ) → a ≤ j → j < a + n → test j ≡ false) → find test (range_with_len a n) ≡ None
  none_found a zero h = refl
  none_found a (suc n) h = let rest = none_found (a + 1) n in grind arith

  found : (a n k : ℕ) → a ≤ k → k < a + n → test k ≡ true → ((j : ℕ) → a ≤ j → j < k → test j ≡ false) → find test (range_with_len a n) ≡ Some k
  found a zero k p q t h = absurd (omega arith)
  found a (suc n) k p q t h = let rest = found (a + 1) n k in grind arith

  found_beyond : (a n b k : ℕ) → k ≤ b → k ≤ a + n → ((j : ℕ) → a ≤ j → j < k → test j ≡ false) → k ≤ unwrap_or (find test (range_with_len a n)) b
  found_beyond a zero b k p q h = p
  found_beyond a (suc n) b k p q h = let rest = found_beyond (a + 1) n b k in grind arith

-- ---- the machine after n cycles
module _ (c : Settings) (program : List Instr) where
  pub after_none : after c program 0 ≡ start c
  unfolding after
  after_none = refl

  pub after_next : (n : ℕ) → after c program (n + 1) ≡ cycle c program (after c program n)
  unfolding after
  after_next n = rw add-one refl

  pub cycles_next : (m : Machine) → (cycle c program m).cycles ≡ m.cycles + 1
  unfolding cycle reply_phase memory_phase request_phase processor_phase
  cycles_next m = refl

  pub cycles_after : (n : ℕ) → (after c program n).cycles ≡ n
  unfolding after start
  cycles_after zero = refl
  cycles_after (suc n) = grind (arith, cycles_next, cycles_after n)

-- ---- the blocks after n cycles
module _ (c : Settings) (program : List Instr) (n : ℕ) where
  -- a cycle more
  pub next_after : (old new : BlocksState) → IsAfter c program n old → new ≡ record old { machine = cycle old.config old.program old.machine } → IsAfter c program (n + 1) new
  next_after old new a made = grind (arith, after_next)

  pub done_after : (b : BlocksState) → IsAfter c program n b → b.machine.cycles ≡ n
  done_after b a = grind (arith, cycles_after)

  pub quiet_after : (b : BlocksState) → IsAfter c program n b → is_quiet (after c program n) ≡ is_quiet b.machine
  quiet_after b a = ap (λ m. is_quiet m) (sym a.state)

  -- what holds of the settings and of the program, holds of those of the blocks, and the other way round
  pub of_blocks : (P : Settings → List Instr → Type 0) (b : BlocksState) → IsAfter c program n b → P c program → P b.config b.program
  of_blocks P b a p = rw (a.settings, a.instructions) p

  pub of_settings : (P : Settings → List Instr → Type 0) (b : BlocksState) → IsAfter c program n b → P b.config b.program → P c program
  of_settings P b a p = rw (a.settings, a.instructions) at p

  pub own_after : (b : BlocksState) → IsAfter c program n b → IsAfter b.config b.program n b
  own_after b a = record { settings = refl; instructions = refl; state = of_blocks (λ d p. b.machine ≡ after d p n) b a a.state }

-- where the machine is busy after n cycles, from the first on
abbrev pub IsBusy : Settings → List Instr → ℕ → Type 0
IsBusy c program n = (j : ℕ) → 1 ≤ j → j ≤ n → is_quiet (after c program j) ≡ false

module _ (c : Settings) (program : List Instr) where
  pub busy_none : IsBusy c program 0
  busy_none = grind arith

  pub busy_more : (n : ℕ) → IsBusy c program n → is_quiet (after c program (n + 1)) ≡ false → IsBusy c program (n + 1)
  busy_more n h b = grind arith

  -- the trace ends where the machine is quiet first
  pub count_quiet : (n : ℕ) → IsBusy c program n → n < c.cycles → is_quiet (after c program (n + 1)) ≡ true → cycle_count c program ≡ n + 1
  unfolding cycle_count
  count_quiet n h p q =
      let is = found (λ k. is_quiet (after c program k)) 1 c.cycles (n + 1) (omega arith) (omega arith) q in
      grind arith

  -- and else with the last cycle that the settings allow
  pub count_limit : IsBusy c program c.cycles → cycle_count c program ≡ c.cycles
  unfolding cycle_count
  count_limit h = grind (arith, none_found)

  -- it has each cycle before which the machine was busy
  count_beyond : (n : ℕ) → IsBusy c program n → n < c.cycles → n + 1 ≤ cycle_count c program
  unfolding cycle_count
  count_beyond n h p = grind (arith, found_beyond)

  -- so it is where not all are made
  made_quiet : (last : Option ℕ) (n : ℕ) → IsBusy c program n → n < most_for c last → is_quiet (after c program (n + 1)) ≡ true → cycles_for c program last ≡ n + 1
  made_quiet None n h p q = count_quiet n h p q
  made_quiet (Some last) n h p q = let count = count_quiet n h (omega arith) q in omega arith

  made_limit : (last : Option ℕ) (n : ℕ) → n ≡ most_for c last → IsBusy c program n → n ≡ cycles_for c program last
  made_limit None n e h = let all = count_limit (rw e at h) in omega arith
  made_limit (Some last) n e h =
      elim (cases_lt last c.cycles) [
        | inl few ↦ let beyond = count_beyond last (grind (arith, h)) few in omega arith
        | inr all ↦ let count = count_limit (grind (arith, h)) in omega arith
      ]

  made_beyond : (last : Option ℕ) (n : ℕ) → IsBusy c program n → n < most_for c last → n + 1 ≤ cycles_for c program last
  made_beyond None n h p = count_beyond n h p
  made_beyond (Some last) n h p = let beyond = count_beyond n h (omega arith) in omega arith

-- ---- the first lines of all
pub first_lines : (line : ℕ → List ℕ) (n m : ℕ) → n ≤ m → (rest : List ℕ) × (by_number m line ≡ by_number n line ++ rest)
first_lines line n m h =
    let k : ℕ = m - n in
    let parts = range_parts 0 n k m (omega arith) in
    (flat_map line (range_with_len (0 + n) k), ap (flat_map line) parts ∙ flat_map-append line (range_with_len 0 n) (range_with_len (0 + n) k))

-- where nothing is written of later cycles, these needn't be made
silent : (line : ℕ → List ℕ) (n k : ℕ) → ((j : ℕ) → n ≤ j → line j ≡ []) → by_number (n + k) line ≡ by_number n line
silent line n zero h = ap (λ j. by_number j line) (omega arith)
silent line n (suc k) h =
    let next : n + suc k ≡ (n + k) + 1 = omega arith in
    ap (λ j. by_number j line) next
    ∙ by_number_more (n + k) line
    ∙ ap (λ text. by_number (n + k) line ++ text) (h (n + k) (omega arith))
    ∙ append-nil (by_number (n + k) line)
    ∙ silent line n k h

pub nothing_behind : (c : Settings) (program : List Instr) (last : ℕ) (line : ℕ → List ℕ) → ((k : ℕ) → last < k → line k ≡ []) → by_number (cycles_until c program last) line ≡ by_number (cycle_count c program) line
nothing_behind c program last line h = elim (cases_lt last (cycle_count c program)) [
  | inl behind ↦
      let count : (last + 1) + (cycle_count c program - (last + 1)) ≡ cycle_count c program = omega arith in
      let made : cycles_until c program last ≡ last + 1 = omega arith in
      ap (λ n. by_number n line) made
      ∙ sym (silent line (last + 1) (cycle_count c program - (last + 1)) (λ j far. h j (omega arith)))
      ∙ ap (λ n. by_number n line) count
  | inr all ↦ ap (λ n. by_number n line) (omega arith)
]

-- ---- what has been written at the end, and the machine then
one_of : (a b : Bool) → (a || b) ≡ true → (a ≡ true) ⊎ (b ≡ true)
one_of a b h = grind arith

pub not_second : (a b : Bool) → (a || b) ≡ false → b ≡ false
not_second a b h = grind arith

module _ (c : Settings) (program : List Instr) (last : Option ℕ) (lines : ℕ → List ℕ) where
  all_written : (n : ℕ) {S : Type 0} {taken : S → List ℕ} {failures : S → ℕ} {s t : TextBuffer S} → cycles_for c program last ≡ n → Writes taken failures (by_number n lines) s t → Writes taken failures (by_number (cycles_for c program last) lines) s t
  all_written n e w = rw e w

  module _ (n : ℕ) where
    -- after a fault the cycles that are missing don't matter
    missing_cycles : {S : Type 0} {taken : S → List ℕ} {failures : S → ℕ} {s t : TextBuffer S} → IsBusy c program n → n < most_for c last → t.failed ≡ true → Writes taken failures (by_number (n + 1) lines) s t → Writes taken failures (by_number (cycles_for c program last) lines) s t
    missing_cycles h p f w =
        let first = first_lines lines (n + 1) (cycles_for c program last) (made_beyond c program last n h p) in
        rw first.1 (writes_failed first.0 f w)

    -- the cycles so far are the first of the trace
    pub first_written : {S : Type 0} {taken : S → List ℕ} {failures : S → ℕ} {s t : TextBuffer S} → IsBusy c program n → n < most_for c last → Writes taken failures (by_number n lines) s t → WritesPrefix taken failures (by_number (cycles_for c program last) lines) s t
    first_written h p w =
        let beyond = made_beyond c program last n h p in
        let first = first_lines lines n (cycles_for c program last) (omega (arith, beyond)) in
        (by_number n lines, (first.0, sym first.1), w)

module _ (c : Settings) (program : List Instr) where
  -- the lines of a cycle more
  pub cycle_written : (t : TextPieces) (n : ℕ) (b : BlocksState) → IsAfter c program (n + 1) b → (now : TextPieces) → now ≡ t → {S : Type 0} {taken : S → List ℕ} {failures : S → ℕ} {s u v : TextBuffer S} → Writes taken failures (by_number n (t.lines c program)) s u → Writes taken failures (now.lines b.config b.program n) u v → Writes taken failures (by_number (n + 1) (t.lines c program)) s v
  cycle_written t n b a now same {taken = taken} {failures = failures} {u = u} {v = v} begun more =
      writes_number (t.lines c program) n begun (subst (λ (x : TextPieces). Writes taken failures (x.lines c program n) u v) same (of_settings c program (n + 1) (λ d p. Writes taken failures (now.lines d p n) u v) b a more))

  -- the closing, behind the last cycle
  pub closing_written : (n : ℕ) (t : TextPieces) (b : BlocksState) → IsAfter c program n b → (now : TextPieces) → now ≡ t → {S : Type 0} {taken : S → List ℕ} {failures : S → ℕ} {s u : TextBuffer S} → Writes taken failures (now.closing b.config b.program) s u → Writes taken failures (t.closing c program) s u
  closing_written n t b a now same {taken = taken} {failures = failures} {s = s} {u = u} written =
      subst (λ (x : TextPieces). Writes taken failures (x.closing c program) s u) same (of_settings c program n (λ d p. Writes taken failures (now.closing d p) s u) b a written)

module _ (c : Settings) (program : List Instr) (last : Option ℕ) (n : ℕ) where
  -- where the machine is quiet or the sink has failed, the cycle was the last
  module _ (b : BlocksState) (a : IsAfter c program (n + 1) b) (h : IsBusy c program n) (p : n < most_for c last) where
    counted : is_quiet b.machine ≡ true → cycles_for c program last ≡ n + 1
    counted q = made_quiet c program last n h p (quiet_after c program (n + 1) b a ∙ q)

    pub last_written : (lines : ℕ → List ℕ) {S : Type 0} {taken : S → List ℕ} {failures : S → ℕ} {s t : TextBuffer S} → (is_quiet b.machine || t.failed) ≡ true → Writes taken failures (by_number (n + 1) lines) s t → Writes taken failures (by_number (cycles_for c program last) lines) s t
    last_written lines {t = t} over w = elim (one_of (is_quiet b.machine) t.failed over) [
      | inl q ↦ all_written c program last lines (n + 1) (counted q) w
      | inr f ↦ missing_cycles c program last lines n h p f w
    ]

    pub last_count : (failed : Bool) → (is_quiet b.machine || failed) ≡ true → failed ≡ false → n + 1 ≡ cycles_for c program last
    last_count failed over f = grind (arith, counted)

    -- and else it goes on
    pub still_busy : (failed : Bool) → (is_quiet b.machine || failed) ≡ false → IsBusy c program (n + 1)
    still_busy failed over = grind (arith, busy_more, quiet_after)

  -- where no more may be made, that was the last
  module _ (all : n ≡ most_for c last) (h : IsBusy c program n) where
    pub limit_count : n ≡ cycles_for c program last
    limit_count = made_limit c program last n all h

    pub limit_written : (lines : ℕ → List ℕ) {S : Type 0} {taken : S → List ℕ} {failures : S → ℕ} {s t : TextBuffer S} → Writes taken failures (by_number n lines) s t → Writes taken failures (by_number (cycles_for c program last) lines) s t
    limit_written lines w = all_written c program last lines n (sym limit_count) w
