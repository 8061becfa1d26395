-- where a run ends, and what the window says of it
use Rattle.std.proofs.Common.{ℕ, zero, suc, ◌≡◌, ◌+◌, ◌≤◌, ◌<◌, Bool, true, false, refl, sym, ◌∙◌, ap, subst, arith}
use Rattle.std.proofs.lemmas.Bool.Decides.{nat_tests}
use Rattle.std.specs.Prelude.{Option, Some, None, IsSome, is_some, ◌==◌, List}
use Rattle.std.specs.{List.{find, range_with_len}, Option.unwrap_or}
use Rattle.ultra_isa.specs.declared.Instr.{Instr}
use Rattle.ultra_model.specs.{Machine.{Settings, is_quiet}, Phases.after, Trace.{cycle_count, last_state}}
use Rattle.ultra_trace_alone.proofs.Count.{IsBusy, busy_more, count_quiet, count_limit}
use Rattle.ultra_measure.specs.{Columns.{ending, end_word}, Rows.ended_if, Texts.end_if}

-- where none of the first is found, one is found behind them
found_beyond : (test : ℕ → Bool) (a n b k : ℕ) → k ≤ b → k ≤ a + n → ((j : ℕ) → a ≤ j → j < k → test j ≡ false) → k ≤ unwrap_or (find test (range_with_len a n)) b
found_beyond test a zero b k p q h = p
found_beyond test a (suc n) b k p q h = let rest = found_beyond test (a + 1) n b k in grind arith

itself : (a : ℕ) → (a == a) ≡ true
itself a = grind (arith, nat_tests)

apart : (a b : ℕ) → a < b → (a == b) ≡ false
apart a b h = grind (arith, nat_tests)

pub none_is : {X : Type 0} (o : Option X) → is_some o ≡ false → o ≡ None
none_is None h = refl
none_is (Some x) h = cc

pub not_none : {X : Type 0} (o : Option X) → is_some o ≡ true → o ≡ None → ⊥
not_none None h e = cc
not_none (Some x) h e = cc

pub no_end : (o : Option Bool) → o ≡ None → is_some o ≡ true → ⊥
no_end o e h = not_none o h e

module _ (c : Settings) (program : List Instr) where
  -- a run has each cycle before which the machine was busy
  pub count_beyond : (n : ℕ) → IsBusy c program n → n < c.cycles → n + 1 ≤ cycle_count c program
  unfolding cycle_count
  count_beyond n h p = found_beyond (λ k. is_quiet (after c program k)) 1 c.cycles c.cycles (n + 1) (omega arith) (omega arith) (λ j from to. h j from (omega arith))

  module _ (from to : ℕ) where
    last_is : cycle_count c program ≡ to → last_state c program ≡ after c program to
    unfolding last_state
    last_is e = ap (after c program) e

    ended_at : (q : Bool) → cycle_count c program ≡ to → is_quiet (after c program to) ≡ q → ending c program from to ≡ Some (end_word q)
    ended_at q e quiet =
        let here : (to == cycle_count c program) ≡ true = ap (λ k. to == k) e ∙ itself to in
        let last : is_quiet (last_state c program) ≡ q = ap (λ m. is_quiet m) (last_is e) ∙ quiet in
        ap (λ b. elim b [ true ↦ Some (end_word (is_quiet (last_state c program))) | false ↦ None ]) here ∙ ap (λ v. Some (end_word v)) last

    pub not_ended : to < cycle_count c program → ending c program from to ≡ None
    not_ended h = ap (λ b. elim b [ true ↦ Some (end_word (is_quiet (last_state c program))) | false ↦ None ]) (apart to (cycle_count c program) h)

  -- ---- after one cycle more
  module _ (from n : ℕ) (busy : IsBusy c program n) (within : n < c.cycles) where
    limit_is : (n + 1 == c.cycles) ≡ true → c.cycles ≡ n + 1
    limit_is h = grind (arith, nat_tests)

    below_limit : (n + 1 == c.cycles) ≡ false → n + 1 < c.cycles
    below_limit h = grind (arith, nat_tests)

    pub ending_is : (q last : Bool) → is_quiet (after c program (n + 1)) ≡ q → (n + 1 == c.cycles) ≡ last → ended_if (end_if q last) ≡ ending c program from (n + 1)
    ending_is true last quiet limit = sym (ended_at from (n + 1) true (count_quiet c program n busy within quiet) quiet)
    ending_is false true quiet limit =
        let all = limit_is limit in
        let count : cycle_count c program ≡ n + 1 = count_limit c program (subst (IsBusy c program) (sym all) (busy_more c program n busy quiet)) ∙ all in
        sym (ended_at from (n + 1) false count quiet)
    ending_is false false quiet limit =
        let beyond = count_beyond (n + 1) (busy_more c program n busy quiet) (below_limit limit) in
        sym (not_ended from (n + 1) (omega (arith, beyond)))

    -- where the run has ended, these are its cycles
    pub over_is : (q last : Bool) → is_quiet (after c program (n + 1)) ≡ q → (n + 1 == c.cycles) ≡ last → IsSome (end_if q last) → cycle_count c program ≡ n + 1
    over_is true last quiet limit over = count_quiet c program n busy within quiet
    over_is false true quiet limit over =
        let all = limit_is limit in
        count_limit c program (subst (IsBusy c program) (sym all) (busy_more c program n busy quiet)) ∙ all
    over_is false false quiet limit over = cc

    -- and else it goes on
    pub on_is : (q last : Bool) → is_quiet (after c program (n + 1)) ≡ q → (n + 1 == c.cycles) ≡ last → end_if q last ≡ None → IsBusy c program (n + 1) × (n + 1 < c.cycles)
    on_is true last quiet limit none = cc
    on_is false true quiet limit none = cc
    on_is false false quiet limit none = (busy_more c program n busy quiet, below_limit limit)
