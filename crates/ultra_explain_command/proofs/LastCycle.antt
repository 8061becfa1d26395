-- nothing is served after the last cycle of the trace
use Rattle.std.proofs.Common.{ℕ, zero, suc, ◌≡◌, ◌+◌, ◌<◌, ◌⊎◌, inl, inr, Bool, true, false, Some, cond, refl, sym, ap, arith, ⊎_elim}
use Rattle.std.specs.{Prelude.List, List.{find, range_with_len}, Option.unwrap_or}
use Rattle.ultra_isa.specs.declared.Instr.{Instr}
use Rattle.ultra_model.specs.{Machine.{Settings, is_quiet}, Phases.after, Trace.cycle_count}
use Rattle.ultra_serial_law.specs.SerialList.{serial_list}
use Rattle.ultra_serial.proofs.Advancing.{quiet_list}
use Rattle.ultra_explain_command.specs.Explanation.{lines_of_first}
use Rattle.ultra_explain_command.proofs.Runs.{quiet_lines}

-- the number is the default, or it is below the end of the range and passes the test
abbrev IsFirst : (ℕ → Bool) → ℕ → ℕ → ℕ → Type 0
IsFirst test end default k = (k ≡ default) ⊎ ((k < end) × (test k ≡ true))

first_in : (test : ℕ → Bool) (a n default : ℕ) → IsFirst test (a + n) default (unwrap_or (find test (range_with_len a n)) default)
first_in test a zero default = inl refl
first_in test a (suc n) default = by_test (test a) refl (first_in test (a + 1) n default)
  where
    by_test : (b : Bool) → test a ≡ b → IsFirst test (a + 1 + n) default (unwrap_or (find test (range_with_len (a + 1) n)) default) → IsFirst test (a + suc n) default (unwrap_or (cond b (Some a) (find test (range_with_len (a + 1) n))) default)
    by_test true passes later = inr (omega arith, passes)
    by_test false fails (inl e) = inl e
    by_test false fails (inr h) = inr (omega (arith, h.0), h.1)

module _ (c : Settings) (program : List Instr) where
  -- the trace has all cycles that the settings allow, or the machine is quiet after its last one
  count_ends : IsFirst (λ n. is_quiet (after c program n)) (1 + c.cycles) c.cycles (cycle_count c program)
  unfolding cycle_count
  count_ends = first_in (λ n. is_quiet (after c program n)) 1 c.cycles c.cycles

  pub list_of_all_cycles : serial_list c program (cycle_count c program) ≡ serial_list c program c.cycles
  list_of_all_cycles =
      ⊎_elim (λ e. ap (λ n. serial_list c program n) e)
      (λ h. quiet_list c program (cycle_count c program) c.cycles (omega (arith, h.0)) h.1) count_ends

  pub whole_lines : lines_of_first c program (cycle_count c program) ≡ lines_of_first c program c.cycles
  whole_lines =
      ⊎_elim (λ e. ap (λ n. lines_of_first c program n) e)
      (λ h. sym (quiet_lines c program (cycle_count c program) c.cycles (omega (arith, h.0)) h.1)) count_ends
