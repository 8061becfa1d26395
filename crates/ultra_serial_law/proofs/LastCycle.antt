-- the trace ends with the last cycle that the settings allow, or where the machine is quiet; so its
-- last cycle has the history of all cycles that they allow
use Rattle.std.proofs.Common.{◌≡◌, ℕ, zero, suc, ◌+◌, ◌<◌, ◌≤◌, ◌⊎◌, List, Bool, true, false, refl, ap, arith, inl, inr, subst, cond, Option, Some}
use Rattle.std.specs.{List.{find, range_with_len}, Option.unwrap_or}
use Rattle.ultra_isa.specs.declared.Instr.{Instr}
use Rattle.ultra_model.specs.{Machine.{Settings, is_quiet}, Phases.after, Trace.cycle_count}
use Rattle.ultra_serial_law.specs.{Legal.{given, replayed}, SerialList.{History, history, serial_list}}
use Rattle.ultra_serial_law.proofs.Rest.{quiet_history}

-- ---- the first number of a range that passes a test, or d where none does
module _ (test : ℕ → Bool) (d : ℕ) where
  -- what was found is d, or it passes and is below b
  abbrev Passes : ℕ → Option ℕ → Type 0
  Passes b o = (unwrap_or o d ≡ d) ⊎ ((test (unwrap_or o d) ≡ true) × (unwrap_or o d < b))

  passes_first : (a b : ℕ) (t : Bool) (rest : Option ℕ) → test a ≡ t → a < b → Passes b rest → Passes b (cond t (Some a) rest)
  passes_first a b true rest e l h = inr (e, l)
  passes_first a b false rest e l h = h

  found_passes : (a n : ℕ) → Passes (a + n) (find test (range_with_len a n))
  found_passes a zero = inl refl
  found_passes a (suc n) =
      passes_first a (a + suc n) (test a) (find test (range_with_len (a + 1) n)) refl (omega arith)
      (subst (λ b. Passes b (find test (range_with_len (a + 1) n))) (omega arith) (found_passes (a + 1) n))

-- ---- the last cycle of a trace
module _ (c : Settings) (program : List Instr) where
  abbrev pub EndsWell : ℕ → Type 0
  EndsWell n = (n ≡ c.cycles) ⊎ ((n ≤ c.cycles) × (is_quiet (after c program n) ≡ true))

  pub count_ends : EndsWell (cycle_count c program)
  unfolding cycle_count
  count_ends = elim (found_passes (λ n. is_quiet (after c program n)) c.cycles 1 c.cycles) [
    | inl e ↦ inl e
    | inr h ↦ inr (omega (arith, h.1), h.0)
  ]

  history_at : (n : ℕ) → EndsWell n → history c program n ≡ history c program c.cycles
  history_at n (inl e) = ap (λ k. history c program k) e
  history_at n (inr h) = quiet_history c program n c.cycles h.0 h.1

  pub list_at_end : serial_list c program (cycle_count c program) ≡ serial_list c program c.cycles
  list_at_end = ap (λ (h : History). replayed (given c.initial) h.order) (history_at (cycle_count c program) count_ends)
