-- where a run that is cut off ends
use Rattle.std.proofs.Common.{ℕ, true, ◌≡◌, ◌+◌, ◌≤◌, ◌<◌, ◌⊎◌, inl, inr, List, min, subst, arith}
use Rattle.ultra_isa.specs.declared.Instr.{Instr}
use Rattle.ultra_model.specs.{Machine.{Settings, is_quiet}, Phases.after}
use Rattle.ultra_trace_alone.proofs.Count.{IsBusy, count_quiet, count_limit}
use Rattle.ultra_measure.proofs.Ends.{count_beyond}
use Rattle.ultra_statistics.specs.Runs.{end_of}

module _ (c : Settings) (program : List Instr) (to n : ℕ) (busy : IsBusy c program n) where
  -- with the machine quiet
  pub end_quiet : n < c.cycles → n ≤ to → is_quiet (after c program (n + 1)) ≡ true → n + 1 ≡ end_of to c program
  end_quiet below early quiet = omega (arith, count_quiet c program n busy below quiet)

  -- or with the last cycle that is allowed
  pub end_limit : n ≡ min c.cycles (to + 1) → n ≡ end_of to c program
  end_limit is = elim (split n c.cycles (omega (arith, is))) [
    | inl less ↦ omega (arith, is, less, count_beyond c program n busy less)
    | inr all ↦ let count = count_limit c program (subst (IsBusy c program) all busy) in omega (arith, is, all, count)
  ]
    where
      split : (a b : ℕ) → a ≤ b → (a < b) ⊎ (a ≡ b)
      split a b h = grind arith
