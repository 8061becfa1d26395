-- a law that every schedule keeps holds after a run
use Rattle.std.proofs.Common.{◌≡◌, ℕ, ◌<◌, Bool, true, false, List, [], ◌&&◌, All, refl, sym, subst}
use Rattle.std.specs.Prelude.{Result, Ok, Err, IfOk, slice_index}
use Rattle.std.proofs.lemmas.Bool.{and_parts}
use Rattle.ultra_isa.specs.declared.Instr.{Instr}
use Rattle.ultra_model.specs.{Machine.{Settings, size, is_empty}, Ranges.AreInRange}
use Rattle.ultra_para.specs.{Para.{start_para, run_para}, ParaState.ParaState}
use Rattle.ultra_colib.specs.{declared.fault.ColibFault.{ColibFault, TheVariants.BadParameter}, Schedules.{CellWords, IsKeptBySchedules}}

-- a test whose failure would have been an error
passed : (m : ParaState) (b : Bool) → (b ≡ false → ◌≡◌ {A = Result ParaState ColibFault} (Ok m) (Err BadParameter)) → b ≡ true
passed m true h = refl
passed m false h = let e = h refl in absurd cc

module _ (s : Settings) (program : List Instr) (schedule : List ℕ) (takes : Bool) (Law : ℕ → CellWords → Type 0) where
  abbrev state_after : ParaState
  state_after = record { settings = s; program = program; state = run_para s program (start_para s) schedule }

  pub law_after_run : (r : Result ParaState ColibFault) → IfOk r (λ m. m ≡ state_after) → IfOk r (λ _. AreInRange s × (s.initial ≡ [])) → ((is_empty s.initial && takes) ≡ false → r ≡ Err BadParameter) → (takes ≡ true → IsKeptBySchedules program Law) → All (λ p. p < size s) schedule → IfOk r (λ m. Law (size s) (slice_index m.state.cells))
  law_after_run (Ok m) is start refused kept elements =
      let takes_these = (and_parts (is_empty s.initial) takes (passed m (is_empty s.initial && takes) refused)).1 in
      subst (λ (m : ParaState). Law (size s) (slice_index m.state.cells)) (sym is) (kept takes_these s start.0 start.1 schedule elements)
  law_after_run (Err f) is start refused kept elements = tt
