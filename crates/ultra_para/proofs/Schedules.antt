-- one schedule after another
use Rattle.std.proofs.Common.{◌≡◌, ℕ, ◌+◌, ◌<◌, List, [], ◌∷◌, ◌++◌, length, take, get_or, refl, ◌∙◌, ap}
use Rattle.std.proofs.lemmas.List.{take_more}
use Rattle.ultra_isa.specs.declared.Instr.{Instr}
use Rattle.ultra_model.specs.Machine.{Settings}
use Rattle.ultra_para.specs.Para.{Para, para_step, run_para}

module _ (c : Settings) (program : List Instr) where
  pub run-append : (xs ys : List ℕ) (v : Para) → run_para c program v (xs ++ ys) ≡ run_para c program (run_para c program v xs) ys
  run-append [] ys v = refl
  run-append (x ∷ xs) ys v = run-append xs ys (para_step c program v x)

  pub run-take : (schedule : List ℕ) (k d : ℕ) (v : Para) → k < length schedule → run_para c program v (take (k + 1) schedule) ≡ para_step c program (run_para c program v (take k schedule)) (get_or schedule k d)
  run-take schedule k d v h = ap (λ ps. run_para c program v ps) (take_more schedule k d h) ∙ run-append (take k schedule) (get_or schedule k d ∷ []) v
