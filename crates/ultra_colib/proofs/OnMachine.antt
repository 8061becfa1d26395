-- what holds after every schedule of the paracomputer holds of the machine
use Rattle.std.proofs.Common.{◌≡◌, ℕ, ◌*◌, ◌≤◌, List, [], ◌∷◌, length, Bool, true, false, refl, ◌∙◌, subst, arith}
use Rattle.std.specs.Prelude.{Option, Some, None, nat_lt, slice_index}
use Rattle.std.proofs.{lemmas.{Grind.common_steps, List.get_or_past}, Math.{ListN.length-set, Path.fun_ext}}
use Rattle.ultra_msg.specs.declared.Request.{Request}
use Rattle.ultra_isa.specs.declared.Instr.{Instr}
use Rattle.ultra_model.specs.{Machine.{Settings, size, given_value}, Phases.after, Trace.cell_value}
use Rattle.ultra_model.proofs.Each.{length-places}
use Rattle.ultra_para.specs.Para.{Para, core_at, cells_acted, start_para, alone, para_step, run_para}
use Rattle.ultra_para.specs.{Careful.is_careful, Law.ParacomputerLaw}
use Rattle.ultra_colib.specs.{Schedules.{CellWords, IsKeptBySchedules}, Laws.IsKeptByMachine}

-- no step changes the number of cells
held_acted : (cells : List ℕ) (sent : Option Request) → length (cells_acted cells sent) ≡ length cells
held_acted cells None = refl
held_acted cells (Some r) = length-set _ _ _

held_after : (c : Settings) (program : List Instr) (schedule : List ℕ) (v : Para) → length (run_para c program v schedule).cells ≡ length v.cells
held_after c program [] v = refl
held_after c program (p ∷ ps) v = held_after c program ps (para_step c program v p) ∙ held_acted v.cells (alone c program p (core_at v p)).sent

module _ (law : ParacomputerLaw) (program : List Instr) (careful : is_careful program ≡ true) (Law : ℕ → CellWords → Type 0) (kept : IsKeptBySchedules program Law) where
  pub kept_by_machine : IsKeptByMachine program Law
  kept_by_machine c ranged empty n =
      let r = law c ranged program careful n in
      let v : Para = run_para c program (start_para c) r.schedule in
      let held : length v.cells ≡ size c * c.cells = held_after c program r.schedule (start_para c) ∙ length-places (size c * c.cells) (λ a. given_value c.initial a 0) in
      let same : (a : ℕ) (b : Bool) → nat_lt a (size c * c.cells) ≡ b → slice_index v.cells a ≡ elim b as (λ _. ℕ) [ true ↦ cell_value c (after c program n) a | false ↦ 0 ] =
      λ a b. elim b as (λ b. nat_lt a (size c * c.cells) ≡ b → slice_index v.cells a ≡ elim b as (λ _. ℕ) [ true ↦ cell_value c (after c program n) a | false ↦ 0 ]) [
        | true ↦ λ e. r.looks.cells a (grind (arith, common_steps))
        | false ↦ λ e. get_or_past v.cells a 0 (let past : size c * c.cells ≤ a = grind (arith, common_steps) in omega arith)
      ] in
      subst (λ (w : CellWords). Law (size c) w) (fun_ext (λ a. same a (nat_lt a (size c * c.cells)) refl)) (kept c ranged empty r.schedule r.elements)
