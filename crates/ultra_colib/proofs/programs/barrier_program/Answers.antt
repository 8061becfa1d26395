use Rattle.std.proofs.Common.{◌≡◌, ℕ, List, true, sym, ◌∙◌, subst, refl, arith}
use Rattle.ultra_isa.specs.declared.Instr.{Instr}
use Rattle.ultra_asm.specs.ProgramText.{IsProgramText}
use Rattle.ultra_para.specs.Careful.{is_careful}
use Rattle.ultra_colib.specs.{Barrier.barrier, Texts.barrier_text}
use Rattle.ultra_colib.proofs.{BarrierText.reads, Given.well}
use Rattle.ultra_colib.proofs.programs.barrier_program.Goals as goal

pub returns-clause-program : goal.returns-clause-program
returns-clause-program c =
    let is = c.as_str.ensures.value ∙ c.in_ok-text.ensures in
    c.assemble_text.ensures.program (barrier c.args.rounds) (subst (λ (text : List ℕ). IsProgramText text (barrier c.args.rounds)) (sym is) (reads c.args.rounds (omega (arith, c.ranges.rounds))))

pub returns-clause-text : goal.returns-clause-text
returns-clause-text c = well (IsProgramText (barrier_text c.args.rounds)) (barrier c.args.rounds) c.assemble_text.result (returns-clause-program c) (reads c.args.rounds (omega (arith, c.ranges.rounds)))

pub returns-clause-careful : goal.returns-clause-careful
returns-clause-careful c = well (λ (p : List Instr). is_careful p ≡ true) (barrier c.args.rounds) c.assemble_text.result (returns-clause-program c) refl
