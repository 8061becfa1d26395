use Rattle.std.proofs.Common.{◌≡◌, ℕ, List, true, sym, ◌∙◌, subst, refl, arith}
use Rattle.ultra_isa.specs.declared.Instr.{Instr}
use Rattle.ultra_asm.specs.ProgramText.{IsProgramText}
use Rattle.ultra_para.specs.Careful.{is_careful}
use Rattle.ultra_colib.specs.{ReadersWriters.readers_writers, Texts.rw_text}
use Rattle.ultra_colib.proofs.{ReadersWritersText.reads, Given.well}
use Rattle.ultra_colib.proofs.programs.rw_program.Goals as goal

pub returns-clause-program : goal.returns-clause-program
returns-clause-program c =
    let is = c.as_str.ensures.value ∙ c.in_ok-text.ensures in
    c.assemble_text.ensures.program (readers_writers c.args.writers c.args.rounds) (subst (λ (text : List ℕ). IsProgramText text (readers_writers c.args.writers c.args.rounds)) (sym is) (reads c.args.writers (omega (arith, c.ranges.writers)) c.args.rounds (omega (arith, c.ranges.rounds))))

pub returns-clause-text : goal.returns-clause-text
returns-clause-text c = well (IsProgramText (rw_text c.args.writers c.args.rounds)) (readers_writers c.args.writers c.args.rounds) c.assemble_text.result (returns-clause-program c) (reads c.args.writers (omega (arith, c.ranges.writers)) c.args.rounds (omega (arith, c.ranges.rounds)))

pub returns-clause-careful : goal.returns-clause-careful
returns-clause-careful c = well (λ (p : List Instr). is_careful p ≡ true) (readers_writers c.args.writers c.args.rounds) c.assemble_text.result (returns-clause-program c) refl
