use Rattle.std.proofs.Common.{◌≡◌, ℕ, List, true, sym, ◌∙◌, subst, refl, arith}
use Rattle.ultra_isa.specs.declared.Instr.{Instr}
use Rattle.ultra_asm.specs.ProgramText.{IsProgramText}
use Rattle.ultra_para.specs.Careful.{is_careful}
use Rattle.ultra_colib.specs.{Queue.queue, Texts.queue_text}
use Rattle.ultra_colib.proofs.{QueueText.reads, Given.well}
use Rattle.ultra_colib.proofs.programs.queue_program.Goals as goal

pub returns-clause-program : goal.returns-clause-program
returns-clause-program c =
    let is = c.as_str.ensures.value ∙ c.in_ok-text.ensures in
    c.assemble_text.ensures.program (queue c.args.log_size c.args.rounds) (subst (λ (text : List ℕ). IsProgramText text (queue c.args.log_size c.args.rounds)) (sym is) (reads c.args.log_size c.if-log_size-gt-MOST_LOG_SIZE.false c.args.rounds (omega (arith, c.ranges.rounds))))

pub returns-clause-text : goal.returns-clause-text
returns-clause-text c = well (IsProgramText (queue_text c.args.log_size c.args.rounds)) (queue c.args.log_size c.args.rounds) c.assemble_text.result (returns-clause-program c) (reads c.args.log_size c.if-log_size-gt-MOST_LOG_SIZE.false c.args.rounds (omega (arith, c.ranges.rounds)))

pub returns-clause-careful : goal.returns-clause-careful
returns-clause-careful c = well (λ (p : List Instr). is_careful p ≡ true) (queue c.args.log_size c.args.rounds) c.assemble_text.result (returns-clause-program c) refl
