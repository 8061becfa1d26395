use Rattle.std.proofs.Common.{refl, sym, ◌∙◌, ◌+◌}
use Rattle.ultra_steps.proofs.Issues.{issued_copy}
use Rattle.ultra_steps.proofs.copies.make_step.Goals as goal

pub returns-in-Issued-clause-copy : goal.returns-in-Issued-clause-copy
returns-in-Issued-clause-copy c = issued_copy c.args.program.now c.args.copy.now c.requires.none (sym c.step-was.ensures.was ∙ c.in-Issued.is) c.step-was.new.self c.step-was.ensures.core c.leave_packet.new.self c.step-was.new.interface c.step-was.ensures.interface c.leave_packet.ensures.interface (c.args.copy.now.issued + 1) refl
