use Rattle.ultra_steps.proofs.Registers.{registers_are}
use Rattle.ultra_steps.proofs.law.register_law.Goals as goal

pub returns : goal.returns
returns c = record { registers = λ settings program n p h. registers_are settings program n p h }
