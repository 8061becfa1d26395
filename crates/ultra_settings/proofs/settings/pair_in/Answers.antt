use Rattle.std.proofs.{Common.arith, lemmas.Grind.common_steps}
use Rattle.ultra_settings.proofs.settings.pair_in.Goals as goal

pub returns-in_err-as_integer : goal.returns-in_err-as_integer
returns-in_err-as_integer c = grind (arith, common_steps)

pub returns-in_err-as_integer-2 : goal.returns-in_err-as_integer-2
returns-in_err-as_integer-2 c = grind (arith, common_steps)

pub returns : goal.returns
returns c = grind (arith, common_steps)
