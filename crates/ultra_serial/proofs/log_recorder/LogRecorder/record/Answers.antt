use Rattle.std.proofs.{Common.arith, lemmas.Grind.common_steps}
use Rattle.ultra_serial.proofs.log_recorder.LogRecorder.record.Goals as goal

pub returns-in_err-machine-clause-log : goal.returns-in_err-machine-clause-log
returns-in_err-machine-clause-log c = grind (arith, common_steps)

pub returns-in_err-machine-clause-machine : goal.returns-in_err-machine-clause-machine
returns-in_err-machine-clause-machine c = grind (arith, common_steps)

pub returns-in_err-record_cycles-clause-log : goal.returns-in_err-record_cycles-clause-log
returns-in_err-record_cycles-clause-log c = grind (arith, common_steps)

pub returns-in_err-record_cycles-clause-machine : goal.returns-in_err-record_cycles-clause-machine
returns-in_err-record_cycles-clause-machine c = grind (arith, common_steps)

pub returns-clause-log : goal.returns-clause-log
returns-clause-log c = grind (arith, common_steps)

pub returns-clause-machine : goal.returns-clause-machine
returns-clause-machine c = grind (arith, common_steps)
