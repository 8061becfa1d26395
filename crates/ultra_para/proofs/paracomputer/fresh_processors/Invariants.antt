use Rattle.std.proofs.Common.{◌≡◌}
use Rattle.ultra_para.proofs.Starting.{first_processors}
use Rattle.ultra_para.proofs.paracomputer.fresh_processors.Given as goal

abbrev pub invariant-loop-pe : goal.invariant-loop-pe
invariant-loop-pe l = l.processors.items ≡ first_processors l.config l.pe
