use Rattle.std.proofs.Common.{◌≡◌, take}
use Rattle.ultra_para.specs.Para.{run_para}
use Rattle.ultra_para.proofs.paracomputer.Para.run.Given as goal

abbrev pub invariant-loop-pe : goal.invariant-loop-pe
invariant-loop-pe l = l.self ≡ record l.initial.self { state = run_para l.initial.self.settings l.initial.self.program l.initial.self.state (take l.pe-index l.schedule) }
