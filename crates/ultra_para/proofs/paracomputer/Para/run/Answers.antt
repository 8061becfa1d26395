use Rattle.std.proofs.Common.{◌∙◌, ap, sym, get_or}
use Rattle.ultra_para.specs.{Para.{Para, para_step}, ParaState.ParaState}
use Rattle.ultra_para.proofs.Schedules.{run-take}
use Rattle.ultra_para.proofs.paracomputer.Para.run.Goals as goal

pub loop-pe-preserved : goal.loop-pe-preserved
loop-pe-preserved c =
    let m = c.args.self.now in
    let schedule = c.args.schedule.now in
    let k = c.loop-pe.pe-index in
    let pe = get_or schedule k 0 in
    c.step.ensures
    ∙ (ap (λ (n : ParaState). record n { state = para_step n.settings n.program n.state pe }) c.loop-pe.invariant
    ∙ ap (λ (v : Para). record m { state = v }) (sym (run-take m.settings m.program schedule k 0 m.state c.loop-pe-test.true)))
