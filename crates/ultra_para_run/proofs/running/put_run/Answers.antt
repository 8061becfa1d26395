use Rattle.std.proofs.Common.{length, refl}
use Rattle.ultra_para_run.proofs.Made.{whole_written}
use Rattle.ultra_para_run.proofs.running.put_run.Goals as goal

pub returns : goal.returns
returns g c =
    let run = c.args.run.now in
    whole_written run.para.settings run.para.program c.args.only_end c.args.schedule.now (length c.args.schedule.now) c.put_steps.new.run c.put_steps.ensures.writes c.put_steps.ensures.made (λ sound. refl) c.put_end.ensures
