use Rattle.ultra_para_run.specs.SeededSchedule.{seeded_schedule}
use Rattle.ultra_para_run.proofs.Made.{whole_written}
use Rattle.ultra_para_run.proofs.running.put_drawn_run.Goals as goal

pub returns : goal.returns
returns g c =
    let run = c.args.run.now in
    whole_written run.para.settings run.para.program c.args.only_end (seeded_schedule run.para.settings run.para.program c.args.seed c.args.most) c.put_drawn-made.result c.put_drawn-made.new.run c.put_drawn-made.ensures.writes c.put_drawn-made.ensures.made c.put_drawn-made.ensures.count c.put_end.ensures
