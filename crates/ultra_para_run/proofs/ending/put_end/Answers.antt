use Rattle.ultra_io.proofs.Writing.{◌then◌}
use Rattle.ultra_para_run.specs.ParaText.{para_end}
use Rattle.ultra_para_run.proofs.ending.put_end.Goals as goal

pub returns : goal.returns
unfolding para_end
returns g c =
    let cells = rw (c.cells.ensures.known, c.cells.ensures.value) at c.put_cells.ensures in
    let elements = rw (c.processors.ensures.known, c.processors.ensures.value) at c.put_processors.ensures in
    let stopped = rw c.have_all_stopped.ensures at c.put_stopped.ensures in
    c.put.ensures then c.put_count.ensures then c.put-2.ensures then stopped then c.put-3.ensures then cells then elements
