use Rattle.std.proofs.Common.{◌∙◌}
use Rattle.ultra_sweep_command.proofs.Output.{traces_are}
use Rattle.ultra_sweep_command.proofs.write_output.Goals as goal

pub returns-in-Report : goal.returns-in-Report
returns-in-Report g c jobs given =
    let is = c.in-Report.is in
    let traces = rw is at given in
    rw is (rw (traces ∙ traces_are jobs 0) at c.report.ensures)

pub returns-in-Measures : goal.returns-in-Measures
returns-in-Measures g c jobs given =
    let is = c.in-Measures.is in
    let rows = rw is at given in
    rw is (rw (rows, c.measure_names.ensures.value) at c.write_job_table.ensures)
