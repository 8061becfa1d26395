use Rattle.std.proofs.Common.{append-nil}
use Rattle.ultra_msg.proofs.Writing.{writes_then, writes_failed}
use Rattle.ultra_sweep.specs.{Report.{text_as, texts_from}, declared.reporting.JobForm.TheVariants.Plain}
use Rattle.ultra_sweep.proofs.reporting.write_job_table.Goals as goal

pub returns-in_err-write_pieces : goal.returns-in_err-write_pieces
returns-in_err-write_pieces g c =
    writes_failed (texts_from (text_as Plain) 0 c.args.gathered.now) c.from_residual.result c.from_residual.ensures.0 (rw (append-nil c.args.names.now) at c.in_err-write_pieces.ensures)

pub returns : goal.returns
returns g c = writes_then c.write_jobs.result (rw (append-nil c.args.names.now) at c.in_ok-write_pieces.ensures) c.write_jobs.ensures
