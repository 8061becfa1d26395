use Rattle.std.proofs.Common.{◌∙◌, sym}
use Rattle.toml.specs.View.{view, table_view}
use Rattle.ultra_settings.specs.JobsText.{is_job_key}
use Rattle.ultra_settings.proofs.Files.{has_other_key-keys, paths_of-other, paths_of-both}
use Rattle.ultra_settings.proofs.jobs.paths_of.Goals as goal

pub returns-then-has_other_job_key : goal.returns-then-has_other_job_key
returns-then-has_other_job_key c =
    let table = c.in_ok-table.table.now in
    let other = has_other_key-keys is_job_key table.entries ∙ (sym c.has_other_job_key.ensures ∙ c.if-has_other_job_key.true) in
    sym (paths_of-other (view c.args.value.now) (table_view table) (sym c.in_ok-table.ensures) other)

pub returns : goal.returns
returns c =
    let table = c.in_ok-table.table.now in
    let none = has_other_key-keys is_job_key table.entries ∙ (sym c.has_other_job_key.ensures ∙ c.if-has_other_job_key.false) in
    sym (paths_of-both (view c.args.value.now) (table_view table) c.in_ok-conf.conf.now c.in_ok-prog.prog.now (sym c.in_ok-table.ensures) none (sym c.in_ok-conf.ensures) (sym c.in_ok-prog.ensures))
