use Rattle.std.proofs.Common.{◌≡◌, ◌∙◌, sym, subst, List, Option, option_map}
use Rattle.std.specs.Prelude.{IfOk}
use Rattle.toml.specs.View.{items_view, table_view}
use Rattle.ultra_settings.specs.JobsText.{Paths, all_paths, is_file_key}
use Rattle.ultra_settings.proofs.Files.{has_other_key-keys, jobs_at-other, jobs_at-array}
use Rattle.ultra_settings.proofs.jobs.jobs_at.Goals as goal

pub returns-then-has_other_file_key : goal.returns-then-has_other_file_key
returns-then-has_other_file_key c =
    let table = c.args.table.now in
    sym (jobs_at-other (table_view table) (has_other_key-keys is_file_key table.entries ∙ (sym c.has_other_file_key.ensures ∙ c.if-has_other_file_key.true)))

pub returns-in-Some : goal.returns-in-Some
returns-in-Some c =
    let table = c.args.table.now in
    let none = has_other_key-keys is_file_key table.entries ∙ (sym c.has_other_file_key.ensures ∙ c.if-has_other_file_key.false) in
    let array = jobs_at-array (table_view table) (items_view c.in-Some.array.now) none (sym c.in-Some.ensures) in
    subst (λ (x : Option (List Paths)). IfOk c.jobs_in.result (λ o. option_map (λ v. all_paths v.items) o ≡ x)) (sym array) c.jobs_in.ensures
