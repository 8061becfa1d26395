use Rattle.std.proofs.Common.{◌≡◌, sym, subst, arith, List, Option, option_map}
use Rattle.std.specs.Prelude.{IfOk}
use Rattle.ultra_settings.specs.JobsText.{Paths, all_paths}
use Rattle.ultra_settings.proofs.{Files.{listed, none_listed, too_many_listed}, jobs.jobs_in.Goals.{in_default-via-then-array-lt1, in_default-via-else-array-lt1+else-this-lt257}}
use Rattle.ultra_settings.proofs.jobs.jobs_in.Goals as goal

pub returns-in-1-to-256 : goal.returns-in-1-to-256
returns-in-1-to-256 c =
    subst (λ (x : Option (List Paths)). IfOk c.paths_in.result (λ o. option_map (λ v. all_paths v.items) o ≡ x)) (sym (listed c.args.array.now (omega arith) (omega arith))) c.paths_in.ensures

pub returns-in_default : goal.returns-in_default
returns-in_default c = elim c.in_default.branch [
  | in_default-via-then-array-lt1 w ↦ sym (none_listed c.args.array.now (omega arith))
  | in_default-via-else-array-lt1+else-this-lt257 w ↦ sym (too_many_listed c.args.array.now (omega arith))
]
