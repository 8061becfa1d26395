-- what a table of jobs gives
use Rattle.std.proofs.Common.{◌≡◌, ℕ, ◌<◌, ◌≤◌, Bool, true, false, not, ◌||◌, List, [], ◌∷◌, ◌++◌, length, Option, Some, None, String, Global, string_bytes, refl, ap, arith, codes, option_map}
use Rattle.std.specs.{List.list_any, Map.keys_of}
use Rattle.std.proofs.lemmas.Bool.Decides.{nat_tests}
use Rattle.toml.specs.{declared.value.Value.Value, View.{items_view, members_view}, Data.{Data, Items, Members, as_table}}
use Rattle.ultra_settings.specs.JobsText.{Paths, is_file_key, is_job_key, has_other_key, text_at, paths_of, job_count, paths_in, jobs_in, array_at, jobs_at}

pub has_other_key-keys : (is_key : List ℕ → Bool) (es : List (String Global × Value)) → has_other_key is_key (members_view es) ≡ list_any (λ k. not (is_key (string_bytes k))) (keys_of es)
has_other_key-keys is_key [] = refl
has_other_key-keys is_key (e ∷ es) = ap (λ b. not (is_key (string_bytes e.0)) || b) (has_other_key-keys is_key es)

job_count-items : (vs : List Value) → job_count (items_view vs) ≡ length vs
job_count-items [] = refl
job_count-items (v ∷ vs) = let rest = job_count-items vs in omega arith

pub listed : (vs : List Value) → 1 ≤ length vs → length vs ≤ 256 → jobs_in (items_view vs) ≡ paths_in (items_view vs)
listed vs some few = rw (job_count-items vs) (grind (arith, nat_tests))

pub none_listed : (vs : List Value) → length vs ≡ 0 → jobs_in (items_view vs) ≡ None
none_listed vs none = rw (job_count-items vs) (grind (arith, nat_tests))

pub too_many_listed : (vs : List Value) → 256 < length vs → jobs_in (items_view vs) ≡ None
too_many_listed vs many = rw (job_count-items vs) (grind (arith, nat_tests))

-- the jobs so far, before those of the rest
abbrev pub after : List Paths → Option (List Paths) → Option (List Paths)
after ps o = option_map (λ l. ps ++ l) o

-- the paths of a job
pub paths_of-other : (d : Data) (ms : Members) → as_table d ≡ Some ms → has_other_key is_job_key ms ≡ true → paths_of d ≡ None
paths_of-other d ms is other = rw (is, other) refl

pub paths_of-both : (d : Data) (ms : Members) (p q : List ℕ) → as_table d ≡ Some ms → has_other_key is_job_key ms ≡ false → text_at (codes "conf") ms ≡ Some p → text_at (codes "prog") ms ≡ Some q → paths_of d ≡ Some (p, q)
paths_of-both d ms p q is none conf prog = rw (is, none, conf, prog) refl

-- the jobs of a file
pub jobs_at-other : (ms : Members) → has_other_key is_file_key ms ≡ true → jobs_at ms ≡ None
jobs_at-other ms other = rw other refl

pub jobs_at-array : (ms : Members) (ds : Items) → has_other_key is_file_key ms ≡ false → array_at ms ≡ Some ds → jobs_at ms ≡ jobs_in ds
jobs_at-array ms ds none is = rw (none, is) refl
