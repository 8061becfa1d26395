-- what the text of a file of jobs gives: its keys and the kinds of their values are this project's
-- profile
use Rattle.std.specs.Prelude.{◌≡◌, ℕ, ◌+◌, Bool, false, not, ◌&&◌, ◌||◌, nat_le, if◌then◌else◌, List, [], ◌∷◌, Option, Some, None, IsSomeAnd, String, string_bytes, codes, bytes_eq, map, option_map, option_and_then, ⊤}
use Rattle.std.specs.{Str.IsUtf8, declared.alloc.Global.Global}
use Rattle.toml.specs.Data.{Data, Items, no_items, item, Members, no_members, member, get_member, as_str, as_array, as_table}
use Rattle.toml.specs.Parse.{parse_document}
use Rattle.ultra_settings.specs.declared.jobs.JobsFault.{JobsFault, TheVariants.{NoMemory, NotToml, BadJob}}

-- the paths of a job: of its settings and of its program
abbrev pub Paths : Type 0
Paths = List ℕ × List ℕ

abbrev pub all_paths : List (String Global × String Global) → List Paths
all_paths jobs = map (λ p. (string_bytes p.0, string_bytes p.1)) jobs

-- the keys of a file of jobs, and of a job in it
abbrev pub is_file_key : List ℕ → Bool
is_file_key k = bytes_eq (codes "job") k

abbrev pub is_job_key : List ℕ → Bool
is_job_key k = bytes_eq (codes "conf") k || bytes_eq (codes "prog") k

-- whether a table has a key that isn't one of these
abbrev pub has_other_key : (List ℕ → Bool) → Members → Bool
has_other_key is_key no_members = false
has_other_key is_key (member k d ms) = not (is_key k) || has_other_key is_key ms

-- the text at a key
abbrev pub text_at : List ℕ → Members → Option (List ℕ)
text_at key ms = option_and_then as_str (get_member key ms)

abbrev pub both : Option (List ℕ) → Option (List ℕ) → Option Paths
both None q = None
both (Some p) None = None
both (Some p) (Some q) = Some (p, q)

-- a job is a table with the texts `conf` and `prog`, and no other key
abbrev pub paths_at : Members → Option Paths
paths_at ms =
    if has_other_key is_job_key ms
    then None
    else both (text_at (codes "conf") ms) (text_at (codes "prog") ms)

abbrev pub paths_of : Data → Option Paths
paths_of d = option_and_then paths_at (as_table d)

-- the jobs of an array of just these
abbrev pub onto : Option Paths → Option (List Paths) → Option (List Paths)
onto None ps = None
onto (Some p) ps = option_map (λ l. p ∷ l) ps

abbrev pub paths_in : Items → Option (List Paths)
paths_in no_items = Some []
paths_in (item d ds) = onto (paths_of d) (paths_in ds)

-- an array of 1 to 256
abbrev pub job_count : Items → ℕ
job_count no_items = 0
job_count (item d ds) = job_count ds + 1

abbrev pub jobs_in : Items → Option (List Paths)
jobs_in ds =
    if nat_le 1 (job_count ds) && nat_le (job_count ds) 256 then paths_in ds else None

-- a file of jobs is a table with an array `job` of 1 to 256 jobs, and no other key
abbrev pub array_at : Members → Option Items
array_at ms = option_and_then as_array (get_member (codes "job") ms)

abbrev pub jobs_at : Members → Option (List Paths)
jobs_at ms = if has_other_key is_file_key ms then None else option_and_then jobs_in (array_at ms)

-- the text gives these jobs
abbrev pub Gives : List ℕ → List Paths → Type 0
Gives text ps = IsUtf8 text × IsSomeAnd (parse_document text) (λ ms. jobs_at ms ≡ Some ps)

-- why a text gives no jobs
abbrev pub ExplainsJobsFault : List ℕ → JobsFault → Type 0
ExplainsJobsFault text NoMemory = ⊤
ExplainsJobsFault text NotToml = IsUtf8 text → parse_document text ≡ None
ExplainsJobsFault text BadJob =
    IsUtf8 text × IsSomeAnd (parse_document text) (λ ms. jobs_at ms ≡ None)
