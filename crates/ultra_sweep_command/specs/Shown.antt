-- what standard error shows of a sweep; this project's profile
use Rattle.std.specs.Prelude.{◌≡◌, ◌<◌, ◌≤◌, ℕ, Bool, true, false, List, [], ◌∷◌, ◌++◌, codes, decimal}
use Rattle.std.specs.List.{flat_map}
use Rattle.ultra_msg.specs.Bytes.{TakesPrefix}
use Rattle.ultra_io.specs.Account.{SinkState}
use Rattle.ultra_sweep_command.specs.declared.meter.ProgressMeter.{ProgressMeter}

-- numbers that grow from one above the first to the last of them, or none where the two are the
-- same
abbrev pub GrowTo : ℕ → List ℕ → ℕ → Type 0
GrowTo first [] last = last ≡ first
GrowTo first (k ∷ ks) last = (first < k) × GrowTo k ks last

-- the line that says that this many of n jobs are finished
abbrev pub progress_line : ℕ → ℕ → List ℕ
progress_line n k =
    codes "ultra: " ++ decimal k ++ codes " of " ++ decimal n ++ codes " jobs\n"

abbrev pub progress_text : ℕ → List ℕ → List ℕ
progress_text n counts = flat_map (progress_line n) counts

-- lines went to a stream that say how many of n jobs are finished, the last of them this many;
-- where the stream has failed, a prefix of them
pub record Shows (n last : ℕ) (before after : SinkState) : Type 0 where
  pub counts : List ℕ
  pub growing : GrowTo 0 counts last
  pub within : last ≤ n
  pub begun : TakesPrefix (progress_text n counts) before.taken after.taken
  pub whole : after.failures ≡ before.failures
      → after.taken ≡ before.taken ++ progress_text n counts

-- the same where progress is asked for, and else nothing
abbrev pub IsProgressShown : Bool → ℕ → ℕ → SinkState → SinkState → Type 0
IsProgressShown true n last before after = Shows n last before after
IsProgressShown false n last before after = after ≡ before

-- what a meter has shown so far
pub record HasShown (m : ProgressMeter) (before after : SinkState) : Type 0 where
  pub shows : Shows m.count m.last before after
  pub failed : m.broken ≡ true → before.failures < after.failures
  pub sound : m.broken ≡ false → after.failures ≡ before.failures
