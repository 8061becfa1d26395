-- what an account says; this project's profile
use Rattle.std.specs.Prelude.{ℕ, ◌+◌, List, [], ◌∷◌, ◌++◌}
use Rattle.ultra_io.specs.{declared.account.Account.{Account, TheVariants.{Opened, Took', Read', Failed'}}, Source.{File, file_of}}

-- the bytes that were taken
abbrev pub bytes_in : Account → List ℕ
bytes_in Opened = []
bytes_in (Took' m before byte) = bytes_in before ++ byte.value ∷ []
bytes_in (Read' m before n path bytes) = bytes_in before
bytes_in (Failed' m before) = bytes_in before

-- the files that were read
abbrev pub files_in : Account → List File
files_in Opened = []
files_in (Took' m before byte) = files_in before
files_in (Read' m before n path bytes) =
    files_in before ++ file_of (bytes_in path) bytes.value.items ∷ []
files_in (Failed' m before) = files_in before

-- how many calls failed
abbrev pub failures_in : Account → ℕ
failures_in Opened = 0
failures_in (Took' m before byte) = failures_in before
failures_in (Read' m before n path bytes) = failures_in before
failures_in (Failed' m before) = failures_in before + 1

-- what an account says of a sink: the bytes that it took, and the number of its failures
pub record SinkState : Type 0 where
  pub taken : List ℕ
  pub failures : ℕ

abbrev pub sink_state : Account → SinkState
sink_state a = record { taken = bytes_in a; failures = failures_in a }

-- what an account says of a source of files: the files that it gave, and the number of its failures
pub record SourceState : Type 0 where
  pub files : List File
  pub failures : ℕ

abbrev pub source_state : Account → SourceState
source_state a = record { files = files_in a; failures = failures_in a }
