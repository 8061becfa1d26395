-- what a stream, as standard error, is shown; this project's profile
use Rattle.std.specs.Prelude.{◌≡◌, ℕ, List, ◌++◌}
use Rattle.ultra_msg.specs.Bytes.{TakesPrefix}
use Rattle.ultra_io.specs.Account.{SinkState}
use Rattle.ultra_inputs.specs.{Failure.text_of, declared.failure.Failure.Failure}

-- a stream: what it has taken, and the number of its failures
abbrev pub stream : List ℕ → ℕ → SinkState
stream taken failures = record { taken = taken; failures = failures }

-- it was shown a text, and took all of it unless it failed
pub record IsShown (text : List ℕ) (before after : SinkState) : Type 0 where
  pub begun : TakesPrefix text before.taken after.taken
  pub whole : after.failures ≡ before.failures → after.taken ≡ before.taken ++ text

-- a failure was reported on it
abbrev pub IsReported : Failure → SinkState → SinkState → Type 0
IsReported f before after = IsShown (text_of f) before after
