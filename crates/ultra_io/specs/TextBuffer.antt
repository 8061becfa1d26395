-- text on its way to a sink, some of it waiting in a buffer; this project's profile
use Rattle.std.specs.Prelude.{ℕ, ◌≡◌, ◌+◌, List, [], ◌++◌, take, Bool, true, false}
use Rattle.std.specs.Borrow.{MutBor}
use Rattle.ultra_msg.specs.Bytes.{AreTakenOrWait, IsPrefix, TakesPrefix}
use Rattle.ultra_io.specs.declared.text_buffer.TextBuffer.{TextBuffer}

-- what the sink has taken and the number of its failures, what waits in the buffer, and whether the
-- sink has failed
pub record State : Type 0 where
  pub taken : List ℕ
  pub failures : ℕ
  pub waiting : List ℕ
  pub failed : Bool

-- the sink has failed, and has been left alone since
pub record StaysFailed (old new : State) : Type 0 where
  pub failed : new.failed ≡ true
  pub taken : new.taken ≡ old.taken
  pub failures : new.failures ≡ old.failures

-- bytes were written. The first fault of the sink is the last: nothing is written after it, and the
-- sink has then taken a prefix of what waited and the bytes
pub record Wrote (bytes : List ℕ) (old new : State) : Type 0 where
  pub spent : old.failed ≡ true → StaysFailed old new
  pub whole : new.failed ≡ false
      → AreTakenOrWait bytes old.taken old.waiting new.taken new.waiting
      × (new.failures ≡ old.failures)
  pub prefix : old.failed ≡ false → new.failed ≡ true
      → TakesPrefix (old.waiting ++ bytes) old.taken new.taken
      × (new.failures ≡ old.failures + 1)

module _ {S : Type 0} where
  -- the sink that a buffer writes to
  abbrev pub sink_of : TextBuffer S → MutBor S
  sink_of p = p.sink

  -- whether it has failed
  abbrev pub has_failed : TextBuffer S → Bool
  has_failed p = p.failed

  -- nothing waits in the buffer, and its sink has not failed it
  pub record IsBlank (p : TextBuffer S) : Type 0 where
    pub empty : take p.filled_bytes.filled p.filled_bytes.bytes ≡ []
    pub sound : p.failed ≡ false

-- of a buffer, whose sink reports what it has taken and the number of its failures
module _ {S : Type 0} (taken : S → List ℕ) (failures : S → ℕ) where
  -- where the text in the buffer goes as far as a position
  abbrev pub state_at : TextBuffer S → ℕ → State
  state_at p at = record {
    taken = taken p.sink.now;
    failures = failures p.sink.now;
    waiting = take at p.filled_bytes.bytes;
    failed = p.failed;
  }

  -- text that goes as far as a position in the buffer goes on with bytes, as far as the position
  -- behind them
  pub record GoesOn (bytes : List ℕ) (old : TextBuffer S) (at : ℕ) (new : TextBuffer S)
      (behind : ℕ) : Type 0 where
    pub same_reference : new.sink.ghost_name ≡ old.sink.ghost_name
    pub wrote : Wrote bytes (state_at old at) (state_at new behind)

  -- text was begun behind what waits, and goes as far as a position
  abbrev pub Begins : List ℕ → TextBuffer S → TextBuffer S → ℕ → Type 0
  Begins bytes old new at = GoesOn bytes old old.filled_bytes.filled new at

  -- text that goes as far as a position ends with bytes, and waits
  abbrev pub Ends : List ℕ → TextBuffer S → ℕ → TextBuffer S → Type 0
  Ends bytes old at new = GoesOn bytes old at new new.filled_bytes.filled

  -- bytes were written behind what waits, and wait or have been taken
  abbrev pub Writes : List ℕ → TextBuffer S → TextBuffer S → Type 0
  Writes bytes old new = GoesOn bytes old old.filled_bytes.filled new new.filled_bytes.filled

  -- a prefix of the bytes was written
  abbrev pub WritesPrefix : List ℕ → TextBuffer S → TextBuffer S → Type 0
  WritesPrefix bytes old new = (part : List ℕ) × IsPrefix part bytes × Writes part old new
