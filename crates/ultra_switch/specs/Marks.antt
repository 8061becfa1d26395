-- which requests of a queue have combined there, as bits of one word: bit i is the mark of the
-- request at place i, counted from the front. This project's profile
use Rattle.std.specs.Prelude.{◌≡◌, ℕ, suc, ◌≤◌, List, [], ◌∷◌, Bool, false, ◌==◌, length}
use Rattle.std.specs.Int.{bit_at}
use Rattle.ultra_msg.specs.declared.Request.{Request}
use Rattle.ultra_switch.specs.{declared.{QueueEntry.QueueEntry, TheConstants.MOST_REQUEST_PLACES}, Arrive.entry}

abbrev pub has_mark : ℕ → ℕ → Bool
has_mark word place = bit_at word place == 1

-- requests from a place on, each with its mark
abbrev pub marked_from : ℕ → ℕ → List Request → List QueueEntry
marked_from word place [] = []
marked_from word place (r ∷ rs) = entry r (has_mark word place) ∷ marked_from word (suc place) rs

-- the requests of a queue, each with its mark
abbrev pub marked_by : ℕ → List Request → List QueueEntry
marked_by word rs = marked_from word 0 rs

-- there is no mark behind the last request
abbrev pub AreOf : ℕ → List Request → Type 0
AreOf word rs = (place : ℕ) → length rs ≤ place → has_mark word place ≡ false

-- a queue of requests with marks, and its places
pub record MarkedEntries : Type 0 where
  pub entries : List QueueEntry
  pub places : ℕ

-- a word has a bit for each place
pub record IsMarked (word : ℕ) (rs : List Request) (places : ℕ) : Type 0 where
  pub marks : AreOf word rs
  pub within : length rs ≤ places
  pub most : places ≤ MOST_REQUEST_PLACES
