-- hot requests: each processing element has asked for the same cell, and the requests combine at
-- every stage of their way. The network and its combining are the 1983 paper's; the order of
-- arrivals is this project's profile
use Rattle.std.specs.Prelude.{ℕ, zero, suc, ◌+◌, ◌-◌, ◌*◌, ◌/◌, ◌%◌, ◌^◌, List, [], ◌∷◌, Bool, true, false, ◌==◌, Option, Some, None}
use Rattle.ultra_msg.specs.declared.Request.{Request}
use Rattle.ultra_route.specs.Route.{unshuffled}
use Rattle.ultra_switch.specs.{declared.WaitRecord.WaitRecord, Arrive.{Lane, empty_lane, entry, sent_for, wait_record}}

-- whether line x before stage s of d stages leads to module k: its low bits are the high bits of k
abbrev pub leads_to : ℕ → ℕ → ℕ → ℕ → Bool
leads_to d k s x = x % 2 ^ s == k / 2 ^ (d - s)

-- hot requests to module k through d stages that set out in cycle n, one for each
-- line before stage 0
module _ (d n : ℕ) (asked : ℕ → Request) where
  -- the PE-side positions of the two requests that meet at memory-side position x of stage s: the
  -- one that arrives first, and the other
  abbrev pub first_port : ℕ → ℕ → ℕ
  first_port s x = elim ((n + s) % 2 == 0) [ true ↦ 2 * (x / 2) | false ↦ 2 * (x / 2) + 1 ]

  abbrev pub second_port : ℕ → ℕ → ℕ
  second_port s x = elim ((n + s) % 2 == 0) [ true ↦ 2 * (x / 2) + 1 | false ↦ 2 * (x / 2) ]

  -- the request that stands for all who have come together on line x before stage s
  unfoldable pub front : ℕ → ℕ → Request
  front zero x = asked x
  front (suc s) x =
      sent_for (front s (unshuffled d (first_port s x))) (front s (unshuffled d (second_port s x)))

  abbrev pub old_of : ℕ → ℕ → Request
  old_of s x = front s (unshuffled d (first_port s x))

  abbrev pub new_of : ℕ → ℕ → Request
  new_of s x = front s (unshuffled d (second_port s x))

  -- the record that is kept where the two meet
  abbrev pub record_of : ℕ → ℕ → WaitRecord
  record_of s x = wait_record (entry (old_of s x) false) (new_of s x)

  module _ (k : ℕ) where
    -- the request on line x before stage s, if a hot request uses that line
    abbrev pub on_line : ℕ → ℕ → Option Request
    on_line s x = elim (leads_to d k s x) [ true ↦ Some (front s x) | false ↦ None ]

    -- what the hot requests leave in the wait buffer of position x of stage s
    abbrev pub left_at : ℕ → ℕ → List WaitRecord
    left_at s x = elim (leads_to d k (s + 1) x) [ true ↦ record_of s x ∷ [] | false ↦ [] ]

    -- the lane of position x of stage s when the hot requests have just come there
    abbrev pub reached : ℕ → ℕ → Lane
    reached s x = elim (leads_to d k (s + 1) x) [
      | true ↦ record { queue = entry (front (suc s) x) true ∷ []; records = record_of s x ∷ [] }
      | false ↦ empty_lane
    ]
