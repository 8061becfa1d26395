-- what leaves the queues of a machine in its next cycle, by the phases of the definition
use Rattle.std.specs.Prelude.{ℕ, is_some}
use Rattle.ultra_model.specs.{Machine.{Settings, Machine}, Balance.weight}
use Rattle.ultra_model.specs.Phases.{leaving_reply, leaving_request, memory_phase, reply_phase}

module _ (c : Settings) (m : Machine) where
  -- the machine at the start of phase C
  abbrev pub before_requests : Machine
  before_requests = memory_phase c (reply_phase c m)

  -- how many requests, 1 or 0, leave the queue at memory-side position x of stage s in phase C. One
  -- that stands for several that have combined is one
  abbrev pub leaving_requests_at : ℕ → ℕ → ℕ
  leaving_requests_at s x = weight (is_some (leaving_request c before_requests s x))

  -- how many replies, 1 or 0, leave the queue at PE-side position y of stage s in phase A
  abbrev pub leaving_replies_at : ℕ → ℕ → ℕ
  leaving_replies_at s y = weight (is_some (leaving_reply c m s y))
