-- where each switch of a network of d stages is, and what is beside it
use Rattle.std.specs.Prelude.{◌≡◌, ℕ, ◌+◌, ◌^◌, ◌<◌, List, length, slice_index_or}
use Rattle.ultra_topology.specs.{Numbers.switch_count, Units.{index_of, stage_of}, Marks.{reply_links, request_links}, Ways.{reply_targets, request_targets}, declared.wiring.Neighbours.Neighbours}

-- beside switch k of stage s
abbrev pub neighbours : ℕ → ℕ → ℕ → Neighbours
neighbours d s k = record {
  stage = s;
  index = k;
  request_links = request_links d s k;
  request_targets = request_targets d s k;
  reply_links = reply_links d s k;
  reply_targets = reply_targets d s k;
}

-- the entries are of the first switches, by their numbers
pub record AreNeighbours (d count : ℕ) (entries : List Neighbours) : Type 0 where
  pub all : length entries ≡ count
  pub each : (n : ℕ) (x : Neighbours) → n < count
      → slice_index_or entries n x ≡ neighbours d (stage_of d n) (index_of d n)

-- where the numbers of modules and of processing elements begin, how many there are of each, and
-- what is beside each switch
pub record IsWired (d after_switches after_modules size : ℕ) (xs : List Neighbours) : Type 0 where
  pub modules : after_switches ≡ switch_count d
  pub elements : after_modules ≡ switch_count d + 2 ^ d
  pub count : size ≡ 2 ^ d
  pub switches : AreNeighbours d (switch_count d) xs
