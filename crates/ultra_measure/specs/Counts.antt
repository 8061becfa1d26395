-- counts of events
use Rattle.std.specs.Prelude.{◌≡◌, ℕ, ◌+◌, ◌^◌, ◌<◌, List, slice_index}
use Rattle.ultra_msg.specs.declared.Event.{Event}
use Rattle.ultra_model.specs.Balance.{count}
use Rattle.ultra_measure.specs.declared.event_sums.EventSums.{EventSums}
use Rattle.ultra_measure.specs.EventKinds.{is_issue, is_delivery, is_act, is_act_of, is_combination, is_combination_in}

-- these events have come to the sums
pub record AreWithEvents (es : List Event) (old new : EventSums) : Type 0 where
  pub issued : new.issued ≡ old.issued + count is_issue es
  pub answered : new.answered ≡ old.answered + count is_delivery es
  pub acts : new.acts ≡ old.acts + count is_act es
  pub combined : new.combined ≡ old.combined + count is_combination es
  pub faults : new.faults ≡ old.faults
  pub combined_in : (s : ℕ) → s < 6
      → slice_index new.combined_in s
      ≡ slice_index old.combined_in s + count (is_combination_in s) es
  pub acts_of : (k : ℕ) → k < 64
      → slice_index new.acts_of k ≡ slice_index old.acts_of k + count (is_act_of k) es

-- each but that of faults can take n more
pub record CanTake (n : ℕ) (s : EventSums) : Type 0 where
  pub issued : s.issued + n < 2 ^ 64
  pub answered : s.answered + n < 2 ^ 64
  pub acts : s.acts + n < 2 ^ 64
  pub combined : s.combined + n < 2 ^ 64
  pub combined_in : (k : ℕ) → k < 6 → slice_index s.combined_in k + n < 2 ^ 64
  pub acts_of : (k : ℕ) → k < 64 → slice_index s.acts_of k + n < 2 ^ 64
