-- which record a reply takes, by the places of the records
use Rattle.std.proofs.Common.{◌≡◌, ℕ, zero, suc, ◌<◌, length, List, [], ◌∷◌, true, false, refl, arith, ap, get_or}
use Rattle.std.specs.{Prelude.{Some, None}, List.{position, remove}}
use Rattle.std.proofs.lemmas.List.Quantifiers.{position-Some}
use Rattle.ultra_msg.specs.declared.ReplyMessage.{ReplyMessage}
use Rattle.ultra_switch.specs.{declared.WaitRecord.WaitRecord, Split.{is_of, records_after, replies_of, old_reply, new_reply}}
use Rattle.ultra_switch.proofs.Combining.{fails_at_each}

abbrev NoneBefore : ReplyMessage → List WaitRecord → ℕ → Type 0
NoneBefore m ws n = (k : ℕ) (d : WaitRecord) → k < n → is_of m (get_or ws k d) ≡ false

-- where no record has the identity, all stay and the reply goes on itself
pub record IsNotSplit (m : ReplyMessage) (ws : List WaitRecord) : Type 0 where
  pub records : records_after m ws ≡ ws
  pub replies : replies_of m ws ≡ m ∷ []

passes_all : (m : ReplyMessage) (ws : List WaitRecord) → NoneBefore m ws (length ws) → IsNotSplit m ws
passes_all m [] fails = record { records = refl; replies = refl }
passes_all m (w ∷ ws) fails =
    let first : is_of m w ≡ false = fails 0 w (omega arith) in
    let rest = passes_all m ws (λ k d within. fails (suc k) d (omega arith)) in
    record { records = rw (records_after, first) (ap (λ xs. w ∷ xs) rest.records); replies = rw (replies_of, first) rest.replies }

pub is_not_split : (m : ReplyMessage) (ws : List WaitRecord) → position (is_of m) ws ≡ None → IsNotSplit m ws
is_not_split m ws none = passes_all m ws (fails_at_each (is_of m) ws none)

-- where this record was found, it goes, and makes the replies
pub record IsSplitBy (m : ReplyMessage) (ws : List WaitRecord) (k : ℕ) (w : WaitRecord) : Type 0 where
  pub records : records_after m ws ≡ remove ws k
  pub replies : replies_of m ws ≡ old_reply m w ∷ new_reply m w ∷ []

splits_at : (m : ReplyMessage) (ws : List WaitRecord) (k : ℕ) (w : WaitRecord) → NoneBefore m ws k → k < length ws → w ≡ get_or ws k w → is_of m w ≡ true → IsSplitBy m ws k w
splits_at m [] k w fails within there passes = absurd (omega arith)
splits_at m (x ∷ ws) zero w fails within there passes =
    let here : is_of m x ≡ true = rw (← there) passes in
    record { records = rw (records_after, here) refl; replies = rw (replies_of, here, ← there) refl }
splits_at m (x ∷ ws) (suc k) w fails within there passes =
    let first : is_of m x ≡ false = fails 0 w (omega arith) in
    let rest = splits_at m ws k w (λ j d before. fails (suc j) d (omega arith)) (omega arith) there passes in
    record { records = rw (records_after, first) (ap (λ xs. x ∷ xs) rest.records); replies = rw (replies_of, first) rest.replies }

pub is_split_by : (m : ReplyMessage) (ws : List WaitRecord) (k : ℕ) (w : WaitRecord) → position (is_of m) ws ≡ Some k → w ≡ get_or ws k w → IsSplitBy m ws k w
is_split_by m ws k w found there =
    let facts = position-Some (is_of m) ws k w found in
    let passes : is_of m w ≡ true = rw (← there) at facts.1 in
    splits_at m ws k w (λ j d before. (position-Some (is_of m) ws k d found).2 j before) facts.0 there passes
