-- where a switch holds nothing of a kind, a state of the machine adds nothing to the counts
use Rattle.std.proofs.Common.{ℕ, zero, suc, ◌≡◌, ◌+◌, ◌-◌, ◌*◌, ◌/◌, ◌^◌, ◌<◌, ◌≤◌, ◌⊎◌, inl, inr, Bool, true, false, max, List, [], length, refl, sym, ap, ◌∙◌, arith}
use Rattle.std.specs.Prelude.{not, nat_le, slice_get}
use Rattle.std.proofs.lemmas.Bool.Decides.{nat_tests}
use Rattle.ultra_msg.specs.declared.ReplyMessage.{ReplyMessage}
use Rattle.ultra_switch.specs.{declared.{QueueEntry.QueueEntry, WaitRecord.WaitRecord}, Queues.request_of}
use Rattle.ultra_model.specs.{Machine.{Settings, Machine, size, lane_at, replies_at}, Balance.weight, Ranges.AreInRange}
use Rattle.ultra_topology.specs.{Numbers.switch_number, Set.has_unit}
use Rattle.ultra_block.specs.{Held.{Held, TheVariants.{Reply, Request, Record}}, IsSetOf, Holding.holds}
use Rattle.ultra_block.proofs.NothingHeld.{no_replies, no_requests, no_records}
use Rattle.ultra_measure.specs.Held.{is_full}
use Rattle.ultra_statistics.specs.{Kept.{if_so, with_state}, declared.counts.{QueueCounts.QueueCounts, Moment.Moment}}
use Rattle.ultra_statistics.proofs.Moving.{no_reply_leaves, no_request_leaves}

no_more : (b : Bool) (n : ℕ) → n ≡ 0 → if_so b n ≡ 0
no_more true n is = is
no_more false n is = refl

pub same_counts : (q : QueueCounts) (e b : Bool) (l h f : ℕ) → l ≡ 0 → h ≡ 0 → f ≡ 0 → record { left = q.left + if_so b l; sum = q.sum + if_so e h; most = max q.most (if_so e h); full = q.full + if_so e f } ≡ q
same_counts q e b l h f l_is h_is f_is =
    let left : q.left + if_so b l ≡ q.left = omega (arith, no_more b l l_is) in
    let sum : q.sum + if_so e h ≡ q.sum = omega (arith, no_more e h h_is) in
    let most : max q.most (if_so e h) ≡ q.most = omega (arith, no_more e h h_is) in
    let full : q.full + if_so e f ≡ q.full = omega (arith, no_more e f f_is) in
    rw (left, sum, most, full) refl

has_room : (n places : ℕ) → n ≤ places → weight (not (nat_le n places)) ≡ 0
has_room n places h = grind (arith, nat_tests)

none_full : (places : ℕ) → is_full places 0 ≡ 0
none_full zero = refl
none_full (suc n) = grind (arith, nat_tests)

which : (x : ℕ) → (x ≡ 2 * (x / 2)) ⊎ (x ≡ 2 * (x / 2) + 1)
which x = grind arith

module _ (c : Settings) (range : AreInRange c) (m : Machine) where
  -- a position whose queue or wait buffer is empty
  module _ (s x : ℕ) (hs : s < c.stages) (hx : x < size c) (at : Moment) (q : QueueCounts) where
    pub no_requests_add : (lane_at m s x).queue ≡ [] → with_state c Request at m s x q ≡ q
    no_requests_add none =
        same_counts q at.ended at.begins _ _ _
        (ap weight (no_request_leaves c range m s x hs hx (ap (λ (es : List QueueEntry). request_of (slice_get es 0)) none)))
        (ap length none)
        (ap (λ (es : List QueueEntry). weight (not (nat_le (length es + 2) c.request_places))) none ∙ has_room 2 c.request_places range.some_request_places)

    pub no_records_add : (lane_at m s x).records ≡ [] → with_state c Record at m s x q ≡ q
    no_records_add none =
        same_counts q at.ended at.begins _ _ _ refl (ap length none)
        (ap (λ (ws : List WaitRecord). is_full c.wait_places (length ws)) none ∙ none_full c.wait_places)

    pub no_replies_add : replies_at m s x ≡ [] → with_state c Reply at m s x q ≡ q
    no_replies_add none =
        same_counts q at.ended at.begins _ _ _
        (ap weight (no_reply_leaves c range m s x hs hx none))
        (ap length none)
        (ap (λ (rs : List ReplyMessage). weight (not (nat_le (length rs + 4) c.reply_places))) none ∙ has_room 4 c.reply_places range.some_reply_places)

  -- a switch that isn't in the set
  module _ (s : ℕ) (hs : s < c.stages) (even : 2 ^ c.stages ≡ 2 * 2 ^ (c.stages - 1)) (at : Moment) where
    both_same : (held : Held) (k : ℕ) → k < 2 ^ (c.stages - 1) → holds c.stages m held (switch_number c.stages s k) ≡ false → (q : QueueCounts) → (with_state c held at m s (2 * k) q ≡ q) × (with_state c held at m s (2 * k + 1) q ≡ q)
    both_same Request k hk none q = let it = no_requests c.stages m s k hs hk none in (no_requests_add s (2 * k) hs (omega (arith, hk, even)) at q it.0, no_requests_add s (2 * k + 1) hs (omega (arith, hk, even)) at q it.1)
    both_same Record k hk none q = let it = no_records c.stages m s k hs hk none in (no_records_add s (2 * k) hs (omega (arith, hk, even)) at q it.0, no_records_add s (2 * k + 1) hs (omega (arith, hk, even)) at q it.1)
    both_same Reply k hk none q = let it = no_replies c.stages m s k hs hk none in (no_replies_add s (2 * k) hs (omega (arith, hk, even)) at q it.0, no_replies_add s (2 * k + 1) hs (omega (arith, hk, even)) at q it.1)

    pub idle : (held : Held) (units : List ℕ) → IsSetOf (holds c.stages m held) units → (x : ℕ) → x < 2 ^ c.stages → has_unit units (switch_number c.stages s 0 + x / 2) ≡ false → (q : QueueCounts) → with_state c held at m s x q ≡ q
    idle held units are x hx none q =
        let k = x / 2 in
        let number : switch_number c.stages s 0 + k ≡ switch_number c.stages s k = omega arith in
        let both = both_same held k (omega (arith, hx, even)) (sym (are (switch_number c.stages s k)) ∙ rw number at none) q in
        elim (which x) [
          | inl even_is ↦ ap (λ y. with_state c held at m s y q) even_is ∙ both.0
          | inr odd_is ↦ ap (λ y. with_state c held at m s y q) odd_is ∙ both.1
        ]
