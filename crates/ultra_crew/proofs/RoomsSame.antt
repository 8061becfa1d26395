-- The messages that leave depend on what the rooms say of a machine's units, and on nothing else.
use Rattle.std.proofs.lemmas.{Grind.common_steps, Bool.Decides.nat_tests}
use Rattle.std.proofs.Common.{◌≡◌, ℕ, zero, suc, ◌-◌, ◌/◌, ◌^◌, ◌<◌, ◌≤◌, List, false, Option, Some, None, refl, sym, ◌∙◌, ap, arith, ◌==◌, not}
use Rattle.ultra_route.proofs.Table.{back, sizes}
use Rattle.ultra_route.specs.Route.{shuffled}
use Rattle.ultra_msg.specs.declared.Request.{Request}
use Rattle.ultra_isa.specs.declared.Instr.{Instr}
use Rattle.ultra_topology.specs.{Numbers.{reply_target, request_target, switch_count, switch_number}, Set.has_unit, Visits.after_units}
use Rattle.ultra_topology.proofs.Standing.{unit_is}
use Rattle.ultra_block_core.specs.{declared.{half.Half.{Half, TheVariants.{SendReplies, SendRequests}}, rooms.Rooms.Rooms}, BlockState.BlockState, RepliesSent.{without_events, has_reply_way, has_way_from_module, sends_replies}, RequestsSent.{has_request_way, has_room_at, has_way_from_element, sends_requests}, Making.after_half}
use Rattle.ultra_block_core.proofs.Once.{all_keep}
use Rattle.ultra_cycle_law.specs.Frame.{Frame}
use Rattle.ultra_cycle_law.proofs.AtFrame.{number_small}
use Rattle.ultra_partition.specs.{declared.kind.MessageKind.{MessageKind, TheVariants.{Replies, Requests}}, Halves.AreRooms}

-- the half in which messages of a kind leave
abbrev pub sending : MessageKind → Half
sending Replies = SendReplies
sending Requests = SendRequests

-- visits that are the same where a fact holds that they keep
same_with : {T : Type 0} (f g : ℕ → T → T) (P : T → Type 0) → ((n : ℕ) (t : T) → P t → P (f n t))
    → ((n : ℕ) (t : T) → P t → f n t ≡ g n t) → (m : ℕ) (t : T) → P t → after_units f m t ≡ after_units g m t
unfolding after_units
same_with f g P keeps same zero t p = refl
same_with f g P keeps same (suc n) t p = same n (after_units f n t) (all_keep f P keeps n t p) ∙ ap (g n) (same_with f g P keeps same n t p)

module _ (d : ℕ) (low : 1 ≤ d) (high : d ≤ 6) (f : Frame) (x y : Rooms) (x_rooms : AreRooms d f x) (y_rooms : AreRooms d f y) where
  half_small : (y : ℕ) → y < 2 ^ d → y / 2 < 2 ^ (d - 1)
  half_small y h = let two = (sizes d low high).0 in omega (arith, h)

  -- ---- replies
  agree : (n : ℕ) → n < switch_count d → not (has_unit x.no_reply_room n) ≡ not (has_unit y.no_reply_room n)
  agree n h = x_rooms.replies n h ∙ sym (y_rooms.replies n h)

  reply_small : (s y : ℕ) → s < d → y < 2 ^ d → (s == 0) ≡ false → reply_target d s y < switch_count d
  reply_small s y hs hy later = grind (arith, half_small, back, number_small)

  same_reply_way : (s p : ℕ) → s < d → p < 2 ^ d → has_reply_way x.no_reply_room d s p ≡ has_reply_way y.no_reply_room d s p
  same_reply_way s p hs hp = grind (arith, agree, reply_small)

  same_way_out : (m : ℕ) → m < 2 ^ d → has_way_from_module x.no_reply_room d m ≡ has_way_from_module y.no_reply_room d m
  same_way_out m h = agree (switch_number d (d - 1) (m / 2)) (number_small d (d - 1) (m / 2) (omega arith) (half_small m h))

  same_replies : (n : ℕ) (t : BlockState) → t.stages ≡ d → sends_replies x.no_reply_room n t ≡ sends_replies y.no_reply_room n t
  same_replies n t stages = grind (arith, unit_is, sizes, same_reply_way, same_way_out)

  -- ---- requests
  same_room : (s n : ℕ) (r : Request) → n < switch_count d → has_room_at x.no_request_room d s n r ≡ has_room_at y.no_request_room d s n r
  same_room s n r h =
      let x_zero = x_rooms.requests.switches n 0 h (omega arith) in
      let x_one = x_rooms.requests.switches n 1 h (omega arith) in
      let y_zero = y_rooms.requests.switches n 0 h (omega arith) in
      let y_one = y_rooms.requests.switches n 1 h (omega arith) in
      grind arith

  request_small : (s a : ℕ) → s < d → a < 2 ^ d → (s == d - 1) ≡ false → request_target d s a < switch_count d
  request_small s a hs ha before = grind (arith, common_steps, nat_tests, half_small, back, number_small)

  same_request_way : (s a : ℕ) (head : Option Request) → s < d → a < 2 ^ d → has_request_way x.no_request_room d s a head ≡ has_request_way y.no_request_room d s a head
  same_request_way s a head hs ha = grind (arith, same_room, request_small)

  same_way_in : (p : ℕ) (head : Option Request) → p < 2 ^ d → has_way_from_element x.no_request_room d p head ≡ has_way_from_element y.no_request_room d p head
  same_way_in p None h = refl
  same_way_in p (Some r) h =
      same_room 0 (switch_number d 0 (shuffled d p / 2)) r
      (number_small d 0 (shuffled d p / 2) (omega arith) (half_small (shuffled d p) (back d p low high h).entry_small))

  same_requests : (n : ℕ) (t : BlockState) → t.stages ≡ d → sends_requests x.no_request_room n t ≡ sends_requests y.no_request_room n t
  same_requests n t stages = grind (arith, unit_is, sizes, same_request_way, same_way_in)

  pub rooms_same : (kind : MessageKind) (program : List Instr) (b : BlockState) → b.stages ≡ d → after_half (sending kind) x program b ≡ after_half (sending kind) y program b
  rooms_same Replies program b stages =
      same_with (sends_replies x.no_reply_room) (sends_replies y.no_reply_room) (λ t. t.stages ≡ d) (λ n t is. grind arith) same_replies 320 (without_events b) stages
  rooms_same Requests program b stages =
      same_with (sends_requests x.no_request_room) (sends_requests y.no_request_room) (λ t. t.stages ≡ d) (λ n t is. grind arith) same_requests 320 b stages
