use Rattle.std.proofs.Common.{◌≡◌, ℕ, List, [], ◌∷◌, ap, arith}
use Rattle.ultra_model.specs.Phases.{reply_phase, request_phase}
use Rattle.ultra_block_core.specs.Making.{after_own_half}
use Rattle.ultra_partition.proofs.Common.{AreOwnRooms, AreWhole, BlockState, Instr, Rooms, SendReplies, SendRequests, Serve, Settings, TakeReplies, TakeRequests, all_open}
use Rattle.ultra_partition.proofs.Questions.{own_are_all}
use Rattle.ultra_partition.proofs.Whole.{Left, Made, can_execute, can_serve, can_take_replies, can_take_requests, come_to_one, first, middle, next, replies_left, replies_taken, requests_left, requests_taken, served}
use Rattle.ultra_partition.specs.declared.kind.MessageKind.TheVariants.{Replies, Requests}
use Rattle.ultra_block.proofs.cycle.make_cycle_of_one.Goals as goal

abbrev one : BlockState → List BlockState
one b = b ∷ []

-- the one block, half by half
module _ {s : Settings} {program : List Instr} {partition : List ℕ} {n : ℕ} {b x : BlockState} (whole : AreWhole s program partition n (one b)) (sent : (rooms : Rooms) × AreOwnRooms b rooms × (x ≡ after_own_half SendReplies rooms b)) where
  left : Left whole Replies (one x)
  left = replies_left whole _ (own_are_all _ _ sent.1) (ap one sent.2)

  module _ {y : BlockState} (takes : y ≡ after_own_half TakeReplies all_open x) where
    taken : Made whole 320 (reply_phase s (first whole)) (one y)
    taken = replies_taken whole (come_to_one whole left) (ap one takes)

    module _ {z : BlockState} (serves : z ≡ after_own_half Serve all_open y) where
      made : Made whole 640 (middle whole) (one z)
      made = served whole taken (ap one serves)

      module _ {u : BlockState} (sent_on : (rooms : Rooms) × AreOwnRooms z rooms × (u ≡ after_own_half SendRequests rooms z)) where
        left_on : Left whole Requests (one u)
        left_on = requests_left whole _ (own_are_all _ _ sent_on.1) (ap one sent_on.2) made

        asked : {v : BlockState} → v ≡ after_own_half TakeRequests all_open u → Made whole 960 (request_phase s (middle whole)) (one v)
        asked takes_on = requests_taken whole (come_to_one whole left_on) (ap one takes_on)

pub take_replies_sized-requires : goal.take_replies_sized-requires
take_replies_sized-requires g c =
    let x = left c.requires.whole.4 c.send_replies_by_own_rooms.ensures in
    grind (arith, x.at.blocks.cut.stages 0, c.requires.whole.4.machine.blocks.cut.stages 0, can_take_replies _ (come_to_one _ x) 0)

pub serve_sized-requires : goal.serve_sized-requires
serve_sized-requires g c =
    let x = taken c.requires.whole.4 c.send_replies_by_own_rooms.ensures c.take_replies_sized.ensures in
    grind (arith, x.at.blocks.cut.stages 0, c.requires.whole.4.machine.blocks.cut.stages 0, can_serve _ x 0)

pub send_requests_by_own_rooms-requires : goal.send_requests_by_own_rooms-requires
send_requests_by_own_rooms-requires g c =
    grind (arith, (made c.requires.whole.4 c.send_replies_by_own_rooms.ensures c.take_replies_sized.ensures c.serve_sized.ensures).at.blocks.cut.stages 0, c.requires.whole.4.machine.blocks.cut.stages 0)

pub take_requests_sized-requires : goal.take_requests_sized-requires
take_requests_sized-requires g c =
    let x = left_on c.requires.whole.4 c.send_replies_by_own_rooms.ensures c.take_replies_sized.ensures c.serve_sized.ensures c.send_requests_by_own_rooms.ensures in
    grind (arith, x.at.blocks.cut.stages 0, c.requires.whole.4.machine.blocks.cut.stages 0, can_take_requests _ (come_to_one _ x) 0)

pub execute_sized-requires : goal.execute_sized-requires
execute_sized-requires g c =
    let x = asked c.requires.whole.4 c.send_replies_by_own_rooms.ensures c.take_replies_sized.ensures c.serve_sized.ensures c.send_requests_by_own_rooms.ensures c.take_requests_sized.ensures in
    let can = can_execute _ x c.requires.whole.5 0 (omega arith) in
    record { small = grind (arith, x.at.blocks.cut.stages 0, c.requires.whole.4.machine.blocks.cut.stages 0); can = can.units; few = can.few }

pub returns : goal.returns
returns g c = λ s partition n early program whole.
    next whole (asked whole c.send_replies_by_own_rooms.ensures c.take_replies_sized.ensures c.serve_sized.ensures c.send_requests_by_own_rooms.ensures c.take_requests_sized.ensures) early (ap one c.execute_sized.ensures)
