-- how much room is left where replies come to a switch
use Rattle.std.proofs.Common.{◌≡◌, ℕ, ◌+◌, ◌≤◌, List, [], ◌∷◌, true, arith, length, length-append, Option, nat_le}
use Rattle.ultra_unit_steps.proofs.Common.{WaitRecord, ReplyMessage, SizedReplies, replies_made, going_by, with_replies}
use Rattle.std.proofs.lemmas.List.Sums.{count_by-le-length, length-filter}
use Rattle.ultra_switch.specs.Split.{replies_of}

two_replies : (m : ReplyMessage) (ws : List WaitRecord) → length (replies_of m ws) ≤ 2
two_replies m [] = omega arith
two_replies m (w ∷ ws) = grind (arith, two_replies m ws)

-- where there was room for four, and what came of one reply has taken some, there is room for two
pub room_left : (d s j : ℕ) (q : SizedReplies) (ws : List WaitRecord) (o : Option ReplyMessage) → nat_le (length q.replies + 4) q.places ≡ true
    → length (with_replies q (going_by d s j (replies_made ws o))).replies + 2 ≤ (with_replies q (going_by d s j (replies_made ws o))).places
room_left d s j q ws o h = grind (arith, two_replies, length-filter, count_by-le-length, length-append)
