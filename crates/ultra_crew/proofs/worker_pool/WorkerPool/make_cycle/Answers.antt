use Rattle.ultra_block_core.specs.declared.half.Half.TheVariants.{SendReplies, TakeReplies, Serve, SendRequests, TakeRequests, Execute}
use Rattle.ultra_partition.proofs.Whole.{can_execute, can_serve, can_take_replies, can_take_requests, replies_left, requests_left}
use Rattle.ultra_crew.proofs.Chain.{HaveServed, RepliesCame, RequestsCame, can_exchange, cycled, due, have_served, have_taken, have_waiting, passed_so, replies_came, requests_came, sent_so, served_so, stepped_so, taken_so, waiting_so}
use Rattle.ultra_crew.proofs.worker_pool.WorkerPool.make_cycle.{Given.Over, Goals.{After-with_exchanged-blocks, After-with_exchanged-blocks-2, In_ok-blocks, In_ok-blocks-2}}
use Rattle.ultra_crew.proofs.worker_pool.WorkerPool.make_cycle.Goals as goal

came : (g : Over) (c : After-with_exchanged-blocks g) → RepliesCame c.requires.whole c.with_exchanged-blocks.result.items
came g c = replies_came c.requires.whole c.note_rooms-rooms.result (rw c.as_slice.ensures.value at c.note_rooms-rooms.ensures) c.in_ok-blocks.ensures.blocks c.net-net.ensures c.with_exchanged-blocks.ensures

served : (g : Over) (c : In_ok-blocks-2 g) → HaveServed c.requires.whole c.in_ok-blocks-2.blocks.items
served g c =
    let came = replies_came c.requires.whole c.note_rooms-rooms.result (rw c.as_slice.ensures.value at c.note_rooms-rooms.ensures) c.in_ok-blocks.ensures.blocks c.net-net.ensures c.with_exchanged-blocks.ensures in
    have_served c.requires.whole c.note_rooms-rooms.result came c.in_ok-blocks-2.ensures.blocks

came_on : (g : Over) (c : After-with_exchanged-blocks-2 g) → RequestsCame c.requires.whole c.with_exchanged-blocks-2.result.items
came_on g c =
    let came = replies_came c.requires.whole c.note_rooms-rooms.result (rw c.as_slice.ensures.value at c.note_rooms-rooms.ensures) c.in_ok-blocks.ensures.blocks c.net-net.ensures c.with_exchanged-blocks.ensures in
    let served = have_served c.requires.whole c.note_rooms-rooms.result came c.in_ok-blocks-2.ensures.blocks in
    requests_came c.requires.whole _ served (rw c.as_slice-2.ensures.value at c.note_rooms-rooms-2.ensures) c.in_ok-blocks-3.ensures.blocks c.net-net.ensures c.with_exchanged-blocks-2.ensures

pub make_half-requires-clause-due : goal.make_half-requires-clause-due
make_half-requires-clause-due g c = due c.requires.whole SendReplies _ _ c.requires.settled (λ k h. tt) (sent_so c.requires.whole _ (rw c.as_slice.ensures.value at c.note_rooms-rooms.ensures))

pub with_exchanged-blocks-requires : goal.with_exchanged-blocks-requires
with_exchanged-blocks-requires g c = can_exchange c.requires.whole c.net-net.ensures (replies_left c.requires.whole _ (rw c.as_slice.ensures.value at c.note_rooms-rooms.ensures) c.in_ok-blocks.ensures.blocks)

pub make_two_halves-requires-clause-due : goal.make_two_halves-requires-clause-due
make_two_halves-requires-clause-due g c =
    let x = came g (goal.at.make_two_halves-requires-clause-due g c).After-with_exchanged-blocks in
    due c.requires.whole TakeReplies _ _ c.requires.settled (can_take_replies c.requires.whole x.0) (taken_so c.requires.whole c.note_rooms-rooms.result x)

pub make_two_halves-requires-clause-due_again : goal.make_two_halves-requires-clause-due_again
make_two_halves-requires-clause-due_again g c =
    let x = came g (goal.at.make_two_halves-requires-clause-due_again g c).After-with_exchanged-blocks in
    due c.requires.whole Serve _ _ c.requires.settled (can_serve c.requires.whole (have_taken c.requires.whole c.note_rooms-rooms.result x)) (served_so c.requires.whole c.note_rooms-rooms.result x)

pub make_half-requires-2-clause-due : goal.make_half-requires-2-clause-due
make_half-requires-2-clause-due g c =
    let x = served g (goal.at.make_half-requires-2-clause-due g c).In_ok-blocks-2 in
    due c.requires.whole SendRequests _ _ c.requires.settled (λ k h. tt) (passed_so c.requires.whole _ x (rw c.as_slice-2.ensures.value at c.note_rooms-rooms-2.ensures))

pub with_exchanged-blocks-requires-2 : goal.with_exchanged-blocks-requires-2
with_exchanged-blocks-requires-2 g c =
    can_exchange c.requires.whole c.net-net.ensures
    (requests_left c.requires.whole _ (rw c.as_slice-2.ensures.value at c.note_rooms-rooms-2.ensures) c.in_ok-blocks-3.ensures.blocks (served g (goal.at.with_exchanged-blocks-requires-2 g c).In_ok-blocks-2).0)

pub make_two_halves-requires-2-clause-due : goal.make_two_halves-requires-2-clause-due
make_two_halves-requires-2-clause-due g c =
    let x = came_on g (goal.at.make_two_halves-requires-2-clause-due g c).After-with_exchanged-blocks-2 in
    due c.requires.whole TakeRequests _ _ c.requires.settled (can_take_requests c.requires.whole x.0) (waiting_so c.requires.whole c.note_rooms-rooms-2.result x)

pub make_two_halves-requires-2-clause-due_again : goal.make_two_halves-requires-2-clause-due_again
make_two_halves-requires-2-clause-due_again g c =
    let x = came_on g (goal.at.make_two_halves-requires-2-clause-due_again g c).After-with_exchanged-blocks-2 in
    due c.requires.whole Execute _ _ c.requires.settled (can_execute c.requires.whole (have_waiting c.requires.whole c.note_rooms-rooms-2.result x) c.requires.counted) (stepped_so c.requires.whole c.note_rooms-rooms-2.result x)

pub returns-clause-whole : goal.returns-clause-whole
returns-clause-whole g c = (cycled c.requires.whole c.note_rooms-rooms-2.result (came_on g (goal.at.returns-clause-whole g c).After-with_exchanged-blocks-2) c.requires.counted c.in_ok-blocks-4.ensures.blocks).0

pub returns-clause-state : goal.returns-clause-state
returns-clause-state g c = (cycled c.requires.whole c.note_rooms-rooms-2.result (came_on g (goal.at.returns-clause-state g c).After-with_exchanged-blocks-2) c.requires.counted c.in_ok-blocks-4.ensures.blocks).1
