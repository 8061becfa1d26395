use Rattle.std.proofs.Common.{◌≡◌, ◌∙◌, ◌<◌, ◌+◌, ◌-◌, ℕ, ◌∷◌, [], ap, sym, subst, length, arith, length-append}
use Rattle.std.specs.Prelude.{All}
use Rattle.std.proofs.lemmas.List.Elements.{All-push}
use Rattle.ultra_board.specs.Seat.{BoardState, SeatState}
use Rattle.ultra_sweep_command.specs.SeatResults.{IsFresh}
use Rattle.ultra_sweep_command.proofs.sweep_threads.SweepThreads.start.Goals as goal

-- what is left of a seat of n places, when some of them are still to be split off
fresh-rest : (board : BoardState) (n k count : ℕ) (seat rest : SeatState) → n + k ≡ count + 1 → k < count → IsFresh board n seat → ((m : ℕ) → IsFresh board (m + 1) seat → IsFresh board m rest) → IsFresh board (n - 1) rest
fresh-rest board n k count seat rest left more fresh split =
    let one_more : n ≡ n - 1 + 1 = omega arith in
    split (n - 1) (subst (λ m. IsFresh board m seat) one_more fresh)

pub stop_early-requires : goal.stop_early-requires
stop_early-requires g c =
    let so_far = c.loop.invariant in
    let fresh = fresh-rest c.args.task.board.now so_far.fresh.0 c.loop.counter c.args.count c.loop.sweep_threads.seat c.split_off-rest.result.0 so_far.fresh.1 c.loop-test.true so_far.fresh.2 c.split_off-rest.ensures.rest in
    fresh.same_board ∙ ap (λ task. task.board.now.id) (sym so_far.task)

pub loop-preserved : goal.loop-preserved
loop-preserved g c =
    let so_far = c.loop.invariant in
    let n = so_far.fresh.0 in
    let left = so_far.fresh.1 in
    let more = c.loop-test.true in
    let thread = c.in-Ok.thread in
    let longer = ap length c.push_reserved.ensures.items ∙ length-append c.loop.sweep_threads.threads.items (thread ∷ []) in
    let count = so_far.threads in
    let same = c.push_reserved.ensures.capacity in
    let room = so_far.room in
    record {
      task = so_far.task;
      fresh = (n - 1, omega arith, fresh-rest c.args.task.board.now n c.loop.counter c.args.count c.loop.sweep_threads.seat c.split_off-rest.result.0 left more so_far.fresh.2 c.split_off-rest.ensures.rest);
      parts = subst (All (λ t. t.promise ≡ c.args.task)) (sym c.push_reserved.ensures.items) (All-push (λ t. t.promise ≡ c.args.task) c.loop.sweep_threads.threads.items thread so_far.parts c.in-Ok.ensures.part);
      threads = omega arith;
      room = omega arith;
    }
