use Rattle.std.proofs.Common.{◌≡◌, ◌+◌, ℕ, List, ◌∷◌, [], ◌++◌, ap, subst, length, arith, length-append}
use Rattle.std.specs.Prelude.{All, IfOk, Result}
use Rattle.std.proofs.lemmas.{Result.IfOk-weaker, List.Elements.{All-head, All-rest}}
use Rattle.ultra_board.specs.Seat.{BoardState}
use Rattle.ultra_args.specs.declared.sweep_output.SweepOutput.{SweepOutput}
use Rattle.ultra_sweep.specs.declared.job.Job.{Job}
use Rattle.ultra_sweep_command.specs.{declared.seat_results.SeatResults.SeatResults, SeatResults.{AreSeatResults, AreWholeResults, HasTakenPart}}
use Rattle.ultra_sweep_command.proofs.sweep_threads.join_all.Goals as goal
use Rattle.ultra_sweep_command.proofs.sweep_threads.join_all.Goals.{in-Ok, in-Err}

-- the results of the seats so far, with one more
next : {E : Type 0} (output : SweepOutput) (board : BoardState) (jobs : List Job) (k m : ℕ) (own other : SeatResults) (sum : Result SeatResults E) → IfOk sum (λ all. (o : SweepOutput) (js : List Job) (n : ℕ) → AreWholeResults o board js n own → AreSeatResults o board js 1 other → AreWholeResults o board js (n + 1) all) → AreWholeResults output board jobs k own → AreSeatResults output board jobs 1 other → k + 1 ≡ m → IfOk sum (AreWholeResults output board jobs m)
next output board jobs k m own other sum joined before part more =
    IfOk-weaker sum _ (AreWholeResults output board jobs m) (λ all h. subst (λ n. AreWholeResults output board jobs n all) more (h output jobs k before part)) joined

pub join_seat_results-requires-clause-other : goal.join_seat_results-requires-clause-other
join_seat_results-requires-clause-other g c =
    let mine : c.in-Some.thread.promise ≡ c.args.task = All-head (λ t. t.promise ≡ c.args.task) c.in-Some.thread c.next.new.self.rest.items (subst (All (λ t. t.promise ≡ c.args.task)) c.in-Some.ensures.steps.0 c.loop-thread.invariant.rest) in
    let kept = subst (λ task. HasTakenPart task.output.now task.board.now task.jobs.now c.join.result) mine c.join.ensures in
    (c.results_given-seat_results.ensures c.args.task.output.now c.args.task.board.now c.args.task.jobs.now kept).same_board

pub loop-thread-preserved-then-if-drop : goal.loop-thread-preserved-then-if-drop
loop-thread-preserved-then-if-drop g c =
    let so_far = c.loop-thread.invariant in
    let seen = c.loop-thread.yielded in
    let thread = c.in-Some.thread in
    let steps = c.in-Some.ensures.steps.0 in
    let mine : thread.promise ≡ c.args.task = All-head (λ t. t.promise ≡ c.args.task) thread c.next.new.self.rest.items (subst (All (λ t. t.promise ≡ c.args.task)) steps so_far.rest) in
    let kept = subst (λ task. HasTakenPart task.output.now task.board.now task.jobs.now c.join.result) mine c.join.ensures in
    let part = c.results_given-seat_results.ensures c.args.task.output.now c.args.task.board.now c.args.task.jobs.now kept in
    let longer = length-append seen (thread ∷ []) in
    let shorter = ap length steps in
    let count = so_far.count in
    let one_more : length seen + 1 + 1 ≡ length (seen ++ thread ∷ []) + 1 = omega arith in
    record {
      rest = All-rest (λ t. t.promise ≡ c.args.task) thread c.next.new.self.rest.items c.loop-thread.thread-iterator.rest.items steps so_far.rest;
      count = omega arith;
      all =
          elim c.match-all.branch [
            | in-Ok w ↦ rw w.all-is (next c.args.task.output.now c.args.task.board.now c.args.task.jobs.now (length seen + 1) (length (seen ++ thread ∷ []) + 1) w.in-Ok.all c.results_given-seat_results.result w.join_seat_results.result w.join_seat_results.ensures (rw w.in-Ok.is at so_far.all) part one_more)
            | in-Err w ↦ rw w.all-is tt
          ];
    }

pub loop-thread-preserved : goal.loop-thread-preserved
loop-thread-preserved g c =
    let so_far = c.loop-thread.invariant in
    let seen = c.loop-thread.yielded in
    let thread = c.in-Some.thread in
    let steps = c.in-Some.ensures.steps.0 in
    let mine : thread.promise ≡ c.args.task = All-head (λ t. t.promise ≡ c.args.task) thread c.next.new.self.rest.items (subst (All (λ t. t.promise ≡ c.args.task)) steps so_far.rest) in
    let kept = subst (λ task. HasTakenPart task.output.now task.board.now task.jobs.now c.join.result) mine c.join.ensures in
    let part = c.results_given-seat_results.ensures c.args.task.output.now c.args.task.board.now c.args.task.jobs.now kept in
    let longer = length-append seen (thread ∷ []) in
    let shorter = ap length steps in
    let count = so_far.count in
    let one_more : length seen + 1 + 1 ≡ length (seen ++ thread ∷ []) + 1 = omega arith in
    record {
      rest = All-rest (λ t. t.promise ≡ c.args.task) thread c.next.new.self.rest.items c.loop-thread.thread-iterator.rest.items steps so_far.rest;
      count = omega arith;
      all =
          elim c.match-all.branch [
            | in-Ok w ↦ rw w.all-is (next c.args.task.output.now c.args.task.board.now c.args.task.jobs.now (length seen + 1) (length (seen ++ thread ∷ []) + 1) w.in-Ok.all c.results_given-seat_results.result w.join_seat_results.result w.join_seat_results.ensures (rw w.in-Ok.is at so_far.all) part one_more)
            | in-Err w ↦ rw w.all-is tt
          ];
    }
