use Rattle.std.proofs.Common.{◌≡◌, zero, suc, ◌≤◌, [], ◌∷◌, ◌++◌, length, sym, ap, subst, ◌∙◌, arith, length-append}
use Rattle.std.specs.Prelude.{All}
use Rattle.std.proofs.lemmas.List.Elements.{All-append}
use Rattle.ultra_board.specs.View.{times, times_below}
use Rattle.ultra_sweep.specs.{declared.job.JobResult.JobResult, Job.{job_numbers, IsResultAmong}, Work.HasDoneAll}
use Rattle.ultra_sweep.proofs.{Numbers.{one_more, job_numbers-push}, Doing.{done_more, among, is_below, is_new, has_room}}
use Rattle.ultra_sweep.proofs.working.work.Goals as goal

pub push_reserved-requires : goal.push_reserved-requires
push_reserved-requires g c =
    let so_far = c.loop-number.invariant in
    let some_room = has_room c.args.jobs.now c.loop-number.results.items c.in-Some.number c.args.seat.view c.loop-number.seat.view so_far.done c.requires.jobs so_far.within c.in-Some.ensures.below c.in-Some.ensures.fresh in
    let long = c.loop-number.results.ok.0 in
    let room = so_far.room in
    omega arith

pub loop-number-smaller : goal.loop-number-smaller
loop-number-smaller g c =
    let so_far = c.loop-number.invariant in
    let some_room = has_room c.args.jobs.now c.loop-number.results.items c.in-Some.number c.args.seat.view c.loop-number.seat.view so_far.done c.requires.jobs so_far.within c.in-Some.ensures.below c.in-Some.ensures.fresh in
    let longer = ap length c.push_reserved.ensures.items ∙ length-append c.loop-number.results.items (c.do_job-result.result ∷ []) in
    omega arith

pub loop-number-preserved : goal.loop-number-preserved
loop-number-preserved g c =
    let so_far = c.loop-number.invariant in
    let text = g.G.JobGate.text c.args.gate.now in
    let jobs = c.args.jobs.now in
    let rs = c.loop-number.results.items in
    let i = c.in-Some.number in
    let r = c.do_job-result.result in
    let v = c.args.seat.view in
    let s = c.loop-number.seat.view in
    let w = c.do_job-result.new.seat.view in
    let below = is_below jobs rs i v s so_far.done c.requires.jobs so_far.within c.in-Some.ensures.below c.in-Some.ensures.fresh in
    let new = is_new jobs rs i v s so_far.done c.requires.jobs so_far.within c.in-Some.ensures.below c.in-Some.ensures.fresh in
    let its = c.do_job-result.ensures.result in
    let named : job_numbers c.push_reserved.new.self.items ≡ job_numbers rs ++ i ∷ [] =
    ap job_numbers c.push_reserved.ensures.items ∙ (job_numbers-push rs r ∙ ap (λ k. job_numbers rs ++ k ∷ []) its.number) in
    record {
      board = c.do_job-result.ensures.board ∙ (ap (λ q. q.board) c.in-Some.ensures.number ∙ so_far.board);
      done = subst (λ ns. HasDoneAll ns v w) (sym named) (done_more (job_numbers rs) i v s c.draw.new.seat.view w so_far.done (ap (λ q. q.view) c.in-Some.ensures.number) c.do_job-result.ensures.done);
      results = subst (All (IsResultAmong text jobs)) (sym c.push_reserved.ensures.items)
          (All-append (IsResultAmong text jobs) rs (r ∷ []) so_far.results (only text jobs r (among text jobs i c.index-jobs-number.result r below c.index-jobs-number.is its)));
      within = λ k. subst (λ ns. times k ns ≤ times_below k (length jobs)) (sym named) (one_more (length jobs) (job_numbers rs) i so_far.within below new k);
      room = let same = c.push_reserved.ensures.capacity in let before = so_far.room in omega arith;
    }
  where
    only : (text : _) (jobs : _) (r : JobResult) → IsResultAmong text jobs r → All (IsResultAmong text jobs) (r ∷ [])
    only text jobs r h zero d lt = h
    only text jobs r h (suc k) d lt = absurd (omega arith)
