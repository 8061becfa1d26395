-- jobs that are done in order
use Rattle.std.proofs.Common.{◌≡◌, ℕ, ◌+◌, ◌<◌, ◌≤◌, List, [], ◌∷◌, ◌++◌, length, refl, sym, ap, subst, ◌∙◌, append_assoc, length-append, get_or, arith}
use Rattle.std.specs.Prelude.{Some, IfSome, slice_get, Contains}
use Rattle.std.proofs.lemmas.Option.{slice_get_read}
use Rattle.ultra_board.specs.{declared.rule.View.View, View.{times, times_below}}
use Rattle.ultra_sweep.specs.{declared.job.{Job.Job, JobResult.JobResult}, Job.{job_numbers, IsOutcomeOf, IsResultOf, IsResultAmong}, Work.{HasDone, HasDoneAll}}
use Rattle.ultra_sweep.proofs.Numbers.{room, not_in_second}

-- a number more was drawn, and then finished
pub done_more : (ns : List ℕ) (i : ℕ) (v s u w : View) → HasDoneAll ns v s → u ≡ record s { drawn = s.drawn ++ i ∷ []; claims = s.claims + 1 } → HasDone i u w → HasDoneAll (ns ++ i ∷ []) v w
done_more ns i v s u w done drew did =
    let drawn : w.drawn ≡ v.drawn ++ (ns ++ i ∷ []) =
    ap (λ (x : View). x.drawn) did.view ∙ (ap (λ (x : View). x.drawn) drew ∙ (ap (λ (x : View). x.drawn ++ i ∷ []) done.view ∙ append_assoc v.drawn ns (i ∷ []))) in
    let finished : w.finished ≡ v.finished ++ (ns ++ i ∷ []) =
    ap (λ (x : View). x.finished) did.view ∙ (ap (λ (x : View). x.finished ++ i ∷ []) drew ∙ (ap (λ (x : View). x.finished ++ i ∷ []) done.view ∙ append_assoc v.finished ns (i ∷ []))) in
    let claim_loads : w.claim_loads ≡ v.claim_loads = ap (λ (x : View). x.claim_loads) did.view ∙ (ap (λ (x : View). x.claim_loads) drew ∙ ap (λ (x : View). x.claim_loads) done.view) in
    let reads : w.reads ≡ v.reads = ap (λ (x : View). x.reads) did.view ∙ (ap (λ (x : View). x.reads) drew ∙ ap (λ (x : View). x.reads) done.view) in
    let spent : w.spent ≡ v.spent = ap (λ (x : View). x.spent) did.view ∙ (ap (λ (x : View). x.spent) drew ∙ ap (λ (x : View). x.spent) done.view) in
    let held : w.held ≡ v.held = ap (λ (x : View). x.held) did.view ∙ (ap (λ (x : View). x.held) drew ∙ ap (λ (x : View). x.held) done.view) in
    let tries : w.tries ≡ v.tries = ap (λ (x : View). x.tries) did.view ∙ (ap (λ (x : View). x.tries) drew ∙ ap (λ (x : View). x.tries) done.view) in
    let limit : w.limit ≡ v.limit = ap (λ (x : View). x.limit) did.view ∙ (ap (λ (x : View). x.limit) drew ∙ ap (λ (x : View). x.limit) done.view) in
    let bound : w.bound ≡ v.bound = ap (λ (x : View). x.bound) did.view ∙ (ap (λ (x : View). x.bound) drew ∙ ap (λ (x : View). x.bound) done.view) in
    let places : w.places ≡ v.places = ap (λ (x : View). x.places) did.view ∙ (ap (λ (x : View). x.places) drew ∙ ap (λ (x : View). x.places) done.view) in
    let one = did.one_pass in
    let others = done.passes in
    let loads : u.loads ≡ s.loads = ap (λ (x : View). x.loads) drew in
    let full : u.full ≡ s.full = ap (λ (x : View). x.full) drew in
    let longer = length-append ns (i ∷ []) in record {
      view = rw (sym drawn, sym claim_loads, sym finished, sym reads, sym spent, sym held, sym tries, sym limit, sym bound, sym places) refl;
      passes = omega arith;
    }

-- a result of the job at a place is one of these jobs
pub among : (text : ℕ → Job → List ℕ) (jobs : List Job) (i : ℕ) (job : Job) (r : JobResult) → i < length jobs → job ≡ get_or jobs i job → IsResultOf text i job r → IsResultAmong text jobs r
among text jobs i job r below at its =
    let here : slice_get jobs r.number ≡ Some job = ap (slice_get jobs) its.number ∙ slice_get_read jobs (length jobs) i job refl below at in
    record {
      named = subst (λ k. k < length jobs) (sym its.number) below;
      outcome = subst (λ o. IfSome o (λ j. IsOutcomeOf (text r.number j) r.outcome)) (sym here) (subst (λ k. IsOutcomeOf (text k job) r.outcome) (sym its.number) its.outcome);
    }

-- a number that was drawn names a job that no result names yet, so there is room for one result more
module _ (jobs : List Job) (rs : List JobResult) (i : ℕ) (v s : View) (done : HasDoneAll (job_numbers rs) v s) (limit : v.limit ≡ length jobs)
    (within : (k : ℕ) → times k (job_numbers rs) ≤ times_below k (length jobs)) (below : i < s.limit) (fresh : ¬ Contains s.drawn i) where
  pub is_below : i < length jobs
  is_below = let same = ap (λ (x : View). x.limit) done.view in omega arith

  pub is_new : times i (job_numbers rs) ≡ 0
  is_new = not_in_second i v.drawn (job_numbers rs) (subst (λ ns. ¬ Contains ns i) (ap (λ (x : View). x.drawn) done.view) fresh)

  pub has_room : length rs < length jobs
  has_room = room (length jobs) rs i within is_below is_new
