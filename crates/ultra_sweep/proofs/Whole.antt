-- the results of all calls of `work` on a board, together
use Rattle.std.proofs.Common.{◌≡◌, ℕ, ◌+◌, ◌≤◌, List, ◌∷◌, ◌++◌, length, min, refl, sym, ap, ◌∙◌, arith}
use Rattle.std.specs.Prelude.{◌==◌, slice_index}
use Rattle.atomic_table.specs.Table.{State}
use Rattle.ultra_board.specs.{declared.rule.{View.View, Limits.Limits}, View.{one_if, times, times_below, total_over_views}, Rule.IsBoardRule}
use Rattle.ultra_board.proofs.Times.{times_below-le}
use Rattle.ultra_sweep.specs.{declared.{job.JobResult.JobResult, gathering.GatherFault.{GatherFault, TheVariants.{Double, Stranger, Missing, NoMemory}}}, Job.job_numbers, Gather.{NamesEachOnce, IsNext, ExplainsGatherFault}, Law.{IsSomeSpent, SweepLaw}}
use Rattle.ultra_sweep.proofs.Numbers.{one_if-same, times_below-in, times_below-out, times-middle}

-- the job that comes next is counted once more
counted : (n i : ℕ) (results before : List JobResult) → IsNext n results i before → times i (job_numbers before) + 1 ≤ times i (job_numbers results)
counted n i results before next =
    let all = times-middle i before next.rest next.result in
    let here : times i (job_numbers (before ++ next.result ∷ next.rest)) ≡ times i (job_numbers results) = ap (λ rs. times i (job_numbers rs)) next.there in
    let one : one_if (next.result.number == i) ≡ 1 = ap (λ k. one_if (k == i)) next.number ∙ one_if-same i in
    omega arith

-- where each job is named once, only memory can be wanting
pub only_memory : (n : ℕ) (results : List JobResult) → NamesEachOnce n results → (fault : GatherFault) → ExplainsGatherFault n results fault → fault ≡ NoMemory
only_memory n results once (Double i) (before, next, twice) =
    let more = counted n i results before next in let all = once i in let one = times_below-le i n in absurd (omega arith)
only_memory n results once (Stranger i) (before, next, far) =
    let more = counted n i results before next in let all = once i in let none = times_below-out i n far in absurd (omega arith)
only_memory n results once (Missing i) missing =
    let none = missing.missing in let all = once i in let one = times_below-in i n missing.below in absurd (omega arith)
only_memory n results once NoMemory why = refl

-- what is drawn on a board where a seat is spent
all_drawn : (k : Limits) (s : State ℕ View) → IsBoardRule k s → IsSomeSpent s.views → (i : ℕ) → total_over_views (λ (v : View). times i v.drawn) s.views ≡ times_below i k.limit
all_drawn k s kept spent i =
    let past = (kept.views spent.place spent.view spent.there).spent spent.spent in
    let all : min (slice_index s.words 0) k.limit ≡ k.limit = omega arith in
    kept.drawn i ∙ ap (times_below i) all

pub sweep : SweepLaw
sweep limits state kept spent results all =
    let once : NamesEachOnce limits.limit results = λ i. sym (all i) ∙ all_drawn limits state kept spent i in
    record { once = once; no_other_fault = only_memory limits.limit results once }

-- on a board that was closed by a seat that is spent, each number was drawn once
pub closed : (results : List JobResult) (drawn : List ℕ) (n claimed : ℕ) → drawn ≡ job_numbers results → min claimed n ≡ length drawn → n ≤ claimed → ((i : ℕ) → times i drawn ≡ times_below i (length drawn)) → NamesEachOnce n results
closed results drawn n claimed named count all each i =
    let long : length drawn ≡ n = omega arith in
    ap (times i) (sym named) ∙ (each i ∙ ap (times_below i) long)
