-- what a call of `work` does to the view of its seat, which is v before it and w after it; this
-- project's profile
use Rattle.std.specs.Prelude.{◌≡◌, ℕ, ◌+◌, List, [], ◌∷◌, ◌++◌, length, true, All}
use Rattle.ultra_board.specs.declared.rule.View.{View}
use Rattle.ultra_sweep.specs.{declared.job.{Job.Job, JobResult.JobResult}, Job.{job_numbers, IsResultAmong}}

-- n passes were taken: the passes were loaded once for each, and once each time that they were found
-- to be full. How often that was is open
abbrev pub HasTaken : ℕ → View → View → Type 0
HasTaken n v w = w.loads + v.full ≡ v.loads + n + w.full

-- a pass was taken, and no other before it
pub record HasEntered (v w : View) : Type 0 where
  pub view : w ≡ record v { held = 1; full = w.full; loads = w.loads; adds = w.adds }
  pub one_pass : HasTaken 1 v w

-- a number was finished, after one pass was taken and given back
pub record HasDone (number : ℕ) (v w : View) : Type 0 where
  pub view :
      w ≡ record v {
        finished = v.finished ++ number ∷ [];
        seen = w.seen;
        full = w.full;
        loads = w.loads;
        adds = w.adds;
      }
  pub one_pass : HasTaken 1 v w

-- these numbers were drawn and finished, and a pass was taken and given back for each
pub record HasDoneAll (ns : List ℕ) (v w : View) : Type 0 where
  pub view :
      w ≡ record v {
        drawn = v.drawn ++ ns;
        claims = w.claims;
        finished = v.finished ++ ns;
        seen = w.seen;
        full = w.full;
        loads = w.loads;
        adds = w.adds;
      }
  pub passes : HasTaken (length ns) v w

-- the jobs that were drawn in the call are those that its results name, in their order. Each is
-- finished, and none is left to draw
pub record HasWorked (text : ℕ → Job → List ℕ) (jobs : List Job) (v w : View)
    (rs : List JobResult) : Type 0 where
  pub done : HasDoneAll (job_numbers rs) (record v { spent = true }) w
  pub results : All (IsResultAmong text jobs) rs
