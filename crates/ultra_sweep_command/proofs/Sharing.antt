-- who is started, seats that stay fresh, and the results of two seats that become those of one
use Rattle.std.proofs.Common.{◌≡◌, ◌∙◌, ◌+◌, ◌-◌, ◌<◌, min, if◌then◌else◌, Bool, true, false, ℕ, List, ◌++◌, refl, ap, subst, sym, arith, inl, inr}
use Rattle.std.proofs.lemmas.List.{map-append, Elements.All-append}
use Rattle.std.specs.List.{All}
use Rattle.ultra_board.specs.{Seat.{SeatState, BoardState}, View.{view_after_join, second_view}}
use Rattle.ultra_args.specs.declared.sweep_output.SweepOutput.{SweepOutput}
use Rattle.ultra_sweep.specs.{declared.job.{Job.Job, JobResult.JobResult}, Job.{job_numbers, IsResultAmong}}
use Rattle.ultra_sweep_command.specs.{Output.job_output, declared.seat_results.SeatResults.SeatResults, SeatResults.{IsFresh, AreSeatResults, AreWholeResults, HasRead}, Sweep.StartsThreads}

-- where one of several threads is started
pub starts_threads : (workers : ℕ) (progress : Bool) → 0 < (if progress then min workers 63 else workers - 1) → StartsThreads workers progress
starts_threads workers true some = inl refl
starts_threads workers false some = inr (λ one. absurd (omega (arith, one, some)))

-- a seat stays fresh when it reads how many jobs are finished
pub fresh-read : (board : BoardState) (n : ℕ) (old new : SeatState) → new.board ≡ old.board → HasRead old.view new.view → IsFresh board n old → IsFresh board n new
fresh-read board n old new same read fresh = record {
  same_board = same ∙ fresh.same_board;
  same_places = ap (λ v. v.places) read ∙ fresh.same_places;
  same_limit = ap (λ v. v.limit) read ∙ fresh.same_limit;
  undrawn = ap (λ v. v.drawn) read ∙ fresh.undrawn;
  no_pass = ap (λ v. v.held) read ∙ fresh.no_pass;
}

-- a seat is split: the rest, with one place fewer, and the one
module _ (board : BoardState) (n : ℕ) (seat : SeatState) where
  pub fresh-rest : (rest : SeatState) → rest ≡ record seat { view = record seat.view { places = seat.view.places - 1 } } → IsFresh board (n + 1) seat → IsFresh board n rest
  fresh-rest rest is fresh =
      let places : rest.view.places ≡ seat.view.places - 1 = ap (λ s. s.view.places) is in
      let all = fresh.same_places in record {
        same_board = ap (λ s. s.board) is ∙ fresh.same_board;
        same_places = omega arith;
        same_limit = ap (λ s. s.view.limit) is ∙ fresh.same_limit;
        undrawn = ap (λ s. s.view.drawn) is ∙ fresh.undrawn;
        no_pass = ap (λ s. s.view.held) is ∙ fresh.no_pass;
      }

  pub fresh-one : (one : SeatState) → one ≡ record seat { view = second_view seat.view } → IsFresh board n seat → IsFresh board 1 one
  fresh-one one is fresh = record {
    same_board = ap (λ s. s.board) is ∙ fresh.same_board;
    same_places = ap (λ s. s.view.places) is;
    same_limit = ap (λ s. s.view.limit) is ∙ fresh.same_limit;
    undrawn = ap (λ s. s.view.drawn) is;
    no_pass = ap (λ s. s.view.held) is;
  }

-- the results of a seat that is spent, and those of a seat of one place, become those of one seat
module _ (output : SweepOutput) (board : BoardState) (jobs : List Job) (n : ℕ) (seat_results other all : SeatResults) where
  drawn-joined : all.seat.view ≡ view_after_join seat_results.seat.view other.seat.view → all.results.items ≡ seat_results.results.items ++ other.results.items → seat_results.seat.view.drawn ≡ job_numbers seat_results.results.items → other.seat.view.drawn ≡ job_numbers other.results.items → all.seat.view.drawn ≡ job_numbers all.results.items
  drawn-joined view results first second =
      let both : seat_results.seat.view.drawn ++ other.seat.view.drawn ≡ job_numbers seat_results.results.items ++ job_numbers other.results.items =
      ap (λ ks. ks ++ other.seat.view.drawn) first ∙ ap (λ ks. job_numbers seat_results.results.items ++ ks) second in
      ap (λ v. v.drawn) view ∙ (both ∙ (sym (map-append (λ (r : JobResult). r.number) seat_results.results.items other.results.items) ∙ ap job_numbers (sym results)))

  pub whole-joined : all.seat ≡ record seat_results.seat { view = view_after_join seat_results.seat.view other.seat.view } → all.results.items ≡ seat_results.results.items ++ other.results.items → AreWholeResults output board jobs n seat_results → AreSeatResults output board jobs 1 other → AreWholeResults output board jobs (n + 1) all
  whole-joined seat results whole part =
      let view = ap (λ s. s.view) seat in record {
        part = record {
          same_board = ap (λ s. s.board) seat ∙ whole.part.same_board;
          same_places = ap (λ v. v.places) view ∙ (ap (λ k. k + other.seat.view.places) whole.part.same_places ∙ ap (λ k. n + k) part.same_places);
          same_limit = ap (λ v. v.limit) view ∙ whole.part.same_limit;
          drawn = drawn-joined view results whole.part.drawn part.drawn;
          results = subst (All (IsResultAmong (job_output output) jobs)) (sym results) (All-append (IsResultAmong (job_output output) jobs) seat_results.results.items other.results.items whole.part.results part.results);
        };
        spent = rw (ap (λ v. v.spent) view, whole.spent) refl;
      }
