-- the rule of the board, which holds between any two atomic steps. All of it is this project's
-- profile
use Rattle.std.specs.Prelude.{◌≡◌, ◌<◌, ◌≤◌, ℕ, ◌+◌, [], true, length, min, slice_index}
use lib.ListN.{get_elem?}
use mathlib.Core.Option.{some}
use Rattle.atomic_table.specs.Table.{State}
use Rattle.ultra_board.specs.{declared.{TheConstants.{MOST_NUMBERS, MOST_PASSES, MOST_SEATS}, words.TheConstants.{CLAIM, DONE, PASSES}, rule.{View.View, Limits.Limits}}, View.{times, times_below, total_over_views, spent_places}}

-- what a board can be opened with
pub record IsWithinLimits (k : Limits) : Type 0 where
  pub limit : k.limit ≤ MOST_NUMBERS
  pub some_pass : 1 ≤ k.bound
  pub bound : k.bound ≤ MOST_PASSES
  pub some_seat : 1 ≤ k.seats
  pub seats : k.seats ≤ MOST_SEATS

-- what is true of each view by itself, beside the words claim and done
pub record IsSoundView (k : Limits) (claim done : ℕ) (v : View) : Type 0 where
  -- numbers finished were drawn by the same view, and each is finished once
  pub finished : (i : ℕ) → times i v.finished ≤ times i v.drawn
  -- done never falls
  pub seen : v.seen ≤ done
  pub spent : v.spent ≡ true → k.limit ≤ claim
  -- a seat has at most one try under way
  pub one_try : v.tries ≤ min 1 v.places
  -- every seat holds the limit and the bound
  pub limits : 0 < v.places → (v.limit ≡ k.limit) × (v.bound ≡ k.bound)
  -- a view without places is no seat
  pub no_seat : v.places ≡ 0 → (v.drawn ≡ []) × (v.claims ≡ 0) × (v.held ≡ 0)

-- the rule: of the three words, and over all views
pub record IsBoardRule (k : Limits) (s : State ℕ View) : Type 0 where
  pub limits : IsWithinLimits k
  pub words : length s.words ≡ 3
  -- the numbers drawn are those below the lesser of claim and the limit, each in one view, once
  pub drawn : (i : ℕ)
      → total_over_views (λ (v : View). times i v.drawn) s.views
      ≡ times_below i (min (slice_index s.words CLAIM) k.limit)
  -- n numbers are drawn
  pub drawn_count : total_over_views (λ (v : View). length v.drawn) s.views
      ≡ min (slice_index s.words CLAIM) k.limit
  -- claim is the count of the adds to it
  pub claims : slice_index s.words CLAIM ≡ total_over_views (λ (v : View). v.claims) s.views
  -- it is past the limit by at most the places of spent seats
  pub claim : slice_index s.words CLAIM ≤ k.limit + total_over_views spent_places s.views
  -- done is the count of the numbers finished
  pub done : slice_index s.words DONE ≡ total_over_views (λ (v : View). length v.finished) s.views
  -- passes is the sum of passes held and tries under way
  pub passes : slice_index s.words PASSES
      ≡ total_over_views (λ (v : View). v.held + v.tries) s.views
  pub bounded : total_over_views (λ (v : View). v.held) s.views ≤ k.bound
  -- no place is lost or made
  pub places : total_over_views (λ (v : View). v.places) s.views ≡ k.seats
  pub views : (place : ℕ) (v : View) → get_elem? s.views place ≡ some v
      → IsSoundView k (slice_index s.words CLAIM) (slice_index s.words DONE) v
