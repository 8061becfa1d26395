-- seats and boards as contracts see them
use Rattle.std.specs.Prelude.{◌≡◌, ◌≤◌, ℕ, ◌+◌, Bool, true, [], length, min}
use Rattle.atomic_table.specs.{Seated.TableId, Table.Me}
use Rattle.ultra_board.specs.{declared.{TheConstants.MOST_SEATS, rule.{View.View, Limits.Limits}}, View.{times, times_below, spent_places}}

-- a seat: which board it is of, and what it knows
pub record SeatState : Type 0 where
  pub board : TableId
  pub view : View

-- a board: which one it is, and what it was opened with
pub record BoardState : Type 0 where
  pub id : TableId
  pub limits : Limits

-- what a seat of the program keeps beside its token (the table knows the token as `me`): the token
-- has no slot, and no try is under way
pub record IsSeat (limit bound places : ℕ) (spent : Bool) (me : Me ℕ View) : Type 0 where
  pub same_limit : me.0.limit ≡ limit
  pub same_bound : me.0.bound ≡ bound
  pub same_places : me.0.places ≡ places
  pub same_spent : me.0.spent ≡ spent
  pub some_place : 1 ≤ places
  pub few_places : places ≤ MOST_SEATS
  pub no_try : me.0.tries ≡ 0
  pub no_slot : me.1 ≡ []

-- what the words claim, done and passes are where the view v has all places
pub record IsTotal (v : View) (claim done passes : ℕ) : Type 0 where
  pub asked : claim ≡ v.claims
  pub claimed : min claim v.limit ≡ length v.drawn
  pub spent : v.spent ≡ true → v.limit ≤ claim
  pub most_claimed : claim ≤ v.limit + spent_places v
  pub each_once : (i : ℕ) → times i v.drawn ≡ times_below i (length v.drawn)
  pub finished : done ≡ length v.finished
  pub finished_once : (i : ℕ) → times i v.finished ≤ times i v.drawn
  pub held : passes ≡ v.held
  pub bounded : v.held ≤ v.bound
