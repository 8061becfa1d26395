-- what a seat knows, and how that changes when seats are split and joined. All of it is this
-- project's profile
use Rattle.std.specs.Prelude.{ℕ, ◌+◌, List, [], ◌∷◌, ◌++◌, Bool, true, false, ◌==◌, ◌||◌, nat_lt, max, if◌then◌else◌}
use Rattle.ultra_board.specs.declared.rule.{View.View, Limits.Limits}

-- the first seat of a board: it has all places and nothing else
abbrev pub first_view : Limits → View
first_view k =
    record {
      drawn = [];
      claims = 0;
      claim_loads = 0;
      finished = [];
      seen = 0;
      reads = 0;
      full = 0;
      loads = 0;
      adds = 0;
      spent = false;
      held = 0;
      tries = 0;
      limit = k.limit;
      bound = k.bound;
      places =
          k.seats;
    }

-- the second seat of a split: one place and nothing else, spent if the first was
abbrev pub second_view : View → View
second_view v =
    record {
      drawn = [];
      claims = 0;
      claim_loads = 0;
      finished = [];
      seen = 0;
      reads = 0;
      full = 0;
      loads = 0;
      adds = 0;
      spent = v.spent;
      held = 0;
      tries = 0;
      limit = v.limit;
      bound = v.bound;
      places = 1;
    }

-- two seats as one
abbrev pub joined_view : View → View → View
joined_view v u = record {
  drawn = v.drawn ++ u.drawn;
  claims = v.claims + u.claims;
  claim_loads = v.claim_loads + u.claim_loads;
  finished = v.finished ++ u.finished;
  seen = max v.seen u.seen;
  reads = v.reads + u.reads;
  full = v.full + u.full;
  loads = v.loads + u.loads;
  adds = v.adds + u.adds;
  spent = v.spent || u.spent;
  held = v.held + u.held;
  tries = v.tries + u.tries;
  limit = v.limit;
  bound = v.bound;
  places = v.places + u.places;
}

-- what a board's join makes of two seats: it joins them, and loads claim once
abbrev pub view_after_join : View → View → View
view_after_join v u = record (joined_view v u) { claim_loads = v.claim_loads + u.claim_loads + 1 }

-- what is left behind of the second seat of a join, which is no seat: it has no numbers, passes or
-- places
abbrev pub no_view : View
no_view =
    record {
      drawn = [];
      claims = 0;
      claim_loads = 0;
      finished = [];
      seen = 0;
      reads = 0;
      full = 0;
      loads = 0;
      adds = 0;
      spent = false;
      held = 0;
      tries = 0;
      limit = 0;
      bound = 0;
      places = 0;
    }

abbrev pub one_if : Bool → ℕ
one_if true = 1
one_if false = 0

-- how often a number occurs in a list
abbrev pub times : ℕ → List ℕ → ℕ
times i [] = 0
times i (k ∷ ks) = one_if (k == i) + times i ks

-- how often a number occurs in the list of all numbers below n
abbrev pub times_below : ℕ → ℕ → ℕ
times_below i n = one_if (nat_lt i n)

-- a sum over views
abbrev pub total_over_views : (View → ℕ) → List View → ℕ
total_over_views f [] = 0
total_over_views f (v ∷ vs) = f v + total_over_views f vs

-- the places of a spent seat
abbrev pub spent_places : View → ℕ
spent_places v = if v.spent then v.places else 0
