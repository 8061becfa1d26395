-- what each kind of atomic step does to the view of the seat that steps, which is v before it and w
-- after it. It finds n in its word. All of it is this project's profile
use Rattle.std.specs.Prelude.{◌≡◌, ℕ, ◌+◌, ◌-◌, ◌<◌, ◌≤◌, [], ◌∷◌, ◌++◌, true, length, Contains}
use Rattle.atomic_table.specs.Table.{Me, Step}
use Rattle.ultra_board.specs.{declared.{TheConstants.MOST_SEATS, rule.View.View}, View.times}

-- a step on this word has this effect on the views, and takes or gives no slot
abbrev pub HasEffect : ℕ → (View → ℕ → View → Type 0)
    → Step ℕ → Me ℕ View → ℕ → Me ℕ View → Type 0
HasEffect word fact s m n w = (s.word ≡ word) × fact m.0 n w.0 × (w.1 ≡ m.1)

-- add to claim, which is counted: an old value below the limit is drawn, which wasn't drawn or
-- finished before; else the seat is spent
pub record AddsToClaim (v : View) (n : ℕ) (w : View) : Type 0 where
  pub drawn : n < v.limit → w ≡ record v { drawn = v.drawn ++ n ∷ []; claims = v.claims + 1 }
  pub fresh : n < v.limit → ¬ Contains v.drawn n
  pub unfinished : n < v.limit → ¬ Contains v.finished n
  pub spent : v.limit ≤ n → w ≡ record v { spent = true; claims = v.claims + 1 }

-- add to done: the number i is finished, and the new value is seen
pub record AddsToDone (i : ℕ) (v : View) (n : ℕ) (w : View) : Type 0 where
  pub view : w ≡ record v { finished = v.finished ++ i ∷ []; seen = n + 1 }
  pub later : v.seen ≤ n
  pub own : length v.finished ≤ n

-- load of done: the value is seen
pub record LoadsDone (v : View) (n : ℕ) (w : View) : Type 0 where
  pub view : w ≡ record v { seen = n; reads = v.reads + 1 }
  pub later : v.seen ≤ n
  pub own : length v.finished ≤ n

-- load of passes, which is counted, and so is a value at or above the bound
pub record LoadsPasses (v : View) (n : ℕ) (w : View) : Type 0 where
  pub free : n < v.bound → w ≡ record v { loads = v.loads + 1 }
  pub full : v.bound ≤ n → w ≡ record v { full = v.full + 1; loads = v.loads + 1 }

-- add to passes, which is counted: an old value below the bound is a pass; else a try is under way,
-- and the value is counted
pub record AddsToPasses (v : View) (n : ℕ) (w : View) : Type 0 where
  pub free : n < v.bound → w ≡ record v { held = v.held + 1; adds = v.adds + 1 }
  pub full : v.bound ≤ n
      → w ≡ record v { tries = v.tries + 1; full = v.full + 1; adds = v.adds + 1 }

-- subtract from passes: a try that is under way is undone, and else one pass fewer is held
pub record SubtractsFromPasses (v w : View) : Type 0 where
  pub undone : 0 < v.tries → w ≡ record v { tries = v.tries - 1 }
  pub left : v.tries ≡ 0 → w ≡ record v { held = v.held - 1 }

-- load of claim, which is counted and looks at no value. A seat has no more places than a board
-- can have, and no number is drawn twice
pub record LoadsClaim (v w : View) : Type 0 where
  pub view : w ≡ record v { claim_loads = v.claim_loads + 1 }
  pub places : v.places ≤ MOST_SEATS
  pub once : (i : ℕ) → times i v.drawn ≤ 1
