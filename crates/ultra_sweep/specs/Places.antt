-- a place for the text of each job; this project's profile
use Rattle.std.specs.Prelude.{◌≡◌, ◌<◌, ◌≤◌, ℕ, List, ◌∷◌, ◌++◌, Option, Some, None, IsSome, Vec, length, map, slice_index_or, slice_set}
use Rattle.std.specs.declared.alloc.Global.{Global}
use Rattle.ultra_sweep.specs.declared.{job.JobResult.JobResult, gathering.GatherFault.{GatherFault, TheVariants.{Double, Stranger, Missing, NoMemory}}}
use Rattle.ultra_sweep.specs.declared.job.JobOutcome.TheVariants as outcome

abbrev pub TextPlaces : Type 0
TextPlaces = List (Option (Vec ℕ Global))

-- what is in the place of job i
abbrev pub text_in_place : TextPlaces → ℕ → Option (Vec ℕ Global)
text_in_place places i = slice_index_or places i None

-- a result's text went into the place of its job, which was empty
pub record IsPut (it : JobResult) (old new : TextPlaces) : Type 0 where
  pub below : it.number < length old
  pub empty : text_in_place old it.number ≡ None
  pub text : Vec ℕ Global
  pub outcome : it.outcome ≡ outcome.Text text
  pub full : new ≡ slice_set old it.number (Some text)

-- why it didn't
abbrev pub ExplainsPutFault : JobResult → TextPlaces → GatherFault → Type 0
ExplainsPutFault it places (Double i) =
    (it.number ≡ i) × (i < length places) × IsSome (text_in_place places i)
ExplainsPutFault it places (Stranger i) = (it.number ≡ i) × (length places ≤ i)
ExplainsPutFault it places (Missing i) = ⊥
ExplainsPutFault it places NoMemory =
    (it.number < length places) × (text_in_place places it.number ≡ None)
    × (it.outcome ≡ outcome.NoMemory)

-- the first empty place is that of job i
pub record IsFirstEmpty (places : TextPlaces) (i : ℕ) : Type 0 where
  pub full : List (Vec ℕ Global)
  pub rest : TextPlaces
  pub there : map Some full ++ None ∷ rest ≡ places
  pub number : length full ≡ i
