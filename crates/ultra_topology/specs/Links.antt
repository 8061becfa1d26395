-- the links between units, and what is on them
use Rattle.std.specs.Prelude.{ℕ, List, Option, Some, None, slice_set}

-- the links of a machine of `stages` stages: by its number, what is on each; and at least the units
-- to which messages lead, as a set
pub record LinksState (M : Type 0) : Type 0 where
  pub stages : ℕ
  pub table : List (Option M)
  pub targets : List ℕ

-- a table of links with a message put on one of them, if there is one
abbrev pub put_on : {M : Type 0} → List (Option M) → ℕ → Option M → List (Option M)
put_on table link None = table
put_on table link (Some m) = slice_set table link (Some m)
