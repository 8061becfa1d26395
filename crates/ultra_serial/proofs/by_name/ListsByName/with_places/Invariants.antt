use Rattle.std.proofs.Common.{◌≡◌, ℕ, List, []}
use Rattle.ultra_serial.specs.ByName.{list_named}
use Rattle.ultra_serial.proofs.by_name.ListsByName.with_places.Given as goal

abbrev pub invariant-loop-row : goal.invariant-loop-row
invariant-loop-row g l = (whole : List g.row.T.Denot) (a b : ℕ) → list_named l.named whole a b ≡ []
