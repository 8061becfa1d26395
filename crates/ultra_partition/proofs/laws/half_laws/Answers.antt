use Rattle.ultra_partition.proofs.{Halves.{can_make_law, half_law}, Happenings.merged_law}
use Rattle.ultra_partition.proofs.laws.half_laws.Goals as goal

pub returns : goal.returns
returns c = record { made = half_law; can_make = can_make_law; merged = merged_law }
