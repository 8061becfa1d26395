-- serving keeps the number of cells
use Rattle.std.proofs.Common.{◌≡◌, refl, length, Option, Some, None}
use Rattle.std.proofs.Math.ListN.{length-set}
use Rattle.ultra_mem.specs.{declared.Placed.Placed, Serve.{ModuleState, after_serving, serve, to_serve}}

length-after_serving : (b : ModuleState) (p : Option Placed) → length (after_serving b p).cells ≡ length b.cells
length-after_serving b None = refl
length-after_serving b (Some p) = length-set _ _ _

pub length-serve : (b : ModuleState) → length (serve b).cells ≡ length b.cells
length-serve b = length-after_serving b (to_serve b)
