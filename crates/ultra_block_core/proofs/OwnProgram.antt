-- A block that runs a program makes a half by it.
use Rattle.std.proofs.Common.{◌≡◌, List, arith}
use Rattle.ultra_block_core.proofs.Common.{Instr, Rooms, BlockState, Half, CanMake, after_half, after_own_half}

module _ (program : List Instr) (b : BlockState) where
  pub can_by_own : (half : Half) → CanMake program half b → CanMake b.program half b
  can_by_own half can = grind arith

  pub made_by_own : (half : Half) (rooms : Rooms) → CanMake program half b → after_own_half half rooms b ≡ after_half half rooms program b
  made_by_own half rooms can = grind arith
