use Rattle.std.proofs.Common.{◌≡◌, ℕ, take}
use Rattle.ultra_pni.specs.{Interface.is_awaited, Registers.has_register}
use Rattle.ultra_pni.proofs.registers.awaited_by.Given as goal

abbrev pub invariant-loop-open : goal.invariant-loop-open
invariant-loop-open l = (r : ℕ) → has_register l.awaited r ≡ is_awaited r (take l.open-index l.opened)
