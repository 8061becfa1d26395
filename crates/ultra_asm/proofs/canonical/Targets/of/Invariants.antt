use Rattle.std.proofs.Common.{◌≡◌, ℕ, ◌≤◌, get_or, length, take, false}
use Rattle.ultra_asm.specs.Listing.{is_target, IsListable}
use Rattle.ultra_asm.proofs.canonical.Targets.of.Given as goal

abbrev pub invariant-loop-pc : goal.invariant-loop-pc
invariant-loop-pc l = record {
  long : length l.marked ≡ 4097;
  marked : (k : ℕ) → k ≤ 4096 → get_or l.marked k false ≡ is_target (take l.pc l.program) k;
  listable : IsListable (take l.pc l.program);
}
