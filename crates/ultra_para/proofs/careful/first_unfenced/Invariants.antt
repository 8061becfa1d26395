use Rattle.std.proofs.Common.{ℕ, ◌≡◌, ◌<◌, drop, true}
use Rattle.ultra_para.specs.Careful.{is_careful, is_fenced_pc}
use Rattle.ultra_para.proofs.careful.first_unfenced.Given as goal

abbrev pub invariant-loop-pc : goal.invariant-loop-pc
invariant-loop-pc l = record {
  rest : is_careful l.program ≡ is_careful (drop l.pc l.program);
  before : (j : ℕ) → j < l.pc → is_fenced_pc l.program j ≡ true;
}
