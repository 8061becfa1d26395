use Rattle.std.proofs.Common.{◌≡◌, ◌<◌, ℕ, Some}
use Rattle.std.specs.Prelude.{slice_get}
use Rattle.ultra_serial.specs.{DenseCells.dense_cells, Examined.{IsFine, IsWrongAt}}
use Rattle.ultra_serial.proofs.checking.lowest_given.Given as goal

abbrev pub invariant-loop-cell : goal.invariant-loop-cell
invariant-loop-cell l = record {
  kept : (a : ℕ) → IsFine (dense_cells l.left) (dense_cells l.right) l.fn.lowest a → IsFine (dense_cells l.left) (dense_cells l.right) l.found a;
  covered : (k : ℕ) (i : ℕ × ℕ) → k < l.cell-index → slice_get l.given k ≡ Some i → IsFine (dense_cells l.left) (dense_cells l.right) l.found i.0;
  wrong : IsWrongAt (dense_cells l.left) (dense_cells l.right) l.fn.lowest → IsWrongAt (dense_cells l.left) (dense_cells l.right) l.found;
}
