use Rattle.std.proofs.Common.{◌≡◌, ◌<◌, ℕ, Some}
use Rattle.std.specs.Prelude.{slice_get}
use Rattle.ultra_serial_law.specs.declared.records.Entry.{Entry}
use Rattle.ultra_serial.specs.{DenseCells.dense_cells, Examined.{IsFine, IsWrongAt}}
use Rattle.ultra_serial.proofs.checking.lowest_used.Given as goal

abbrev pub invariant-loop-entry : goal.invariant-loop-entry
invariant-loop-entry l = record {
  kept : (a : ℕ) → IsFine (dense_cells l.left) (dense_cells l.right) l.fn.lowest a → IsFine (dense_cells l.left) (dense_cells l.right) l.found a;
  covered : (k : ℕ) (e : Entry) → k < l.entry-index → slice_get l.list k ≡ Some e → IsFine (dense_cells l.left) (dense_cells l.right) l.found e.cell;
  wrong : IsWrongAt (dense_cells l.left) (dense_cells l.right) l.fn.lowest → IsWrongAt (dense_cells l.left) (dense_cells l.right) l.found;
}
