use Rattle.std.proofs.{Common.{ℕ, arith}, lemmas.Option.slice_get_within}
use Rattle.ultra_serial.specs.{DenseCells.dense_cells, Examined.IsFine}
use Rattle.ultra_serial.proofs.Searching.{none_below, more_below}
use Rattle.ultra_serial.proofs.checking.lowest_given.Goals as goal

pub loop-cell-init : goal.loop-cell-init
loop-cell-init c = record {
  kept = λ a h. h;
  covered = none_below c.args.given.now (λ (p : ℕ × ℕ). IsFine (dense_cells c.args.left.now) (dense_cells c.args.right.now) c.args.lowest p.0);
  wrong = λ h. h;
}

pub loop-cell-preserved : goal.loop-cell-preserved
loop-cell-preserved c =
    let i = c.loop-cell.invariant in
    record {
      kept = λ a h. c.lower-found.ensures.kept a (i.kept a h);
      covered = more_below c.args.given.now (λ (p : ℕ × ℕ). IsFine (dense_cells c.args.left.now) (dense_cells c.args.right.now) c.lower-found.result p.0) c.loop-cell.cell-index _
          (λ k p l at. c.lower-found.ensures.kept p.0 (i.covered k p l at)) c.lower-found.ensures.covered;
      wrong = λ h. c.lower-found.ensures.wrong (i.wrong h);
    }

pub returns : goal.returns
returns c =
    let i = c.loop-cell.invariant in
    record {
      kept = i.kept;
      covered = λ k p at. i.covered k p (omega (arith, slice_get_within c.args.given.now k p at)) at;
      wrong = i.wrong;
    }
