use Rattle.std.proofs.{Common.arith, lemmas.Option.slice_get_within}
use Rattle.ultra_serial_law.specs.declared.records.Entry.{Entry}
use Rattle.ultra_serial.specs.{DenseCells.dense_cells, Examined.IsFine}
use Rattle.ultra_serial.proofs.Searching.{none_below, more_below}
use Rattle.ultra_serial.proofs.checking.lowest_used.Goals as goal

pub loop-entry-init : goal.loop-entry-init
loop-entry-init c = record {
  kept = λ a h. h;
  covered = none_below c.args.list.now (λ (e : Entry). IsFine (dense_cells c.args.left.now) (dense_cells c.args.right.now) c.args.lowest e.cell);
  wrong = λ h. h;
}

pub loop-entry-preserved : goal.loop-entry-preserved
loop-entry-preserved c =
    let i = c.loop-entry.invariant in
    record {
      kept = λ a h. c.lower-found.ensures.kept a (i.kept a h);
      covered = more_below c.args.list.now (λ (e : Entry). IsFine (dense_cells c.args.left.now) (dense_cells c.args.right.now) c.lower-found.result e.cell) c.loop-entry.entry-index _
          (λ k e l at. c.lower-found.ensures.kept e.cell (i.covered k e l at)) c.lower-found.ensures.covered;
      wrong = λ h. c.lower-found.ensures.wrong (i.wrong h);
    }

pub returns : goal.returns
returns c =
    let i = c.loop-entry.invariant in
    record {
      kept = i.kept;
      covered = λ k e at. i.covered k e (omega (arith, slice_get_within c.args.list.now k e at)) at;
      wrong = i.wrong;
    }
