use Rattle.std.specs.Prelude.{slice_get}
use Rattle.std.proofs.Common.{◌<◌, length, take, get_or, arith, refl, ap, sym, ◌∙◌, subst, Some, None}
use Rattle.std.proofs.lemmas.{List.{take_more, take_all}, Option.slice_get-get_or, Result.err_from_is_err_and}
use Rattle.ultra_msg.specs.Act.{act}
use Rattle.ultra_serial_law.specs.{Log.{Log, empty_log}, Legal.{Cells, with_cell}}
use Rattle.ultra_serial.specs.{DenseCells.dense_cells, Breach.cells_past, Examined.{Finds, IsFirstAfter, AreExplained}, RecordsByName.Holds}
use Rattle.ultra_serial.proofs.Explaining.{past_more, explained_none, explained_more, first_none, first_more, first_fault, breach_explained}
use Rattle.ultra_serial.proofs.{RecordsByName.{all_above, one_reached}, Searching.some_entry}
use Rattle.ultra_serial.proofs.checking.replay.Goals as goal

abbrev no_log : Log
no_log = empty_log

pub loop-index-init : goal.loop-index-init
loop-index-init c = record {
  explained = λ log h. explained_none (dense_cells c.args.memory.now) log;
  cells = refl;
  first = λ log h. first_none log;
  names = λ log h. h;
  list = c.requires;
  small = omega arith;
}

pub returns-in_err-kind-clause-breach : goal.returns-in_err-kind-clause-breach
returns-in_err-kind-clause-breach c = λ log final h.
    let p = err_from_is_err_and c.from_residual.result c.from_residual.ensures.1 in
    rw (p.1, p.2) tt

pub returns-in_err-add-clause-breach : goal.returns-in_err-add-clause-breach
returns-in_err-add-clause-breach c = λ log final h.
    let p = err_from_is_err_and c.from_residual-in_err-add.result c.from_residual-in_err-add.ensures.1 in
    rw (p.1, p.2) tt

pub returns-in-Some-clause-breach : goal.returns-in-Some-clause-breach
returns-in-Some-clause-breach c = λ log final h.
    let initial = dense_cells c.args.memory.now in
    let xs = c.args.list.now in
    let n = c.loop-index.index in
    let e = get_or xs n some_entry in
    let before = take n xs in
    let from = c.loop-index.from in
    let kind = c.in-Some.kind in
    let names = c.loop-index.invariant.names log h in
    let found : Finds log before from (dense_cells c.loop-index.memory) e (Some kind) = rw c.in-Some.is at c.in_ok-kind.ensures.finds log before names in
    breach_explained initial log final xs kind n (first_fault initial log final xs n from e (slice_get-get_or xs n some_entry (omega arith)) (c.loop-index.invariant.explained log h) (c.loop-index.invariant.first log h) kind
    (subst (λ (m : Cells). Finds log before from m e (Some kind)) c.loop-index.invariant.cells found))

pub loop-index-preserved : goal.loop-index-preserved
loop-index-preserved c =
    let initial = dense_cells c.args.memory.now in
    let xs = c.args.list.now in
    let n = c.loop-index.index in
    let e = get_or xs n some_entry in
    let before = take n xs in
    let from = c.loop-index.from in
    let now = c.after_issues-from.result in
    let b = c.loop-index.names in
    let is = c.issues-issues.result.now in
    let grown = take_more xs n some_entry (omega arith) in
    let i = c.loop-index.invariant in
    record {
      explained = λ log h.
          let found : Finds log before from (dense_cells c.loop-index.memory) e None = rw c.in_default.is at c.in_ok-kind.ensures.finds log before (i.names log h) in
          let finds = subst (λ (m : Cells). Finds log before from m e None) i.cells found in
          subst (λ us. AreExplained initial log us) (sym grown) (explained_more initial log before from e (i.explained log h) finds (i.first log h));
      cells =
          c.in_ok-kind.ensures.acted c.in_default.is
          ∙ (ap (λ (m : Cells). with_cell m e.cell (act e.op (m e.cell)).0) i.cells
          ∙ (sym (past_more initial no_log before from e) ∙ ap (λ us. cells_past initial us) (sym grown)));
      first = λ log h. subst (λ us. IsFirstAfter log us now) (sym grown)
          (first_more initial log before from e (i.first log h) now c.after_issues-from.ensures.no_less
          (all_above b log before (i.names log h) e is c.issues-issues.ensures now c.after_issues-from.ensures.above)
          (one_reached b log before (i.names log h) e is c.issues-issues.ensures from now c.after_issues-from.ensures.reached));
      names = λ log h. subst (λ us. Holds c.add.new.self log us) (sym grown) (c.in_ok-add.ensures.records log before e (ap (λ us. slice_get us n) i.list ∙ slice_get-get_or xs n some_entry (omega arith)) (i.names log h));
      list = c.add.ensures.list ∙ i.list;
      small = c.after_issues-from.ensures.small;
    }

pub add-requires : goal.add-requires
add-requires c = let n = c.loop-index.index in subst (λ us. n < length us) (sym c.loop-index.invariant.list) (omega arith)

pub returns : goal.returns
returns c =
    let all = take_all c.loop-index.index c.args.list.now (omega arith) in
    let initial = dense_cells c.args.memory.now in
    let i = c.loop-index.invariant in
    record {
      cells = i.cells ∙ ap (λ us. cells_past initial us) all;
      names = λ log h. subst (λ us. Holds c.loop-index.names log us) all (i.names log h);
      explained = λ log h. subst (λ us. AreExplained initial log us) all (i.explained log h);
      breach = λ log final h. tt;
    }
