use Rattle.std.proofs.lemmas.Result.{err_from_is_err_and}
use Rattle.ultra_serial.specs.{declared.checking.BreachKind.TheVariants.Missing, DenseCells.dense_cells}
use Rattle.ultra_serial_law.specs.Log.{log_of}
use Rattle.ultra_serial.proofs.Explaining.{breach_explained, first_missing_fault}
use Rattle.ultra_serial.proofs.checking.examine.Goals as goal

pub returns-in_err-names-clause-breach : goal.returns-in_err-names-clause-breach
returns-in_err-names-clause-breach c = λ final.
    let p = err_from_is_err_and c.from_residual.result c.from_residual.ensures.1 in
    rw (p.1, p.2) tt

pub returns-in_err-replay-clause-breach : goal.returns-in_err-replay-clause-breach
returns-in_err-replay-clause-breach c = λ final.
    let p = err_from_is_err_and c.from_residual-in_err-replay.result c.from_residual-in_err-replay.ensures.1 in
    rw (p.1, p.2) (c.in_err-replay.ensures.breach (log_of c.args.log.now) final c.in_ok-names.ensures.records)

pub returns-in-Some-clause-breach : goal.returns-in-Some-clause-breach
returns-in-Some-clause-breach c = λ final.
    let initial = dense_cells c.args.memory.now in
    let log = log_of c.args.log.now in
    let list = c.args.list.now in
    breach_explained initial log final list Missing c.in-Some.index (first_missing_fault initial log final list (c.in_ok-replay.ensures.explained log c.in_ok-names.ensures.records) c.in-Some.index
    (rw c.as_slice.ensures.value at c.in-Some.ensures.some log list (c.in_ok-replay.ensures.names log c.in_ok-names.ensures.records)))

pub returns-clause-cells : goal.returns-clause-cells
returns-clause-cells c = c.in_ok-replay.ensures.cells

pub returns-clause-explained : goal.returns-clause-explained
returns-clause-explained c = c.in_ok-replay.ensures.explained (log_of c.args.log.now) c.in_ok-names.ensures.records

pub returns-clause-answered : goal.returns-clause-answered
returns-clause-answered c =
    let log = log_of c.args.log.now in
    rw c.as_slice.ensures.value at (c.first_missing.ensures.none log c.args.list.now (c.in_ok-replay.ensures.names log c.in_ok-names.ensures.records) c.in_default.is)
