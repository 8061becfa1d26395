use Rattle.std.proofs.{Common.{subst, ap, ◌∙◌}, lemmas.Result.err_from_is_err_and}
use Rattle.ultra_serial.specs.{declared.checking.BreachKind.TheVariants.WrongCell, DenseCells.dense_cells, Breach.{cells_past, ExplainsCheckFault}, Examined.{AreExplained, IsFine, IsWrongAt}}
use Rattle.ultra_serial_law.specs.{Log.log_of, Legal.{Cells, given}}
use Rattle.ultra_serial.proofs.Explaining.{breach_explained, fine_everywhere, wrong_cell_found, legal_found}
use Rattle.ultra_serial.proofs.checking.check.Goals as goal

pub returns-in_err-memory-clause-breach : goal.returns-in_err-memory-clause-breach
returns-in_err-memory-clause-breach c =
    let p = err_from_is_err_and c.from_residual.result c.from_residual.ensures.1 in
    rw (p.1, p.2) tt

pub returns-in_err-examine-clause-breach : goal.returns-in_err-examine-clause-breach
returns-in_err-examine-clause-breach c =
    let p = err_from_is_err_and c.from_residual-in_err-examine.result c.from_residual-in_err-examine.ensures.1 in
    let final = given c.args.cells.now in
    rw (p.1, p.2) (subst (λ (m : Cells). ExplainsCheckFault m (log_of c.args.log.now) final c.args.list.now c.in_err-examine.field-0.0) c.in_ok-memory.ensures (c.in_err-examine.ensures.breach final))

pub returns-in_err-wanted-clause-breach : goal.returns-in_err-wanted-clause-breach
returns-in_err-wanted-clause-breach c =
    let p = err_from_is_err_and c.from_residual-in_err-wanted.result c.from_residual-in_err-wanted.ensures.1 in
    rw (p.1, p.2) tt

pub returns-in-Some-clause-breach : goal.returns-in-Some-clause-breach
returns-in-Some-clause-breach c =
    let is = c.args.initial.now in
    let cs = c.args.cells.now in
    let list = c.args.list.now in
    let log = log_of c.args.log.now in
    let r = dense_cells c.examine.new.memory in
    let explained = subst (λ (m : Cells). AreExplained m log list) c.in_ok-memory.ensures c.in_ok-examine.ensures.explained in
    let past = c.in_ok-examine.ensures.cells ∙ ap (λ (m : Cells). cells_past m list) c.in_ok-memory.ensures in
    let w = dense_cells c.in_ok-wanted.wanted in
    let cell = c.in-Some.cell in
    let listed = c.in_ok-examine.ensures.answered in
    let wrong : IsWrongAt r w c.lowest_used.result = c.lowest_used.ensures.wrong (c.lowest_given-of_cells.ensures.wrong (c.lowest_given-of_initial.ensures.wrong tt)) in
    let fine = fine_everywhere is cs list r w c.lowest_used.result past c.in_ok-wanted.ensures
    (λ k i at. c.lowest_used.ensures.kept i.0 (c.lowest_given-of_cells.ensures.kept i.0 (c.lowest_given-of_initial.ensures.covered k i at)))
    (λ k i at. c.lowest_used.ensures.kept i.0 (c.lowest_given-of_cells.ensures.covered k i at))
    c.lowest_used.ensures.covered in
    breach_explained (given is) log (given cs) list WrongCell cell
    (wrong_cell_found is cs log list explained listed r w past c.in_ok-wanted.ensures cell
    (subst (λ o. IsWrongAt r w o) c.in-Some.is wrong) (λ a. subst (λ o. IsFine r w o a) c.in-Some.is (fine a)))

pub returns-clause-legal : goal.returns-clause-legal
returns-clause-legal c =
    let is = c.args.initial.now in
    let cs = c.args.cells.now in
    let list = c.args.list.now in
    let log = log_of c.args.log.now in
    let r = dense_cells c.examine.new.memory in
    let explained = subst (λ (m : Cells). AreExplained m log list) c.in_ok-memory.ensures c.in_ok-examine.ensures.explained in
    let past = c.in_ok-examine.ensures.cells ∙ ap (λ (m : Cells). cells_past m list) c.in_ok-memory.ensures in
    let w = dense_cells c.in_ok-wanted.wanted in
    let listed = c.in_ok-examine.ensures.answered in
    let fine = fine_everywhere is cs list r w c.lowest_used.result past c.in_ok-wanted.ensures
    (λ k i at. c.lowest_used.ensures.kept i.0 (c.lowest_given-of_cells.ensures.kept i.0 (c.lowest_given-of_initial.ensures.covered k i at)))
    (λ k i at. c.lowest_used.ensures.kept i.0 (c.lowest_given-of_cells.ensures.covered k i at))
    c.lowest_used.ensures.covered in
    legal_found is cs log list explained listed r w past c.in_ok-wanted.ensures (λ a. subst (λ o. IsFine r w o a) c.in_default.is (fine a))
