use Rattle.ultra_serial.proofs.PendingRows.{row_taken, row_others}
use Rattle.std.proofs.Common.{◌∙◌, [], ap, sym, ◌++◌, ◌∷◌}
use Rattle.ultra_serial.specs.PendingRow.{leaves_under}
use Rattle.ultra_serial.proofs.pending_row.PendingRow.take.Goals as goal

pub returns-clause-taken : goal.returns-clause-taken
returns-clause-taken c =
    let rs = c.args.self.now.requests.items in
    let i = c.in_ok-index.index in
    let p = c.args.pe in
    let a = c.args.cell in
    let told = rw c.as_slice.ensures.value at c.in_ok-index.ensures in
    row_taken rs i c.take_at-leaves.result p a c.take_at-leaves.ensures.value (told.found c.take_at-leaves.result c.take_at-leaves.ensures.value) told.latest
    ∙ ap (λ us. leaves_under p a us ++ c.take_at-leaves.result.leaves.items ∷ []) (sym c.take_at-leaves.ensures.rest)

pub returns-clause-others : goal.returns-clause-others
returns-clause-others c = λ q b e.
    let rs = c.args.self.now.requests.items in
    let i = c.in_ok-index.index in
    let told = rw c.as_slice.ensures.value at c.in_ok-index.ensures in
    ap (λ us. leaves_under q b us) c.take_at-leaves.ensures.rest
    ∙ row_others rs i c.take_at-leaves.result c.args.pe c.args.cell c.take_at-leaves.ensures.value (told.found c.take_at-leaves.result c.take_at-leaves.ensures.value) q b e
