use Rattle.std.proofs.{Common.{length, refl}, lemmas.{Option.slice_get_read, Result.on_ok_weaker}}
use Rattle.ultra_serial.proofs.PendingRows.{row_joined}
use Rattle.ultra_serial.proofs.pending_row.PendingRow.join.Goals as goal

pub returns-in-Some : goal.returns-in-Some
returns-in-Some c =
    let rs = c.args.self.now.requests.items in
    let i = c.in-Some.index in
    let r = c.index_mut.result.now in
    let told = rw c.as_slice.ensures.value at c.in-Some.ensures in
    let at = slice_get_read rs (length rs) i r refl told.within c.index_mut.ensures.value in
    on_ok_weaker c.join.result (λ leaves.
    row_joined rs i r c.args.pe c.args.cell at (told.found r at) c.join.new.self c.join.ensures.pe c.join.ensures.cell c.args.old_first c.args.of_new.items leaves told.latest) c.join.ensures.leaves
