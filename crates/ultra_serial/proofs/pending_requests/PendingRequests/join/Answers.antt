use Rattle.std.proofs.Common.{◌%◌, ◌<◌, ◌≤◌, ◌∙◌, length, ap, arith}
use Rattle.std.specs.{Prelude.{OnOk, Result, Ok, Err}, Global.Vec}
use Rattle.std.proofs.lemmas.Option.{slice_get_read}
use Rattle.ultra_serial.specs.{declared.pending_row.PendingRow.PendingRow, PendingRequests.chains_in}
use Rattle.ultra_serial.proofs.PendingRows.{chain_joined, none_joined}
use Rattle.ultra_serial.proofs.pending_requests.PendingRequests.join.Goals as goal

pub returns-then-row-len : goal.returns-then-row-len
returns-then-row-len c =
    let w = c.args.self.now in
    let past : length w.rows.items ≤ c.args.pe % 64 = omega (arith, w.rows.ok.0, c.if-row-len.true, c.len.ensures) in
    none_joined w.rows.items c.args.pe c.args.cell past c.args.old_first c.args.of_new.items

always_on_ok : {T E P : Type 0} (r : Result T E) → P → OnOk r P
always_on_ok (Ok x) p = p
always_on_ok (Err e) p = tt

pub returns : goal.returns
returns c = always_on_ok c.reuse.result (λ q b.
    let w = c.args.self.now in
    let p = c.args.pe in
    let old = c.index_mut.result.now in
    let new = c.join.new.self in
    let low : p % 64 < w.rows.len = omega (arith, c.if-row-len.false, c.len.ensures) in
    let within : p % 64 < length w.rows.items = omega (arith, w.rows.ok.0, low) in
    let at = slice_get_read w.rows.items w.rows.len (p % 64) old w.rows.ok.0 low c.index_mut.ensures.value in
    ap (λ (rows : Vec PendingRow). chains_in rows.items q b) c.reuse.ensures
    ∙ chain_joined w.rows.items p c.args.cell old new within at c.args.old_first c.args.of_new.items c.in_ok-list.ensures q b)
