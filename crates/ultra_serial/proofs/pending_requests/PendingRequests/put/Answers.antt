use Rattle.std.proofs.Common.{◌%◌, ◌<◌, ◌∙◌, length, refl, arith}
use Rattle.std.specs.Vec.{with_item}
use Rattle.std.proofs.lemmas.{Option.slice_get_read, Result.on_ok_weaker}
use Rattle.ultra_serial.proofs.{PendingRows.chain_put, Stacks.keeps_more}
use Rattle.ultra_serial.proofs.pending_requests.PendingRequests.put.Goals as goal

pub returns : goal.returns
returns c =
    let w = c.make_rows.new.self in
    let p = c.args.pe in
    let a = c.args.cell in
    let old = c.index_mut.result.now in
    let new = c.put.new.self in
    let made = c.in_ok-make_rows.ensures.made in
    let low : p % 64 < w.rows.len = omega (arith, made) in
    let within : p % 64 < length w.rows.items = omega (arith, w.rows.ok.0, low) in
    let at = slice_get_read w.rows.items w.rows.len (p % 64) old w.rows.ok.0 low c.index_mut.ensures.value in
    on_ok_weaker c.put.result (λ longer ks t keeps same.
    keeps_more w (record w { rows = with_item w.rows (p % 64) new }) p a t c.args.leaves.items ks (λ q b. c.in_ok-make_rows.ensures.same q b ∙ keeps q b) same
    (chain_put w.rows.items p a old new within at record { pe = p; cell = a; leaves = c.args.leaves } refl refl longer)) c.put.ensures
