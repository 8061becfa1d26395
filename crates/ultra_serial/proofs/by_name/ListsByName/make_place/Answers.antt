use Rattle.std.proofs.{Common.{◌<◌, arith, ap}, lemmas.Option.slice_get_read}
use Rattle.ultra_serial.specs.{ByPair.list_of, ByName.{one_at, list_or}}
use Rattle.ultra_serial.proofs.Places.{place_made}
use Rattle.ultra_serial.proofs.by_name.ListsByName.make_place.Goals as goal

pub returns-in_ok-push : goal.returns-in_ok-push
returns-in_ok-push g c = λ whole a b.
    let s = c.args.self.now in
    let rows = s.rows in
    let p = c.args.name.pe in
    let row = c.index_mut.result.now in
    let low : p < rows.len = omega (arith, c.if-row-len.true, c.len.ensures) in
    ap (λ i. list_or (list_of s.others.lists a b) (one_at whole i))
    (place_made rows.items p row c.push.new.self (omega (arith, rows.ok.0, low)) (slice_get_read rows.items rows.len p row rows.ok.0 low c.index_mut.ensures.value) c.in_ok-push.ensures.items a b)
