use Rattle.std.proofs.{Common.{◌<◌, ◌≤◌, length, arith}, lemmas.{Option.{slice_get_read, slice_get_past}, Result.on_ok_weaker}}
use Rattle.ultra_serial.specs.LatestNumbers.{number_under}
use Rattle.ultra_serial.proofs.LatestNumbers.{row_set, other_set}
use Rattle.ultra_serial.proofs.latest_numbers.LatestNumbers.set.Goals as goal

pub returns-then-row-len : goal.returns-then-row-len
returns-then-row-len c =
    let s = c.args.self.now in
    let p = c.args.pe in
    let old = c.index_mut.result.now in
    let low : p < s.rows.len = omega (arith, c.if-row-len.true, c.len.ensures) in
    let within : p < length s.rows.items = omega (arith, s.rows.ok.0, low) in
    on_ok_weaker c.set.result (λ changed. row_set s.rows.items (number_under s.others) p c.args.cell c.args.number old c.set.new.self within
    (slice_get_read s.rows.items s.rows.len p old s.rows.ok.0 low c.index_mut.ensures.value) changed) c.set.ensures

pub returns : goal.returns
returns c =
    let s = c.args.self.now in
    let p = c.args.pe in
    let past : length s.rows.items ≤ p = omega (arith, s.rows.ok.0, c.if-row-len.false, c.len.ensures) in
    other_set s.rows.items s.others c.insert.new.self p c.args.cell c.args.number (slice_get_past s.rows.items p past) c.in_ok-insert.ensures.updates
