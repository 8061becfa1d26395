use Rattle.std.proofs.Common.{◌%◌, ◌<◌, ◌≤◌, length, refl, arith, sym, ap, None}
use Rattle.std.specs.Vec.{with_item}
use Rattle.std.proofs.lemmas.{List.append-nil, Option.{slice_get_read, slice_get_past}}
use Rattle.ultra_serial.specs.{PendingRow.leaves_under, PendingRequests.{requests_in, chains_of}}
use Rattle.ultra_serial.proofs.{PendingRows.{chain_taken, chain_empty, chain_others}, Stacks.{taken_leaves, keeps_rest}}
use Rattle.ultra_serial.proofs.pending_requests.PendingRequests.take.Goals as goal

pub returns-then-row-len-clause-kept : goal.returns-then-row-len-clause-kept
returns-then-row-len-clause-kept c = λ ks h.
    let w = c.args.self.now in
    let p = c.args.pe in
    let a = c.args.cell in
    let old = c.index_mut.result.now in
    let new = c.take.new.self in
    let low : p % 64 < w.rows.len = omega (arith, c.if-row-len.true, c.len.ensures) in
    let within : p % 64 < length w.rows.items = omega (arith, w.rows.ok.0, low) in
    let at = slice_get_read w.rows.items w.rows.len (p % 64) old w.rows.ok.0 low c.index_mut.ensures.value in
    keeps_rest w (record w { rows = with_item w.rows (p % 64) new }) p a ks h c.take.result
    (chain_taken w.rows.items p a old new within at c.take.result c.take.ensures.taken)
    (chain_empty w.rows.items p a old new within at c.take.result c.take.ensures.empty)
    (chain_others w.rows.items p a old new within at c.take.result c.take.ensures.others)

pub returns-then-row-len-clause-taken : goal.returns-then-row-len-clause-taken
returns-then-row-len-clause-taken c = λ ks h.
    let w = c.args.self.now in
    let p = c.args.pe in
    let a = c.args.cell in
    let old = c.index_mut.result.now in
    let new = c.take.new.self in
    let low : p % 64 < w.rows.len = omega (arith, c.if-row-len.true, c.len.ensures) in
    let within : p % 64 < length w.rows.items = omega (arith, w.rows.ok.0, low) in
    let at = slice_get_read w.rows.items w.rows.len (p % 64) old w.rows.ok.0 low c.index_mut.ensures.value in
    taken_leaves w (record w { rows = with_item w.rows (p % 64) new }) p a ks h c.take.result
    (chain_taken w.rows.items p a old new within at c.take.result c.take.ensures.taken)
    (chain_empty w.rows.items p a old new within at c.take.result c.take.ensures.empty)
    (chain_others w.rows.items p a old new within at c.take.result c.take.ensures.others)

pub returns-else-row-len-clause-kept : goal.returns-else-row-len-clause-kept
returns-else-row-len-clause-kept c = λ ks h.
    let w = c.args.self.now in
    let p = c.args.pe in
    let a = c.args.cell in
    let past : length w.rows.items ≤ p % 64 = omega (arith, w.rows.ok.0, c.if-row-len.false, c.len.ensures) in
    let none = ap (λ o. leaves_under p a (requests_in o)) (slice_get_past w.rows.items (p % 64) past) in
    keeps_rest w w p a ks h None (sym (append-nil (chains_of w p a))) none (λ q b e. refl)

pub returns-else-row-len-clause-taken : goal.returns-else-row-len-clause-taken
returns-else-row-len-clause-taken c = λ ks h.
    let w = c.args.self.now in
    let p = c.args.pe in
    let a = c.args.cell in
    let past : length w.rows.items ≤ p % 64 = omega (arith, w.rows.ok.0, c.if-row-len.false, c.len.ensures) in
    let none = ap (λ o. leaves_under p a (requests_in o)) (slice_get_past w.rows.items (p % 64) past) in
    taken_leaves w w p a ks h None (sym (append-nil (chains_of w p a))) none (λ q b e. refl)
