use Rattle.std.proofs.{Common.{◌≡◌, arith}, lemmas.List.take_all}
use Rattle.ultra_io.proofs.filled_bytes.FilledBytes.write.Goals as goal

pub returns-clause-written : goal.returns-clause-written
returns-clause-written g c =
    let l = c.loop-index in
    let all : l.index ≡ g.row.N = omega arith in
    rw (take_all l.index c.args.bytes.now (omega arith), all) at l.invariant
