use Rattle.std.proofs.Common.{◌≡◌, get_or, true, false}
use Rattle.ultra_io.proofs.Writing.{◌then◌}
use Rattle.ultra_asm.proofs.canonical.put_label_line.Goals as goal

pub returns-then-targets-pc : goal.returns-then-targets-pc
returns-then-targets-pc g c =
    let marked : get_or c.args.targets.now.marked c.args.pc false ≡ true = c.if-targets-pc.true in
    rw marked (c.put_label.ensures then c.put.ensures)
