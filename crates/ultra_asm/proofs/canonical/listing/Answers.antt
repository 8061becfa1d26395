use Rattle.std.proofs.Common.{rules}
use Rattle.ultra_io.proofs.Writing.{finished}
use Rattle.ultra_asm.proofs.canonical.listing.Goals as goal

pub returns : goal.returns
returns g c =
    let gone = finished c.finish.result c.new-buffer.ensures.blank c.put_program.ensures.text c.finish.ensures.writes c.finish.ensures.ok c.finish.ensures.err in
    search rules
