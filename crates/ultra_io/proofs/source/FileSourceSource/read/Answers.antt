use Rattle.ultra_io.proofs.GivenFiles.{one_more_given}
use Rattle.ultra_io.proofs.source.FileSourceSource.read.Goals as goal

pub invariant_of-self : goal.invariant_of-self
invariant_of-self g c = one_more_given g.R.File.Read.remaining _ _ c.self.invariant c.args.path.now c.in-Ok.bytes.items c.note_read.ensures.files c.in-Ok.ensures
