use Rattle.std.proofs.Common.{drop}
use Rattle.ultra_asm.specs.Listing.{listing_from, listing_text}
use Rattle.ultra_asm.proofs.InBuffer.{IsOnPage}
use Rattle.ultra_asm.proofs.canonical.put_program.Given as goal

abbrev pub invariant-loop-pc : goal.invariant-loop-pc
invariant-loop-pc g l = IsOnPage g.S.Sink.taken g.S.Sink.failures (listing_text l.program) (listing_from l.program l.pc (drop l.pc l.program)) l.initial.buffer l.buffer
