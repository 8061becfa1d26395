use Rattle.std.proofs.Common.{arith, []}
use Rattle.ultra_topology.proofs.Set.{come_on}
use Rattle.ultra_topology.proofs.pass.Walk.go_on.Goals as goal

pub of-requires : goal.of-requires
of-requires c = let come = come_on _ c.requires (omega arith) (omega arith) [] in omega (arith, come.first.within)

pub returns-then-self-ne0-clause-some : goal.returns-then-self-ne0-clause-some
returns-then-self-ne0-clause-some c = rw (c.of.ensures, c.number-unit.ensures.value) (come_on _ c.requires (omega arith) (omega arith) c.args.set.now)
