use Rattle.std.proofs.Common.{arith}
use Rattle.ultra_topology.proofs.Set.{first_in_rest}
use Rattle.ultra_topology.proofs.unit_set.UnitSet.next.Goals as goal

pub returns-then-rest-ne0-clause-some : goal.returns-then-rest-ne0-clause-some
returns-then-rest-ne0-clause-some c = first_in_rest _ _ _ c.rest_of_word-rest.ensures (omega arith) (omega arith) (omega arith)
