use Rattle.std.proofs.Common.{refl}
use Rattle.ultra_colib.specs.{Gate.{gate, AreFewInside}, ReadersWriters.{readers_writers, AreWritersAlone}, Barrier.{barrier, AreInStep}, Queue.{queue, AreItemsOnce}}
use Rattle.ultra_colib.proofs.Gate as gate_proof
use Rattle.ultra_colib.proofs.ReadersWriters as rw_proof
use Rattle.ultra_colib.proofs.Barrier as barrier_proof
use Rattle.ultra_colib.proofs.Queue as queue_proof
use Rattle.ultra_colib.proofs.OnMachine.{kept_by_machine}
use Rattle.ultra_colib.proofs.coordination_law.Goals as goal

pub returns : goal.returns
returns c = record {
  kept = record {
    gate = λ bound rounds. kept_by_machine c.paracomputer_law.ensures.sees_paracomputer (gate bound rounds) refl (AreFewInside bound) (gate_proof.kept bound rounds);
    readers_writers = λ writers rounds. kept_by_machine c.paracomputer_law.ensures.sees_paracomputer (readers_writers writers rounds) refl AreWritersAlone (rw_proof.kept writers rounds);
    barrier = λ rounds some few. kept_by_machine c.paracomputer_law.ensures.sees_paracomputer (barrier rounds) refl AreInStep (barrier_proof.kept rounds some few);
    queue = λ z rounds small some few. kept_by_machine c.paracomputer_law.ensures.sees_paracomputer (queue z rounds) refl (AreItemsOnce z rounds) (queue_proof.kept z rounds small some few);
  };
}
