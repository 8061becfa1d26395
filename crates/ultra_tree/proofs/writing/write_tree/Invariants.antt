use Rattle.std.proofs.Common.{ℕ, ◌-◌, List, None}
use Rattle.ultra_msg.specs.declared.sink.SinkFault.{SinkFault}
use Rattle.ultra_msg.proofs.Writing.{IsSoFar}
use Rattle.ultra_tree.specs.{Counts.leaf_count, Places.{piece, pieces}}
use Rattle.ultra_tree.proofs.writing.write_tree.Given as goal

abbrev pub invariant-loop-place : goal.invariant-loop-place
invariant-loop-place g l =
    let text : ℕ → List ℕ = λ i. piece l.tree.node i 0 None in
    IsSoFar SinkFault (pieces text 0 (leaf_count l.tree.node)) (pieces text l.place (leaf_count l.tree.node - l.place)) (g.S.Sink.taken l.initial.sink) (g.S.Sink.taken l.sink) (g.S.Sink.failures l.initial.sink) (g.S.Sink.failures l.sink)
