use Rattle.std.proofs.Common.{◌≡◌, ℕ, ◌+◌, List, ◌++◌, ◌∷◌, [], length-append, arith}
use Rattle.std.proofs.lemmas.Grind.{common_steps}
use Rattle.ultra_topology.specs.{Units.{index_of, stage_of}, Wiring.{AreNeighbours, neighbours}, declared.wiring.Neighbours.Neighbours}
use Rattle.ultra_topology.proofs.wiring.Wiring.of.Goals as goal

pub returns-in_err-switches : goal.returns-in_err-switches
returns-in_err-switches c = grind (arith, common_steps)

pub loop-number-init : goal.loop-number-init
loop-number-init c = grind (arith, common_steps)

pub returns-in_err-push : goal.returns-in_err-push
returns-in_err-push c = grind (arith, common_steps)

pub invariant_of-result : goal.invariant_of-result
invariant_of-result c = grind (arith, common_steps)

pub returns : goal.returns
returns c = grind (arith, common_steps)

-- the entry of one more switch
one_more : (d count : ℕ) (entries : List Neighbours) (entry : Neighbours) → AreNeighbours d count entries → entry ≡ neighbours d (stage_of d count) (index_of d count) → AreNeighbours d (count + 1) (entries ++ entry ∷ [])
one_more d count entries entry are is = record {
  all = omega (arith, length-append entries (entry ∷ []), are.all);
  each = λ n x l. grind (arith, common_steps, are.each n x);
}

pub loop-number-preserved : goal.loop-number-preserved
loop-number-preserved c =
    rw c.in_ok-push.ensures.items (one_more c.args.net c.loop-number.number c.loop-number.switches.items c.of.result c.loop-number.invariant c.of.ensures)
