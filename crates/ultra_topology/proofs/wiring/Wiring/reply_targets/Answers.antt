use Rattle.std.proofs.{Common.{subst, sym, arith}, lemmas.Grind.common_steps}
use Rattle.ultra_topology.specs.Inlets.{LeadOn, reply_inlets}
use Rattle.ultra_topology.proofs.Readers.{entry_replies_lead}
use Rattle.ultra_topology.proofs.wiring.Wiring.reply_targets.Goals as goal

pub returns-clause-value : goal.returns-clause-value
returns-clause-value g c = grind (arith, common_steps)

lead : (g : _) (c : goal.After-as_units-arg-1 g) → LeadOn (reply_inlets c.args.self.now) c.args.self.now c.args.unit c.index.result.now.reply_targets
lead g c =
    let stages = c.stages-stages.ensures in
    entry_replies_lead (omega (arith, stages, c.self.view_is)) (omega (arith, stages, c.self.view_is)) c.self.view_is c.number.ensures.value c.requires.switch c.self.invariant.switches c.index.ensures

pub as_units-requires-clause-zero : goal.as_units-requires-clause-zero
as_units-requires-clause-zero g c = (lead g c).zero_small

pub as_units-requires-clause-one : goal.as_units-requires-clause-one
as_units-requires-clause-one g c = (lead g c).one_small

pub as_units-requires-clause-small : goal.as_units-requires-clause-small
as_units-requires-clause-small g c = λ small. (lead g c).near (c.requires.small small)

pub returns-clause-lead : goal.returns-clause-lead
returns-clause-lead g c =
    let stages = c.stages-stages.ensures in
    let is_led = entry_replies_lead (omega (arith, stages, c.self.view_is)) (omega (arith, stages, c.self.view_is)) c.self.view_is c.number.ensures.value c.requires.switch c.self.invariant.switches c.index.ensures in
    subst (λ targets. LeadOn (reply_inlets c.args.self.now) c.args.self.now c.args.unit targets) (sym c.as_units.ensures) is_led
