use Rattle.std.proofs.Common.{subst, sym, arith}
use Rattle.ultra_topology.specs.Inlets.{AreInlets, request_inlets}
use Rattle.ultra_topology.proofs.Readers.{entry_requests_come}
use Rattle.ultra_topology.proofs.wiring.Wiring.request_links.Goals as goal

pub returns-clause-inlets : goal.returns-clause-inlets
returns-clause-inlets c =
    let stages = c.stages-stages.ensures in
    let come = entry_requests_come (omega (arith, stages, c.self.view_is)) (omega (arith, stages, c.self.view_is)) c.self.view_is c.number.ensures.value c.requires c.self.invariant.switches c.index.ensures in
    subst (λ links. AreInlets (request_inlets c.args.self.now) c.args.self.now c.args.unit links) (sym c.widen.ensures) come
