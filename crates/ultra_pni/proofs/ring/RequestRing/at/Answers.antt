use Rattle.std.proofs.Common.{◌<◌, ◌+◌, ◌%◌, arith, ◌∙◌, length, sym}
use Rattle.std.proofs.lemmas.Option.{slice_get-get_or}
use Rattle.ultra_pni.specs.Ring.{no_request}
use Rattle.ultra_pni.proofs.Rings.{get-requests_in_ring, length-requests_in_ring}
use Rattle.ultra_pni.proofs.ring.RequestRing.at.Goals as goal

pub overflow_add-result : goal.overflow_add-result
overflow_add-result c =
    let within = rw (← c.self.view_is, length-requests_in_ring c.self.inside.places c.self.inside.first c.self.inside.count) at c.requires in
    omega (arith, within, c.self.invariant.starts, c.self.invariant.fits)

pub returns : goal.returns
returns c =
    let places = c.self.inside.places in
    let place = (c.self.inside.first + c.args.index) % 8 in
    let within = rw (← c.self.view_is, length-requests_in_ring places c.self.inside.first c.self.inside.count) at c.requires in
    let there : place < length places = omega (arith, c.self.told) in
    rw (← c.self.view_is) (get-requests_in_ring places c.self.inside.first c.self.inside.count c.args.index within ∙ sym (slice_get-get_or places place no_request there) ∙ slice_get-get_or places place c.index-self-self.result there)
