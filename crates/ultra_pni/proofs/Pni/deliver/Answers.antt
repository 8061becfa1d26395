use Rattle.std.proofs.Common.{arith, ◌≡◌, ◌≢◌, ◌<◌, length, ◌∙◌, ap, sym, false}
use Rattle.std.specs.{Prelude.Some, List.position}
use Rattle.std.proofs.lemmas.List.{Edits.length-remove, Quantifiers.{all_pairs_remove, position-Some}}
use Rattle.ultra_pni.specs.{declared.OpenCell.OpenCell, Interface.{Interface, is_awaited, is_pending}, Ring.no_request}
use Rattle.ultra_pni.proofs.Latest.{is_of, has_place, latest-remove, stands_before, target_at}
use Rattle.ultra_pni.proofs.Pni.deliver.Goals as goal

pub unwrap-place-requires : goal.unwrap-place-requires
unwrap-place-requires c =
    rw (c.place_of.ensures, c.as_slice.ensures.value) (has_place c.args.reply.cell c.self.inside.opened.items (rw (← c.self.view_is) at c.requires.open_cell))

pub returns-clause-target : goal.returns-clause-target
returns-clause-target c =
    let at : position (is_of c.args.reply.cell) c.self.inside.opened.items ≡ Some c.unwrap-place.result = rw (← c.as_slice.ensures.value) (sym c.place_of.ensures ∙ c.unwrap-place.ensures) in
    let found = position-Some (is_of c.args.reply.cell) c.self.inside.opened.items c.unwrap-place.result c.take_out-closed.result at in
    let target = target_at c.args.reply.cell c.self.inside.opened.items c.unwrap-place.result c.take_out-closed.result found.0 found.1 found.2 in
    rw (← c.self.view_is) (ap (λ (o : OpenCell). o.target) c.take_out-closed.ensures.value ∙ sym target)

pub invariant_of-self : goal.invariant_of-self
invariant_of-self c =
    let cell = c.args.reply.cell in
    let opened = c.self.inside.opened.items in
    let place = c.unwrap-place.result in
    let at : position (is_of cell) opened ≡ Some place = rw (← c.as_slice.ensures.value) (sym c.place_of.ensures ∙ c.unwrap-place.ensures) in
    let found = position-Some (is_of cell) opened place c.take_out-closed.result at in
    let within : place < length opened = found.0 in
    let was = c.self.invariant.within in
    let none : is_pending cell c.self.inside.pending ≡ false = rw (← c.self.view_is) at c.requires.none_pending in
    let i : Interface = record { opened = opened; pending = c.self.inside.pending } in
    let before = stands_before i cell place c.take_out-closed.result no_request was.pending was.latest within found.1 none in
    let shorter = length-remove opened place within in
    record {
      within = record {
        small = was.small;
        opened = rw c.take_out-closed.ensures.items (omega arith);
        pending = rw c.take_out-closed.ensures.items (omega (arith, before));
        latest = rw c.take_out-closed.ensures.items (latest-remove i place was.pending before was.latest);
        different = rw c.take_out-closed.ensures.items (all_pairs_remove (λ o p. o.cell ≢ p.cell) opened place within was.different);
      };
      awaited = λ r. c.awaited_by-self-inside.ensures r ∙ ap (is_awaited r) c.as_slice-2.ensures.value;
    }
