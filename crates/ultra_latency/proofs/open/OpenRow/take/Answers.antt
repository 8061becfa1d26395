use Rattle.std.proofs.Common.{◌≡◌, ◌∙◌, sym, refl, ap}
use Rattle.std.specs.{Prelude.{Some, None}, List.position}
use Rattle.ultra_latency.proofs.Absent.{is_of, absent, found_at}
use Rattle.ultra_latency.proofs.open.OpenRow.take.Goals as goal

pub returns-in_err-place-clause-request : goal.returns-in_err-place-clause-request
returns-in_err-place-clause-request c =
    let os = c.self.inside.open.items in
    let none : position (is_of c.args.cell) os ≡ None = rw (← c.as_slice.ensures.value) (sym c.place_of.ensures ∙ c.in_err-place.was) in
    rw (← c.self.view_is) (c.from_residual.ensures ∙ sym (absent c.args.cell os none).request)

pub returns-in_err-place-clause-others : goal.returns-in_err-place-clause-others
returns-in_err-place-clause-others c =
    let os = c.self.inside.open.items in
    let none : position (is_of c.args.cell) os ≡ None = rw (← c.as_slice.ensures.value) (sym c.place_of.ensures ∙ c.in_err-place.was) in
    rw (← c.self.view_is) (rw (absent c.args.cell os none).without_request refl)

pub returns-clause-request : goal.returns-clause-request
returns-clause-request c =
    let os = c.self.inside.open.items in
    let found : position (is_of c.args.cell) os ≡ Some c.in_ok-place.place = rw (← c.as_slice.ensures.value) (sym c.place_of.ensures ∙ c.in_ok-place.was) in
    rw (← c.self.view_is) (ap (λ o. Some o) c.take_out.ensures.value ∙ sym (found_at c.args.cell os c.in_ok-place.place c.take_out.result found))
