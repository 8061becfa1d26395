use Rattle.std.proofs.Common.{◌≡◌, ◌∙◌, sym, refl}
use Rattle.std.specs.{Prelude.{Some, None}, List.position}
use Rattle.ultra_latency.proofs.Absent.{is_of, absent, found_at}
use Rattle.ultra_latency.proofs.open.OpenRow.request.Goals as goal

pub returns-in_err-place : goal.returns-in_err-place
returns-in_err-place c =
    let os = c.self.inside.open.items in
    let none : position (is_of c.args.cell) os ≡ None = rw (← c.as_slice.ensures.value) (sym c.place_of.ensures ∙ c.in_err-place.was) in
    rw (← c.self.view_is) (c.from_residual.ensures ∙ sym (absent c.args.cell os none).request)

pub returns : goal.returns
returns c =
    let os = c.self.inside.open.items in
    let found : position (is_of c.args.cell) os ≡ Some c.in_ok-place.place = rw (← c.as_slice.ensures.value) (sym c.place_of.ensures ∙ c.in_ok-place.was) in
    rw (← c.self.view_is, c.as_slice-2.ensures.value) (sym (found_at c.args.cell os c.in_ok-place.place _ found))
