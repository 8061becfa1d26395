use Rattle.std.proofs.Common.{ℕ, ◌≡◌, ◌+◌, ◌++◌, ap, ◌∙◌}
use Rattle.ultra_io.proofs.Writing.{◌then◌}
use Rattle.ultra_model.specs.Machine.{Machine}
use Rattle.ultra_requests.specs.EventLines.{lines_of_cycle}
use Rattle.ultra_requests.proofs.NamedLines.{have_here, lines_here}
use Rattle.ultra_requests.proofs.events.put_cycle.Goals as goal

pub put_event_lines-requires-clause-rows : goal.put_event_lines-requires-clause-rows
put_event_lines-requires-clause-rows g c =
    let b = c.args.blocks.now in
    let law = rw c.config.ensures at (c.law_of_open_requests.ensures b.program c.args.cycle) in
    have_here b.config b.program c.args.cycle law _ (c.events_of_one.ensures ∙ ap (λ (m : Machine). m.events) c.requires.made.state) _ c.requires.table.rows

pub returns-clause-writes : goal.returns-clause-writes
unfolding lines_of_cycle
returns-clause-writes g c =
    let b = c.args.blocks.now in
    let law = rw c.config.ensures at (c.law_of_open_requests.ensures b.program c.args.cycle) in
    let lines = rw (lines_here b.config b.program c.args.cycle law _ (c.events_of_one.ensures ∙ ap (λ (m : Machine). m.events) c.requires.made.state) _ c.requires.table.rows) at c.put_event_lines.ensures.writes in
    let stops = rw (c.stops_of_one.ensures ∙ ap (λ (m : Machine). m.stops) c.requires.made.state) at c.put_stops.ensures in
    lines then stops
