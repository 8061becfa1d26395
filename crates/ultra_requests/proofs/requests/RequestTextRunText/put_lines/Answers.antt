use Rattle.std.proofs.Common.{ℕ, ◌≡◌, ◌+◌, ap, ◌∙◌}
use Rattle.ultra_model.specs.Machine.{Machine}
use Rattle.ultra_requests.proofs.Found.{rows_here}
use Rattle.ultra_requests.proofs.requests.RequestTextRunText.put_lines.Goals as goal

pub returns-clause-writes : goal.returns-clause-writes
returns-clause-writes g c =
    let b = c.args.blocks.now in
    let range = rw c.config.ensures at c.initial-valid.ensures.valid.range in
    let law = rw c.config-2.ensures at (c.law_of_open_requests.ensures b.program c.args.cycle) in
    rw (rows_here b.config range b.program c.args.cycle law _ (c.events_of_one.ensures ∙ ap (λ (m : Machine). m.events) c.requires.made.state) _ c.requires.ready.rows) at c.put_answers.ensures.writes
