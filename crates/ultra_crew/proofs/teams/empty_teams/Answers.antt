use Rattle.std.proofs.Common.{◌≡◌, arith, ◌∙◌}
use Rattle.ultra_crew.proofs.teams.empty_teams.Goals as goal

pub returns-clause-empty : goal.returns-clause-empty
returns-clause-empty c =
    let most = c.loop.auto.counter-end in let over = c.loop-test.false in
    let all : c.loop.counter ≡ c.args.workers = omega (arith, most, over) in
    record { count = c.loop.invariant.count ∙ all; tasks = λ w d below. c.loop.invariant.empty w d (omega (arith, below, all)) }

pub returns-clause-room : goal.returns-clause-room
returns-clause-room c = c.loop.invariant.room
