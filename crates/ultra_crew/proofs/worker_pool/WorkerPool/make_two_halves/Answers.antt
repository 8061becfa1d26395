use Rattle.std.proofs.{Common.arith, lemmas.List.length-map}
use Rattle.ultra_crew.proofs.worker_pool.WorkerPool.make_two_halves.Goals as goal

pub make_half_of_teams-requires-clause-due : goal.make_half_of_teams-requires-clause-due
make_half_of_teams-requires-clause-due g c = (c.args.blocks.items, rw c.requires.teams.count at c.in_ok-deal_to_teams.ensures.teams, c.requires.due)

pub make_half_of_teams-requires-2-clause-due : goal.make_half_of_teams-requires-2-clause-due
make_half_of_teams-requires-2-clause-due g c = (_, c.in_ok-make_half_of_teams.ensures.made c.args.blocks.items c.requires.due, c.requires.due_again)

pub returns-clause-blocks : goal.returns-clause-blocks
returns-clause-blocks g c =
    c.in_ok-collect_from_teams.ensures.blocks _ (grind (arith, length-map)) (rw c.in_ok-make_half_of_teams-2.ensures.count (c.in_ok-make_half_of_teams-2.ensures.made _ c.requires.due_again))

pub returns-clause-teams : goal.returns-clause-teams
returns-clause-teams g c = let made = c.in_ok-make_half_of_teams-2.ensures.made _ c.requires.due_again in grind (arith, length-map)
