use Rattle.std.proofs.{Common.arith, lemmas.List.length-map}
use Rattle.ultra_crew.proofs.worker_pool.WorkerPool.make_half.Goals as goal

pub make_half_of_teams-requires-clause-due : goal.make_half_of_teams-requires-clause-due
make_half_of_teams-requires-clause-due g c = (c.args.blocks.items, rw c.requires.teams.count at c.in_ok-deal_to_teams.ensures.teams, c.requires.due)

pub returns-clause-blocks : goal.returns-clause-blocks
returns-clause-blocks g c = let made = c.in_ok-make_half_of_teams.ensures.made c.args.blocks.items c.requires.due in grind (arith, length-map)

pub returns-clause-teams : goal.returns-clause-teams
returns-clause-teams g c = let made = c.in_ok-make_half_of_teams.ensures.made c.args.blocks.items c.requires.due in grind (arith, length-map)
