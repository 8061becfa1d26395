use Rattle.std.proofs.{Common.{◌∙◌, sym}, lemmas.Result.on_ok_weaker}
use Rattle.ultra_crew.proofs.Dealt.{teams_can, teams_made}
use Rattle.ultra_crew.proofs.worker_pool.WorkerPool.make_half_of_teams.Goals as goal

pub send_teams-requires-clause-ready : goal.send_teams-requires-clause-ready
send_teams-requires-clause-ready g c =
    let (bs, teams, due) = c.requires.due in teams_can c.args.half c.args.rooms.now g.J.ExpectedResults.program c.args.self.now bs c.args.teams.now.items c.requires.count teams due.ready

pub send_teams-requires-clause-settled : goal.send_teams-requires-clause-settled
send_teams-requires-clause-settled g c w d below =
    let (bs, teams, due) = c.requires.due in teams_made c.args.half c.args.rooms.now g.J.ExpectedResults.program c.args.self.now bs c.args.teams.now.items c.requires.count teams w d below ∙ sym (due.settled w)

pub returns-clause-made : goal.returns-clause-made
returns-clause-made g c = on_ok_weaker c.receive_teams.result (λ back bs due w d below. back w d below ∙ due.settled w) c.receive_teams.ensures.results
