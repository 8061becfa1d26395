use Rattle.ultra_measure.proofs.StageDepths.{depths_go_on, nothing_comes}
use Rattle.ultra_measure.proofs.depths.Depths.note_cycle.Goals as goal

pub returns-then-is_empty : goal.returns-then-is_empty
returns-then-is_empty g c =
    let b = c.args.blocks.now in
    let units = c.holding_of_one-holders.result.now in
    let net = c.requires.net in
    let same = nothing_comes b.config b.machine c.args.held units net.even c.holding_of_one-holders.ensures (c.is_empty.ensures.0 c.if-is_empty.true) c.args.self.now in
    depths_go_on b.config b.program c.args.from c.args.cycle c.requires.order b.machine c.requires.run c.args.held _ _ net.few_stages c.requires.kept same

pub returns : goal.returns
returns g c =
    let b = c.args.blocks.now in
    depths_go_on b.config b.program c.args.from c.args.cycle c.requires.order b.machine c.requires.run c.args.held _ _ c.requires.net.few_stages c.requires.kept c.note_stages.ensures
