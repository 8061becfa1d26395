use Rattle.std.proofs.Common.{◌≡◌, arith}
use Rattle.ultra_block.proofs.Seen.{cycles_are}
use Rattle.ultra_crew.specs.Start.{state_of}
use Rattle.ultra_crew.proofs.Counted.{expected_goes_on, results_now}
use Rattle.ultra_crew.proofs.worker_pool.WorkerPool.cycle.Goals as goal

pub make_cycle-requires-clause-settled : goal.make_cycle-requires-clause-settled
make_cycle-requires-clause-settled g c h w =
    let p = c.into_parts-config.result in
    let now = results_now g.J.ExpectedResults.results g.J.ExpectedResults.program c.args.self.now c.args.blocks c.requires.expected h w in
    let same : state_of p.config g.J.ExpectedResults.program c.as_slice.result.now p.done p.blocks.items ≡ c.args.blocks = grind arith in
    grind (arith, cycles_are)

pub returns-clause-expected : goal.returns-clause-expected
returns-clause-expected g c = expected_goes_on g.J.ExpectedResults.results g.J.ExpectedResults.program c.args.self.now c.args.blocks c.requires.expected c.from_parts.result (grind arith)
