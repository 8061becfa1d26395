use Rattle.std.proofs.Common.{◌≡◌, arith}
use Rattle.ultra_io.proofs.Writing.{writes_nothing}
use Rattle.ultra_measure.specs.Columns.{stage_columns}
use Rattle.ultra_measure.proofs.Chain.{more_stages}
use Rattle.ultra_measure.proofs.columns.put_stages.Goals as goal

pub loop-stage-init : goal.loop-stage-init
loop-stage-init g c = writes_nothing c.args.buffer.now

pub loop-stage-preserved : goal.loop-stage-preserved
loop-stage-preserved g c =
    let b = c.args.blocks.now in
    more_stages c.args.form (stage_columns b.config b.program c.args.window.now.from c.args.to) c.loop-stage.stage c.loop-stage.invariant c.put_stage.ensures

pub put_stage-requires-clause-kept : goal.put_stage-requires-clause-kept
put_stage-requires-clause-kept g c = c.requires

pub put_stage-requires-clause-stage : goal.put_stage-requires-clause-stage
put_stage-requires-clause-stage g c = c.loop-stage-test.true

pub returns : goal.returns
returns g c =
    let all : c.loop-stage.stage ≡ 6 = omega (arith, c.loop-stage-test.false, c.loop-stage.auto) in
    rw all at c.loop-stage.invariant
