use Rattle.ultra_args.proofs.Tables.{next_command}
use Rattle.ultra_args.proofs.grammar.program_with.Goals as goal

pub loop-command-preserved : goal.loop-command-preserved
loop-command-preserved c =
    let added = c.in_ok-program.ensures in
    next_command (λ t. t.now) (λ r. r.now) c.args.commands.now c.loop-command.command-index _ c.loop-command.program added.0 c.in_ok-program.program c.loop-command-test.true c.loop-command.invariant added.1 added.2
