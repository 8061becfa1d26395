use Rattle.std.proofs.Common.{take}
use Rattle.ultra_args.specs.Grammar.{program_in, IsApp}
use Rattle.ultra_args.proofs.grammar.program_with.Given as goal

abbrev pub invariant-loop-command : goal.invariant-loop-command
invariant-loop-command l = IsApp (program_in (λ t. t.now) (λ r. r.now) (take l.command-index l.commands)) l.program
