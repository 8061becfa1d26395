use Rattle.ultra_para.proofs.Peopled.{fresh_peopled, fresh_programmed}
use Rattle.ultra_para.proofs.paracomputer.Para.new.Goals as goal

pub invariant_of-result : goal.invariant_of-result
invariant_of-result c = rw (c.in_ok-try_clone.ensures, c.in_ok-initial_cells.ensures, c.in_ok-fresh_processors.ensures) (fresh_peopled c.args.config.now)

pub returns : goal.returns
returns c = rw (c.in_ok-try_clone.ensures, c.in_ok-try_clone-2.ensures, c.in_ok-initial_cells.ensures, c.in_ok-fresh_processors.ensures) (fresh_programmed c.args.config.now c.args.program.now)
