-- by each operation
use Rattle.ultra_trace_text.proofs.texts.write_op.Goals as goal

pub returns-in-Load-clause-goes_on : goal.returns-in-Load-clause-goes_on
returns-in-Load-clause-goes_on g c = rw c.in-Load.is c.write.ensures.goes_on

pub returns-in-Store-clause-goes_on : goal.returns-in-Store-clause-goes_on
returns-in-Store-clause-goes_on g c = rw c.in-Store.is c.write_with_word.ensures.goes_on

pub returns-in-Faa-clause-goes_on : goal.returns-in-Faa-clause-goes_on
returns-in-Faa-clause-goes_on g c = rw c.in-Faa.is c.write_with_word-in-Faa.ensures.goes_on

pub returns-in-Swap-clause-goes_on : goal.returns-in-Swap-clause-goes_on
returns-in-Swap-clause-goes_on g c = rw c.in-Swap.is c.write_with_word-in-Swap.ensures.goes_on
