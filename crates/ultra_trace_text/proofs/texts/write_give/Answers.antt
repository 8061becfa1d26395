-- by each kind
use Rattle.ultra_trace_text.proofs.texts.write_give.Goals as goal

pub returns-in-Same-clause-goes_on : goal.returns-in-Same-clause-goes_on
returns-in-Same-clause-goes_on g c = rw c.in-Same.is c.write.ensures.goes_on

pub returns-in-Plus-clause-goes_on : goal.returns-in-Plus-clause-goes_on
returns-in-Plus-clause-goes_on g c = rw c.in-Plus.is c.write_with_word.ensures.goes_on

pub returns-in-Fixed-clause-goes_on : goal.returns-in-Fixed-clause-goes_on
returns-in-Fixed-clause-goes_on g c = rw c.in-Fixed.is c.write_with_word-in-Fixed.ensures.goes_on

pub returns-in-Ack-clause-goes_on : goal.returns-in-Ack-clause-goes_on
returns-in-Ack-clause-goes_on g c = rw c.in-Ack.is c.write-in-Ack.ensures.goes_on
