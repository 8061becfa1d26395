use Rattle.ultra_list.proofs.Counting.{count_is, count_all}
use Rattle.ultra_condition.specs.Words.{is_not_blank}
use Rattle.ultra_condition.proofs.words.blank_length.Goals as goal

pub returns-in-Some-clause-length : goal.returns-in-Some-clause-length
returns-in-Some-clause-length c = count_is is_not_blank c.args.text.now c.in-Some.length c.in-Some.ensures.place

pub returns-in-None-clause-length : goal.returns-in-None-clause-length
returns-in-None-clause-length c = count_all is_not_blank c.args.text.now c.in-None.ensures.place
