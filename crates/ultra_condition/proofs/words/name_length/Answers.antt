use Rattle.ultra_list.proofs.Counting.{count_is, count_all}
use Rattle.ultra_condition.specs.Words.{ends_word}
use Rattle.ultra_condition.proofs.words.name_length.Goals as goal

pub returns-in-Some-clause-length : goal.returns-in-Some-clause-length
returns-in-Some-clause-length c = count_is ends_word c.args.text.now c.in-Some.length c.in-Some.ensures.place

pub returns-in-None-clause-length : goal.returns-in-None-clause-length
returns-in-None-clause-length c = count_all ends_word c.args.text.now c.in-None.ensures.place
