use Rattle.ultra_list.specs.Reading.{is_not_digit}
use Rattle.ultra_list.proofs.Counting.{count_is, count_all}
use Rattle.ultra_list.proofs.number.count_digits.Goals as goal

pub returns-in-Some : goal.returns-in-Some
returns-in-Some c = count_is is_not_digit c.args.text.now c.in-Some.count c.in-Some.ensures

pub returns-in-None : goal.returns-in-None
returns-in-None c = count_all is_not_digit c.args.text.now c.in-None.ensures
