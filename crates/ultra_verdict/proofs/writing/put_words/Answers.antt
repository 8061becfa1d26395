use Rattle.ultra_io.proofs.Writing.{◌then◌}
use Rattle.ultra_verdict.proofs.writing.put_words.Goals as goal

pub returns-in-WrongReplay : goal.returns-in-WrongReplay
returns-in-WrongReplay g c = rw c.in-WrongReplay.is (c.put_refusal-in-WrongReplay.ensures then c.put-in-WrongReplay.ensures then c.put_reply.ensures)

pub returns-in-WrongAnswer : goal.returns-in-WrongAnswer
returns-in-WrongAnswer g c = rw c.in-WrongAnswer.is (c.put_refusal-in-WrongAnswer.ensures then c.put-in-WrongAnswer.ensures then c.put_reply-in-WrongAnswer.ensures)

pub returns-in-TooLate : goal.returns-in-TooLate
returns-in-TooLate g c = rw c.in-TooLate.is (c.put_refusal-in-TooLate.ensures then c.put_lateness.ensures)

pub returns-in-Missing : goal.returns-in-Missing
returns-in-Missing g c = rw c.in-Missing.is (c.put-in-Missing.ensures then c.put_entry.ensures)
