use Rattle.ultra_serial_law.specs.{Log.log_of, Legal.given}
use Rattle.ultra_verdict.proofs.Verdicts.{wrong_answer_line, answered_otherwise}
use Rattle.ultra_verdict.proofs.judging.Case.wrong_answer.Goals as goal

pub other_reply-requires : goal.other_reply-requires
other_reply-requires c =
    let s = c.args.self.now in
    rw c.as_slice.ensures.value (answered_otherwise (given s.initial.now) (log_of s.log.now) (given s.cells.now) s.list.now c.args.index _ c.requires)

pub returns : goal.returns
returns c =
    let s = c.args.self.now in
    let otherwise = rw c.as_slice.ensures.value at c.other_reply.ensures in
    (wrong_answer_line (given s.initial.now) (log_of s.log.now) (given s.cells.now) s.list.now c.args.index _ c.requires, otherwise)
