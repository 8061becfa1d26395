use Rattle.ultra_asm.proofs.Comments.{before_at, before_none}
use Rattle.ultra_asm.specs.Words.{begins_comment}
use Rattle.ultra_asm.proofs.words.before_comment.Goals as goal

pub returns-in-Some : goal.returns-in-Some
returns-in-Some c = before_at begins_comment c.args.line.now c.in-Some.end c.in-Some.ensures

pub returns-in-None : goal.returns-in-None
returns-in-None c = before_none begins_comment c.args.line.now c.in-None.ensures
