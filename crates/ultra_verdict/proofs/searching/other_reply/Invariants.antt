use Rattle.std.proofs.Common.{◌≡◌, ℕ, ◌<◌, Some}
use Rattle.std.specs.Prelude.{slice_get}
use Rattle.ultra_serial_law.specs.{declared.records.LoggedAnswer.LoggedAnswer, Legal.IsAnswerTo}
use Rattle.ultra_verdict.proofs.searching.other_reply.Given as goal

abbrev pub invariant-loop-answer : goal.invariant-loop-answer
invariant-loop-answer l = (k : ℕ) (a : LoggedAnswer) → k < l.answer-index → slice_get l.answers k ≡ Some a → IsAnswerTo l.entry a → a.reply ≡ l.entry.reply
