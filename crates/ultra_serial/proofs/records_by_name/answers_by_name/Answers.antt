use Rattle.std.proofs.{Common.{arith, take, get_or, subst, sym}, lemmas.{List.{take_all, take_more}, Option.slice_get-get_or, Result.IfOk-from_err}}
use Rattle.ultra_serial.specs.{ByName.list_named, RecordsByName.AreAnswersByName}
use Rattle.ultra_serial_law.specs.declared.records.LoggedAnswer.{LoggedAnswer}
use Rattle.ultra_serial.proofs.{RecordsByName.{none_by_name, more_by_name}, Searching.some_answer}
use Rattle.ultra_serial.proofs.records_by_name.answers_by_name.Goals as goal

pub loop-index-init : goal.loop-index-init
loop-index-init c = none_by_name (λ (a : LoggedAnswer). a.pe) (λ (a : LoggedAnswer). a.number) (list_named c.in_ok-named.named c.args.answers.now) (c.in_ok-named.ensures c.args.answers.now)

pub loop-index-preserved : goal.loop-index-preserved
loop-index-preserved c =
    let xs = c.args.answers.now in
    let n = c.loop-index.index in
    let x = get_or xs n some_answer in
    let at = slice_get-get_or xs n some_answer (omega arith) in
    subst (λ us. AreAnswersByName (list_named c.push.new.self xs) us) (sym (take_more xs n some_answer (omega arith)))
    (more_by_name (λ (a : LoggedAnswer). a.pe) (λ (a : LoggedAnswer). a.number) (list_named c.loop-index.named xs) (take n xs) c.loop-index.invariant (list_named c.push.new.self xs) x (λ p q. c.in_ok-push.ensures x at p q))

pub returns-in_err-named : goal.returns-in_err-named
returns-in_err-named c = IfOk-from_err c.from_residual.result _ c.from_residual.ensures.0

pub returns-in_err-push : goal.returns-in_err-push
returns-in_err-push c = IfOk-from_err c.from_residual-in_err-push.result _ c.from_residual-in_err-push.ensures.0

pub returns : goal.returns
returns c =
    let xs = c.args.answers.now in
    subst (λ us. AreAnswersByName (list_named c.loop-index.named xs) us) (take_all c.loop-index.index xs (omega arith)) c.loop-index.invariant
