use Rattle.std.proofs.Common.{arith, take, get_or, subst, sym, ◌∙◌, ap}
use Rattle.std.proofs.lemmas.{List.{take_all, take_more}, Option.slice_get-get_or, Result.IfOk-from_err}
use Rattle.ultra_serial.specs.{ByPair.{is_pair, with_item}, ByName.list_named, RecordsByName.AreIssuesByName}
use Rattle.ultra_serial_law.specs.declared.records.LoggedIssue.{LoggedIssue}
use Rattle.ultra_serial.proofs.{RecordsByName.{none_by_name, more_by_name}, Searching.some_issue}
use Rattle.ultra_serial.proofs.records_by_name.issues_by_name.Goals as goal

pub loop-index-init : goal.loop-index-init
loop-index-init c = none_by_name (λ (i : LoggedIssue). i.pe) (λ (i : LoggedIssue). i.number) (list_named c.in_ok-named.named c.args.issues.now) (c.in_ok-named.ensures c.args.issues.now)

pub loop-index-preserved : goal.loop-index-preserved
loop-index-preserved c =
    let xs = c.args.issues.now in
    let n = c.loop-index.index in
    let x = get_or xs n some_issue in
    let at = slice_get-get_or xs n some_issue (omega arith) in
    subst (λ us. AreIssuesByName (list_named c.push.new.self xs) us) (sym (take_more xs n some_issue (omega arith)))
    (more_by_name (λ (i : LoggedIssue). i.pe) (λ (i : LoggedIssue). i.number) (list_named c.loop-index.named xs) (take n xs) c.loop-index.invariant (list_named c.push.new.self xs) x (λ p q. c.in_ok-push.ensures x at p q ∙ ap (λ us. with_item (is_pair x.pe x.number p q) us x) (c.in_ok-make_place.ensures xs p q)))

pub returns-in_err-named : goal.returns-in_err-named
returns-in_err-named c = IfOk-from_err c.from_residual.result _ c.from_residual.ensures.0

pub returns-in_err-make_place : goal.returns-in_err-make_place
returns-in_err-make_place c =
    IfOk-from_err c.from_residual-in_err-make_place.result _ c.from_residual-in_err-make_place.ensures.0

pub returns-in_err-push : goal.returns-in_err-push
returns-in_err-push c = IfOk-from_err c.from_residual-in_err-push.result _ c.from_residual-in_err-push.ensures.0

pub returns : goal.returns
returns c =
    let xs = c.args.issues.now in
    subst (λ us. AreIssuesByName (list_named c.loop-index.named xs) us) (take_all c.loop-index.index xs (omega arith)) c.loop-index.invariant
