use Rattle.std.proofs.Common.{◌+◌, arith, sym, subst}
use Rattle.ultra_list.specs.SerialText.{BeginsWithAll, IsFirstBadLine}
use Rattle.ultra_list.proofs.Exact.{line_sound}
use Rattle.ultra_list.proofs.Lines.{is_empty, not_empty, one_more, shorter, filled, no_line, one_list, never_refused}
use Rattle.ultra_list.proofs.read_list.Goals as goal

first_bad_line : (c : goal.After-drop-list) → IsFirstBadLine c.args.text.now (c.len.result + 1)
first_bad_line c =
    let list = c.loop-rest.list in
    let rest = c.loop-rest.rest.now in
    record {
      before = list.items;
      rest = rest;
      read = c.loop-rest.invariant;
      number = omega (arith, c.len.ensures, list.ok.0);
      more = filled rest (not_empty rest c.loop-rest-test.ensures);
      none = no_line rest c.in_default.ensures;
    }

pub returns-in_default-clause-refused : goal.returns-in_default-clause-refused
returns-in_default-clause-refused c = first_bad_line c

pub returns-in_default-clause-complete : goal.returns-in_default-clause-complete
returns-in_default-clause-complete c = λ es h. absurd (never_refused c.args.text.now es (c.len.result + 1) h (first_bad_line c))

pub returns-clause-complete : goal.returns-clause-complete
returns-clause-complete c = λ es h.
    one_list c.args.text.now c.loop-rest.list.items es (subst (λ us. BeginsWithAll c.args.text.now c.loop-rest.list.items us) (is_empty c.loop-rest.rest.now c.loop-rest-test.ensures) c.loop-rest.invariant) h

pub loop-rest-smaller : goal.loop-rest-smaller
loop-rest-smaller c =
    let rest = c.loop-rest.rest.now in
    shorter rest c.in-Some.next.now c.in-Some.entry (line_sound rest c.in-Some.next.now c.in-Some.entry (sym c.in-Some.ensures)) (not_empty rest c.loop-rest-test.ensures)

pub loop-rest-preserved : goal.loop-rest-preserved
loop-rest-preserved c =
    let text = c.args.text.now in
    let rest = c.loop-rest.rest.now in
    let next = c.in-Some.next.now in
    let e = c.in-Some.entry in
    subst (λ es. BeginsWithAll text es next) (sym c.in_ok-push.ensures.items) (one_more text rest next c.loop-rest.list.items e c.loop-rest.invariant (line_sound rest next e (sym c.in-Some.ensures)))
