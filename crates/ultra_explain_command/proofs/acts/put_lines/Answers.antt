use Rattle.std.proofs.Common.{◌∙◌, ap, refl, sym, append-nil, ◌++◌}
use Rattle.std.proofs.lemmas.{List.take_all, Option.slice_get-get_or, Result.err_from_is_err_and}
use Rattle.ultra_tree.specs.Absorb.{ExplainerState}
use Rattle.ultra_explain_command.specs.Explanation.{event_lines, trees_after_all}
use Rattle.ultra_explain_command.proofs.Firsts.{absorbed_next, begun_there, left_come, put_next}
use Rattle.ultra_explain_command.proofs.acts.put_lines.Goals as goal

pub loop-event-init : goal.loop-event-init
loop-event-init g c = record { same = refl; absorbable = c.requires.absorbable; put = sym (append-nil c.args.lines.now.bytes.items) }

pub put_event-requires-clause-absorbable : goal.put_event-requires-clause-absorbable
put_event-requires-clause-absorbable g c =
    let s = c.loop-event in
    let e = s.explainer in
    (left_come e.elements e.most_open e.trees c.args.events.now s.event-index _ c.loop-event-test.true s.invariant.absorbable).0

pub loop-event-preserved : goal.loop-event-preserved
loop-event-preserved g c =
    let s = c.loop-event in
    let e = s.explainer in
    let old = c.args.explainer.now in
    let es = c.args.events.now in
    let here = c.loop-event-test.true in
    let so_far = ap (λ (x : ExplainerState). x.trees) s.invariant.same in
    record {
      same = absorbed_next old e _ es s.event-index _ here s.invariant.same c.in_ok-put_event.ensures.trees;
      absorbable = rw c.in_ok-put_event.ensures.trees (left_come e.elements e.most_open e.trees es s.event-index _ here s.invariant.absorbable).1;
      put = put_next c.args.cycle old.trees es s.event-index _ here e.trees c.args.lines.now.bytes.items s.lines.bytes.items so_far s.invariant.put _ c.in_ok-put_event.ensures.ok;
    }

pub returns-in_err-put_event-clause-err : goal.returns-in_err-put_event-clause-err
returns-in_err-put_event-clause-err g c =
    let p = err_from_is_err_and c.from_residual.result c.from_residual.ensures.1 in
    let s = c.loop-event in
    let old = c.args.explainer.now in
    let so_far = ap (λ (x : ExplainerState). x.trees) s.invariant.same in
    rw p.1 (begun_there c.args.cycle old.trees c.args.events.now s.event-index _ c.loop-event-test.true s.explainer.trees c.args.lines.now.bytes.items s.lines.bytes.items so_far s.invariant.put _ c.in_err-put_event.ensures.err)

pub returns-in_err-put_event-clause-whole_lines : goal.returns-in_err-put_event-clause-whole_lines
returns-in_err-put_event-clause-whole_lines g c =
    let p = err_from_is_err_and c.from_residual.result c.from_residual.ensures.1 in
    let s = c.loop-event in
    rw (p.1, p.2) (λ full. record {
      before = s.event-index;
      event = _;
      next = slice_get-get_or c.args.events.now s.event-index _ c.loop-event-test.true;
      combines = c.in_err-put_event.ensures.combines full;
      lines = c.in_err-put_event.ensures.no_line full ∙ s.invariant.put;
    })

pub put_event-requires-clause-working : goal.put_event-requires-clause-working
put_event-requires-clause-working g c = ap (λ (x : ExplainerState). x.is_spent) c.loop-event.invariant.same ∙ c.requires.working

pub returns-in_err-put_event-clause-trees : goal.returns-in_err-put_event-clause-trees
returns-in_err-put_event-clause-trees g c =
    let p = err_from_is_err_and c.from_residual.result c.from_residual.ensures.1 in
    rw p.1 tt

pub returns-in_err-put_event-clause-ok : goal.returns-in_err-put_event-clause-ok
returns-in_err-put_event-clause-ok g c =
    let p = err_from_is_err_and c.from_residual.result c.from_residual.ensures.1 in
    rw p.1 tt

pub returns-in_err-put_event-clause-fault : goal.returns-in_err-put_event-clause-fault
returns-in_err-put_event-clause-fault g c =
    let p = err_from_is_err_and c.from_residual.result c.from_residual.ensures.1 in
    rw (p.1, p.2) c.in_err-put_event.ensures.fault

pub returns-in_err-put_event-clause-heap_full : goal.returns-in_err-put_event-clause-heap_full
returns-in_err-put_event-clause-heap_full g c =
    let p = err_from_is_err_and c.from_residual.result c.from_residual.ensures.1 in
    rw (p.1, p.2) c.in_err-put_event.ensures.heap_full

pub returns-in_err-put_event-clause-no_memory : goal.returns-in_err-put_event-clause-no_memory
returns-in_err-put_event-clause-no_memory g c =
    let p = err_from_is_err_and c.from_residual.result c.from_residual.ensures.1 in
    rw (p.1, p.2) c.in_err-put_event.ensures.no_memory

pub returns-clause-trees : goal.returns-clause-trees
returns-clause-trees g c =
    let old = c.args.explainer.now in
    let all = take_all c.loop-event.event-index c.args.events.now c.loop-event-test.false in
    c.loop-event.invariant.same ∙ ap (λ es. record old { trees = trees_after_all old.trees es }) all

pub returns-clause-ok : goal.returns-clause-ok
returns-clause-ok g c =
    let waited = c.args.lines.now.bytes.items in
    let all = take_all c.loop-event.event-index c.args.events.now c.loop-event-test.false in
    c.loop-event.invariant.put ∙ ap (λ es. waited ++ event_lines c.args.cycle c.args.explainer.now.trees es) all
