use Rattle.std.proofs.Common.{◌≡◌, ℕ, ◌+◌, ◌⊎◌, arith, ap, inl, inr, refl, ⊎_elim}
use Rattle.std.specs.Prelude.{Result, Ok, Err, IfErr}
use Rattle.std.proofs.lemmas.Result.{err_from_is_err_and, on_ok_weaker}
use Rattle.ultra_msg.proofs.{Parts.at_error, Prefixes.{all_passed_on, more_waits, takes_all}}
use Rattle.ultra_inputs.specs.{Failure.write_failures, declared.failure.Failure.{Failure, TheVariants.{HeapFull, NoMemory}}}
use Rattle.ultra_explain_command.specs.Explanation.{event_lines, AreLinesCut}
use Rattle.ultra_explain_command.proofs.Firsts.{at_success, passed_on, put_part, stops_behind}
use Rattle.ultra_explain_command.proofs.explaining.explain_cycle.Goals as goal

-- lines that memory was refused for end the run, and nothing has failed to be written
cut_short : {T : Type 0} (r : Result T Failure) → IfErr r (λ f. (f ≡ HeapFull) ⊎ (f ≡ NoMemory)) → IfErr r AreLinesCut
cut_short (Ok x) why = tt
cut_short (Err f) why = ⊎_elim (λ e. inl e) (λ e. inr (inl e)) why

none_failed : {T : Type 0} (r : Result T Failure) (old new : ℕ) → new ≡ old → IfErr r (λ f. (f ≡ HeapFull) ⊎ (f ≡ NoMemory)) → IfErr r (λ f. new ≡ old + write_failures f)
none_failed (Ok x) old new same why = tt
none_failed (Err f) old new same why =
    let none : write_failures f ≡ 0 = ⊎_elim (λ e. ap write_failures e) (λ e. ap write_failures e) why in
    omega arith

pub returns-in_err-flush-clause-trees : goal.returns-in_err-flush-clause-trees
returns-in_err-flush-clause-trees g c =
    let p = err_from_is_err_and c.from_residual.result c.from_residual.ensures.1 in
    rw p.1 tt

pub returns-in_err-flush-clause-ok : goal.returns-in_err-flush-clause-ok
returns-in_err-flush-clause-ok g c =
    let p = err_from_is_err_and c.from_residual.result c.from_residual.ensures.1 in
    rw p.1 tt

pub returns-in_err-flush-clause-fault : goal.returns-in_err-flush-clause-fault
returns-in_err-flush-clause-fault g c =
    let p = err_from_is_err_and c.from_residual.result c.from_residual.ensures.1 in
    rw (p.1, p.2) (inr (inr c.in_err-flush.ensures.fault))

pub returns-in_err-flush-clause-full : goal.returns-in_err-flush-clause-full
returns-in_err-flush-clause-full g c =
    let p = err_from_is_err_and c.from_residual.result c.from_residual.ensures.1 in
    let why = c.in_err-flush.ensures.fault in
    rw (p.1, p.2) (λ full. absurd cc)

pub returns-in_err-flush-clause-still : goal.returns-in_err-flush-clause-still
returns-in_err-flush-clause-still g c =
    let p = err_from_is_err_and c.from_residual.result c.from_residual.ensures.1 in
    rw p.1 tt

pub returns-in_err-flush-clause-counted : goal.returns-in_err-flush-clause-counted
returns-in_err-flush-clause-counted g c =
    let p = err_from_is_err_and c.from_residual.result c.from_residual.ensures.1 in
    let once = ap write_failures c.in_err-flush.ensures.fault in
    rw (p.1, p.2) (omega (arith, c.in_err-flush.ensures.counted))

pub returns-in_err-flush-clause-err : goal.returns-in_err-flush-clause-err
returns-in_err-flush-clause-err g c =
    let p = err_from_is_err_and c.from_residual.result c.from_residual.ensures.1 in
    let put = put_part c.put_lines-explained.result c.put_lines-explained.ensures.ok c.put_lines-explained.ensures.err in
    rw p.1 (passed_on put c.in_err-flush.ensures.err)

pub returns-in_ok-flush-clause-err : goal.returns-in_ok-flush-clause-err
returns-in_ok-flush-clause-err g c =
    let put = put_part c.put_lines-explained.result c.put_lines-explained.ensures.ok c.put_lines-explained.ensures.err in
    at_error c.put_lines-explained.result (passed_on put (takes_all _ c.in_ok-flush.ensures.ok))

pub returns-in_ok-flush-clause-ok : goal.returns-in_ok-flush-clause-ok
returns-in_ok-flush-clause-ok g c =
    let more = event_lines c.args.cycle c.args.explainer.now.trees c.args.events.now in
    at_success c.put_lines-explained.result c.put_lines-explained.ensures.ok
    (λ put. rw c.in_ok-flush.ensures.empty (all_passed_on more c.args.lines.now.bytes.items (rw put at c.in_ok-flush.ensures.ok)))

pub returns-in_ok-flush-clause-full : goal.returns-in_ok-flush-clause-full
returns-in_ok-flush-clause-full g c =
    let before = g.O.Sink.taken c.args.out.now in
    let waited = c.args.lines.now.bytes.items in
    let waits = c.put_lines-explained.new.lines.bytes.items in
    stops_behind c.args.cycle c.args.explainer.now.trees c.args.events.now before waited waits (g.O.Sink.taken c.flush.new.out) c.in_ok-flush.ensures.ok c.put_lines-explained.result c.put_lines-explained.ensures.whole_lines

pub returns-in_ok-flush-clause-trees : goal.returns-in_ok-flush-clause-trees
returns-in_ok-flush-clause-trees g c = c.put_lines-explained.ensures.trees

pub returns-in_ok-flush-clause-fault : goal.returns-in_ok-flush-clause-fault
returns-in_ok-flush-clause-fault g c = cut_short c.put_lines-explained.result c.put_lines-explained.ensures.fault

pub returns-in_ok-flush-clause-still : goal.returns-in_ok-flush-clause-still
returns-in_ok-flush-clause-still g c = on_ok_weaker c.put_lines-explained.result (λ _. c.in_ok-flush.ensures.still) c.put_lines-explained.ensures.trees

pub returns-in_ok-flush-clause-counted : goal.returns-in_ok-flush-clause-counted
returns-in_ok-flush-clause-counted g c = none_failed c.put_lines-explained.result _ _ c.in_ok-flush.ensures.still c.put_lines-explained.ensures.fault

pub returns-else-len-ge-PIECE_BYTES-clause-trees : goal.returns-else-len-ge-PIECE_BYTES-clause-trees
returns-else-len-ge-PIECE_BYTES-clause-trees g c = c.put_lines-explained.ensures.trees

pub returns-else-len-ge-PIECE_BYTES-clause-fault : goal.returns-else-len-ge-PIECE_BYTES-clause-fault
returns-else-len-ge-PIECE_BYTES-clause-fault g c = cut_short c.put_lines-explained.result c.put_lines-explained.ensures.fault

pub returns-else-len-ge-PIECE_BYTES-clause-still : goal.returns-else-len-ge-PIECE_BYTES-clause-still
returns-else-len-ge-PIECE_BYTES-clause-still g c = on_ok_weaker c.put_lines-explained.result (λ _. refl) c.put_lines-explained.ensures.trees

pub returns-else-len-ge-PIECE_BYTES-clause-counted : goal.returns-else-len-ge-PIECE_BYTES-clause-counted
returns-else-len-ge-PIECE_BYTES-clause-counted g c = none_failed c.put_lines-explained.result _ _ refl c.put_lines-explained.ensures.fault

pub returns-else-len-ge-PIECE_BYTES-clause-ok : goal.returns-else-len-ge-PIECE_BYTES-clause-ok
returns-else-len-ge-PIECE_BYTES-clause-ok g c =
    at_success c.put_lines-explained.result c.put_lines-explained.ensures.ok (λ put. rw put (more_waits _ _ _))
