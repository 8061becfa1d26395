use Rattle.std.proofs.Common.{◌≡◌, ◌∙◌, [], ◌∷◌, ◌++◌, sym, ap, subst, append_assoc, length, vec_len}
use Rattle.std.proofs.lemmas.{Result.err_from_is_err_and, List.{length-set, nil_from_length}}
use Rattle.ultra_sweep.specs.Places.{IsPut}
use Rattle.ultra_sweep.proofs.Filling.{IsFilled, filled-more, refused, missing, gathered, given_back, all_seen}
use Rattle.ultra_sweep.proofs.gathering.gather_into.Goals as goal
use Rattle.ultra_sweep.proofs.gathering.gather_into.Goals.{After-texts_in}

pub loop-result-preserved : goal.loop-result-preserved
loop-result-preserved c =
    let so_far = c.loop-result.invariant in
    let seen = c.loop-result.yielded in
    let r = c.in-Some.result in
    let places = c.loop-result.places in
    let count = vec_len c.args.places in
    let is_put : IsPut r places.items c.put.new.places = rw c.as_mut_slice.ensures.value at c.in_ok-put.ensures.ok in
    let same : length c.put.new.places ≡ length places.items = ap length is_put.full ∙ length-set places.items r.number _ in
    record {
      filled = subst (IsFilled count (seen ++ r ∷ [])) (sym (given_back c.put.new.places places.items places.len same (sym places.ok.0)))
          (filled-more count seen r places.items c.put.new.places so_far.filled is_put);
      rest = append_assoc seen (r ∷ []) c.next.new.self.rest.items ∙ (ap (λ rs. seen ++ rs) (sym c.in-Some.ensures.steps.0) ∙ so_far.rest);
    }

pub returns-in_err-put-clause-err : goal.returns-in_err-put-clause-err
returns-in_err-put-clause-err c =
    let so_far = c.loop-result.invariant in
    let r = c.in-Some.result in
    let places = c.loop-result.places in
    let p = err_from_is_err_and c.from_residual.result c.from_residual.ensures.1 in
    let all : c.loop-result.yielded ++ r ∷ c.next.new.self.rest.items ≡ c.args.results.items =
    ap (λ rs. c.loop-result.yielded ++ rs) (sym c.in-Some.ensures.steps.0) ∙ so_far.rest in
    rw (p.1, p.2) (refused (vec_len c.args.places) c.loop-result.yielded c.args.results.items c.next.new.self.rest.items r places.items so_far.filled all c.in_err-put.field-0.0 (rw c.as_mut_slice.ensures.value at c.in_err-put.ensures.err))

-- when all results were looked at
filled : (c : After-texts_in) → IsFilled (vec_len c.args.places) c.args.results.items c.loop-result.places.items
filled c =
    let so_far = c.loop-result.invariant in
    let seen = all_seen c.loop-result.yielded c.loop-result.result-iterator.rest.items c.args.results.items so_far.rest (nil_from_length c.loop-result.result-iterator.rest.items (sym c.loop-result.result-iterator.rest.ok.0 ∙ c.in-None.ensures.steps.0)) in
    subst (λ rs. IsFilled (vec_len c.args.places) rs c.loop-result.places.items) seen so_far.filled

pub returns-in-Ok-clause-ok : goal.returns-in-Ok-clause-ok
returns-in-Ok-clause-ok c =
    gathered (vec_len c.args.places) c.args.results.items c.loop-result.places.items c.in-Ok.texts.items (filled c.before) c.in-Ok.ensures.ok

pub returns-in-Err-clause-err : goal.returns-in-Err-clause-err
returns-in-Err-clause-err c =
    missing (vec_len c.args.places) c.args.results.items c.loop-result.places.items (filled c.before) c.in-Err.number c.in-Err.ensures.err
