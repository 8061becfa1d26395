use Rattle.std.proofs.Common.{refl, get_or, arith, rules, subst, ap, sym, ◌∙◌, ⊎_elim}
use Rattle.std.specs.Prelude.{slice_get}
use Rattle.std.proofs.lemmas.{Bool.cases_eq, Option.{slice_get-get_or, get_or_from_slice_get, slice_get_within}}
use Rattle.ultra_serial.specs.{RecordsByName.entries_named, Examined.IsListed}
use Rattle.ultra_serial_law.specs.declared.records.LoggedAnswer.{LoggedAnswer}
use Rattle.ultra_serial.proofs.{RecordsByName.{listed, not_listed}, Searching.some_answer}
use Rattle.ultra_serial.proofs.checking.first_missing.Goals as goal

pub returns-then-not-is_listed-clause-some : goal.returns-then-not-is_listed-clause-some
returns-then-not-is_listed-clause-some c = λ log list h.
    let b = c.args.names.now in
    let n = c.loop-index.index in
    let x = get_or c.args.answers.now n some_answer in
    record {
      answer = x;
      at = slice_get-get_or c.args.answers.now n some_answer (omega arith);
      missing = not_listed b log list h x c.entries.result.now c.entries.ensures (c.is_listed.ensures.no (search rules));
      listed = λ m a l at. listed b log list h a (entries_named b a.pe a.number) refl (c.loop-index.invariant m a l at);
    }

pub loop-index-preserved : goal.loop-index-preserved
loop-index-preserved c = λ k a l at.
    let b = c.args.names.now in
    let xs = c.args.answers.now in
    let n = c.loop-index.index in
    let x = get_or xs n some_answer in
    let y : IsListed (entries_named b x.pe x.number) x = subst (λ es. IsListed es x) c.entries.ensures (c.is_listed.ensures.yes (search rules)) in
    ⊎_elim (λ e. subst (λ (v : LoggedAnswer). IsListed (entries_named b v.pe v.number) v) (get_or_from_slice_get xs n a some_answer (ap (λ i. slice_get xs i) (sym e) ∙ at)) y)
    (λ ne. c.loop-index.invariant k a (omega (arith, l, ne)) at) (cases_eq k n)

pub returns-clause-none : goal.returns-clause-none
returns-clause-none c = λ log list h z a k.
    let b = c.args.names.now in
    listed b log list h a (entries_named b a.pe a.number) refl (c.loop-index.invariant k.0 a (omega (arith, slice_get_within c.args.answers.now k.0 a k.1)) k.1)
