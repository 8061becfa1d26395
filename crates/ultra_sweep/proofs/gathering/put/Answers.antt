use Rattle.std.proofs.{Common.{◌∙◌, refl, sym, arith, get_or}, lemmas.List.get_or_default}
use Rattle.std.specs.Prelude.{None}
use Rattle.ultra_sweep.proofs.Filling.{is-empty}
use Rattle.ultra_sweep.proofs.gathering.put.Goals as goal

pub returns-in-Text-clause-ok : goal.returns-in-Text-clause-ok
returns-in-Text-clause-ok c =
    let places = c.args.places.now in
    let i = c.args.it.number in
    let none = is-empty (get_or places i c.index-places-number.result) (sym c.is_some.ensures ∙ c.if-is_some.false) in
    record {
      below = omega arith;
      empty = get_or_default places i None c.index-places-number.result (omega arith) ∙ none;
      text = c.in-Text.text;
      outcome = c.in-Text.is;
      full = refl;
    }
