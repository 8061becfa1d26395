use Rattle.std.proofs.Common.{◌≡◌, ◌∙◌, ap, subst, length, vec_len}
use Rattle.std.specs.Prelude.{None, IfOk}
use Rattle.std.proofs.lemmas.{List.length-replicate, Result.IfOk-weaker}
use Rattle.ultra_sweep.specs.{Job.texts_of, Gather.AreGathered}
use Rattle.ultra_sweep.proofs.Filling.{given_texts}
use Rattle.ultra_sweep.proofs.gathering.gather.Goals as goal

pub returns-clause-texts : goal.returns-clause-texts
returns-clause-texts c text jobs long all =
    let places = c.in_ok-places.places in
    let count : vec_len places ≡ c.args.count = places.ok.0 ∙ (ap length c.in_ok-places.ensures ∙ length-replicate c.args.count None) in
    let gathered = subst (λ n. IfOk c.gather_into.result (λ g. AreGathered n c.args.results.items g)) count c.gather_into.ensures.ok in
    IfOk-weaker c.gather_into.result (AreGathered c.args.count c.args.results.items) (λ g. g ≡ texts_of text jobs) (λ g h. given_texts text jobs c.args.count c.args.results.items g h long all) gathered
