use Rattle.std.proofs.Common.{◌≡◌, ◌∙◌, true, false, refl, ap}
use Rattle.ultra_msg.proofs.Prefixes.{takes_none}
use Rattle.ultra_msg.specs.declared.Event.{Event}
use Rattle.ultra_tree.specs.{Absorb.{ExplainerState, ExplainsExplainFault, IsCombination}, declared.explaining.ExplainFault.{ExplainFault, TheVariants.{Full, Spent}}}
use Rattle.ultra_explain_command.proofs.acts.put_event.Goals as goal

-- an explainer that wasn't spent is so now, after a combination
full_there : (old : ExplainerState) (e : Event) (f : ExplainFault) (new : ExplainerState) → old.is_spent ≡ false → ExplainsExplainFault old e f new → IsCombination e × (new.is_spent ≡ true)
full_there old e Full new working h = (h.1, ap (λ (x : ExplainerState). x.is_spent) h.2)
full_there old e Spent new working h = let spent = h.0 in absurd cc

pub returns-in_default-clause-err : goal.returns-in_default-clause-err
returns-in_default-clause-err g c = takes_none _ _

pub returns-in_default-clause-heap_full : goal.returns-in_default-clause-heap_full
returns-in_default-clause-heap_full g c = λ _. (full_there c.args.explainer.now c.args.event.now c.in_default.field-0 c.absorb.new.self c.requires.working c.in_default.ensures.fault).1

pub returns-in_default-clause-combines : goal.returns-in_default-clause-combines
returns-in_default-clause-combines g c = λ _. (full_there c.args.explainer.now c.args.event.now c.in_default.field-0 c.absorb.new.self c.requires.working c.in_default.ensures.fault).0

pub returns-in_default-clause-no_line : goal.returns-in_default-clause-no_line
returns-in_default-clause-no_line g c = λ _. refl

pub returns-in_default-served-clause-trees : goal.returns-in_default-served-clause-trees
returns-in_default-served-clause-trees g c = c.in-Ok.ensures.trees

pub returns-in-Ok-write_act-clause-trees : goal.returns-in-Ok-write_act-clause-trees
returns-in-Ok-write_act-clause-trees g c = c.in-Ok.ensures.trees

pub returns-clause-no_memory : goal.returns-clause-no_memory
returns-clause-no_memory g c = λ _. ap (λ (x : ExplainerState). x.is_spent) c.in-Ok.ensures.trees ∙ c.requires.working
