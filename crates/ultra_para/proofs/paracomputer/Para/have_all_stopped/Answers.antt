use Rattle.std.proofs.{Common.{sym, ◌∙◌, ap}, lemmas.List.Folds.list_all-map}
use Rattle.std.specs.List.{list_all}
use Rattle.ultra_isa.specs.Step.{ProcessorState, Core, has_stopped}
use Rattle.ultra_para.specs.{Report.have_all_stopped, ParaState.ParaState}
use Rattle.ultra_para.proofs.paracomputer.Para.have_all_stopped.Goals as goal

pub returns : goal.returns
returns c =
    let stopped = λ (e : Core). has_stopped e.activity in
    c.have_stopped.ensures
    ∙ (ap (list_all (λ (l : ProcessorState). has_stopped l.core.activity)) c.as_slice.ensures.value
    ∙ (sym (list_all-map stopped (λ (l : ProcessorState). l.core) c.self.inside.processors.items)
    ∙ ap (λ (m : ParaState). have_all_stopped m.state) c.self.view_is))
