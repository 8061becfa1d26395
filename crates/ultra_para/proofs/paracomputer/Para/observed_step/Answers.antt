use Rattle.std.proofs.Common.{◌≡◌, ◌<◌, ℕ, List, slice_set, sym, ◌∙◌, ap, subst}
use Rattle.std.specs.Vec.{with_items}
use Rattle.std.proofs.lemmas.List.{with_items_is}
use Rattle.ultra_model.specs.Machine.{size}
use Rattle.ultra_para.specs.{Para.para_step, ParaState.{ParaState, programmed}, Report.step_report}
use Rattle.ultra_para.proofs.Peopled.{stepped_is, report_is}
use Rattle.ultra_para.proofs.paracomputer.Para.observed_step.Goals as goal

pub returns-clause-state : goal.returns-clause-state
returns-clause-state c =
    let view = c.self.view_is in
    let few : c.args.pe < size c.self.inside.config = subst (λ (m : ParaState). c.args.pe < size m.settings) (sym view) c.requires in
    let is = stepped_is c.self.inside.config c.self.inside.program c.self.inside.cells.items c.self.inside.processors.items c.self.invariant c.args.pe few c.index_mut.result.now c.step_at_once.new.processor c.step_at_once.new.cells c.as_mut_slice.result.now c.as_mut_slice.ensures.value c.index_mut.ensures.value c.step_at_once.ensures.processor c.step_at_once.ensures.cells in
    let items : (with_items c.self.inside.cells c.step_at_once.new.cells).items ≡ c.step_at_once.new.cells = with_items_is c.self.inside.cells c.step_at_once.new.cells (c.step_at_once.auto.cells ∙ c.as_mut_slice.ensures.len) in
    let kept = ap (λ (xs : List ℕ). programmed c.self.inside.config c.self.inside.program xs (slice_set c.self.inside.processors.items c.args.pe c.step_at_once.new.processor)) items in
    kept ∙ (is ∙ ap (λ (m : ParaState). record m { state = para_step m.settings m.program m.state c.args.pe }) view)

pub returns-clause-report : goal.returns-clause-report
returns-clause-report c =
    let view = c.self.view_is in
    let few : c.args.pe < size c.self.inside.config = subst (λ (m : ParaState). c.args.pe < size m.settings) (sym view) c.requires in
    report_is c.self.inside.config c.self.inside.program c.self.inside.cells.items c.self.inside.processors.items c.self.invariant c.args.pe few c.index_mut.result.now c.as_mut_slice.result.now c.as_mut_slice.ensures.value c.index_mut.ensures.value _ c.step_at_once.ensures.report
    ∙ ap (λ (m : ParaState). step_report m.settings m.program m.state c.args.pe) view
