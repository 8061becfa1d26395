use Rattle.std.proofs.Common.{◌≡◌, ◌+◌, ◌<◌, ap, subst, length, rules}
use Rattle.std.specs.Prelude.{slice_index, slice_set}
use Rattle.ultra_model.specs.Machine.{size}
use Rattle.ultra_para.specs.ParaState.{ParaState}
use Rattle.ultra_para_run.proofs.Made.{line_here, made_more}
use Rattle.ultra_para_run.proofs.steps.put_step.Goals as goal

pub returns-then-not-only_end-clause-writes : goal.returns-then-not-only_end-clause-writes
returns-then-not-only_end-clause-writes g c = λ s program ps made.
    let run = c.args.run.now in
    let few : c.args.pe < size s = subst (λ (m : ParaState). c.args.pe < size m.settings) made.state c.requires.there in
    let line = line_here s program ps c.args.pe c.requires.few run run made c.observed_step-report.result c.observed_step-report.ensures.report few in
    rw c.if-not-only_end.true (rw line at c.put_report.ensures)

pub returns-then-not-only_end-clause-made : goal.returns-then-not-only_end-clause-made
returns-then-not-only_end-clause-made g c = λ s program ps made.
    let run = c.args.run.now in
    let all : length run.acts ≡ 64 = search rules in
    made_more s program ps c.args.pe c.requires.few run _ made c.observed_step-report.result c.observed_step-report.ensures.report c.observed_step-report.ensures.state
    (ap (λ n. slice_set run.acts c.args.pe (slice_index run.acts c.args.pe + n)) c.act_count.ensures.value) all

pub returns-else-not-only_end-clause-made : goal.returns-else-not-only_end-clause-made
returns-else-not-only_end-clause-made g c = λ s program ps made.
    let run = c.args.run.now in
    let all : length run.acts ≡ 64 = search rules in
    made_more s program ps c.args.pe c.requires.few run _ made c.observed_step-report.result c.observed_step-report.ensures.report c.observed_step-report.ensures.state
    (ap (λ n. slice_set run.acts c.args.pe (slice_index run.acts c.args.pe + n)) c.act_count.ensures.value) all
