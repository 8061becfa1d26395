use Rattle.std.proofs.Common.{◌∙◌, subst}
use Rattle.std.specs.Prelude.{Result, Ok, Err, OnErr}
use Rattle.ultra_statistics.specs.Latencies.{IsHistogram}
use Rattle.ultra_statistics.proofs.Histograms.{histogram_is}
use Rattle.ultra_statistics.proofs.latencies.write_latencies.Goals as goal

on_err : {T E P : Type 0} (r : Result T E) → P → OnErr r P
on_err (Ok x) p = tt
on_err (Err e) p = p

pub observe_run-requires : goal.observe_run-requires
observe_run-requires g c = c.in_ok-counts.ensures.table c.args.program.now

pub returns-in_err-write_histogram-clause-err : goal.returns-in_err-write_histogram-clause-err
returns-in_err-write_histogram-clause-err g c =
    let s = c.args.config.now in
    let p = c.args.program.now in
    let end = c.in_ok-observe_run.field-0 in
    let t = c.observe_run.new.observer in
    let is = subst (λ f. IsHistogram s p f end t) (c.in_ok-observe_run.ensures.from ∙ c.in_ok-counts.ensures.from) c.in_ok-observe_run.ensures.noted in
    let gone = rw (c.deref.ensures.value, histogram_is s p c.args.from c.args.to end t c.in_ok-observe_run.ensures.end is) at c.in_err-write_histogram.ensures.err in
    on_err c.from_residual-in_err-write_histogram.result gone

pub returns-clause-ok : goal.returns-clause-ok
returns-clause-ok g c =
    let s = c.args.config.now in
    let p = c.args.program.now in
    let end = c.in_ok-observe_run.field-0 in
    let t = c.observe_run.new.observer in
    let is = subst (λ f. IsHistogram s p f end t) (c.in_ok-observe_run.ensures.from ∙ c.in_ok-counts.ensures.from) c.in_ok-observe_run.ensures.noted in
    rw (← histogram_is s p c.args.from c.args.to end t c.in_ok-observe_run.ensures.end is) (rw c.deref.ensures.value at c.in_ok-write_histogram.ensures.ok)
