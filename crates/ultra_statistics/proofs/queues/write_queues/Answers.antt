use Rattle.std.proofs.Common.{◌≤◌, ◌^◌, ◌∙◌, ap, subst, arith}
use Rattle.std.specs.Prelude.{Result, Ok, Err, OnErr}
use Rattle.ultra_model.specs.Machine.{size}
use Rattle.ultra_statistics.specs.{Kept.IsTable}
use Rattle.ultra_statistics.proofs.Tables.{table_is}
use Rattle.ultra_statistics.proofs.queues.write_queues.Goals as goal

on_err : {T E P : Type 0} (r : Result T E) → P → OnErr r P
on_err (Ok x) p = tt
on_err (Err e) p = p

pub observe_run-requires : goal.observe_run-requires
observe_run-requires g c = c.in_ok-table.ensures.table c.args.config.now c.args.program.now

pub returns-in_err-write_table-clause-err : goal.returns-in_err-write_table-clause-err
returns-in_err-write_table-clause-err g c =
    let s = c.args.config.now in
    let p = c.args.program.now in
    let end = c.in_ok-end.end in
    let table = c.observe_run.new.observer in
    let from = c.in_ok-end.ensures.from ∙ c.in_ok-table.ensures.from in
    let is = subst (λ f. IsTable s p f end end table) from c.in_ok-end.ensures.noted in
    let small : size s ≤ 64 = omega (arith, c.size-size.ensures.small, c.size-size.ensures.value ∙ ap (λ d. 2 ^ d) c.net.ensures) in
    let gone = rw (table_is s c.initial-valid.ensures.valid.range.most_stages small p c.args.from end table is c.args.to c.in_ok-end.ensures.end) at c.in_err-write_table.ensures.err in
    on_err c.from_residual-in_err-write_table.result gone

pub returns-clause-ok : goal.returns-clause-ok
returns-clause-ok g c =
    let s = c.args.config.now in
    let p = c.args.program.now in
    let end = c.in_ok-end.end in
    let table = c.observe_run.new.observer in
    let from = c.in_ok-end.ensures.from ∙ c.in_ok-table.ensures.from in
    let is = subst (λ f. IsTable s p f end end table) from c.in_ok-end.ensures.noted in
    let small : size s ≤ 64 = omega (arith, c.size-size.ensures.small, c.size-size.ensures.value ∙ ap (λ d. 2 ^ d) c.net.ensures) in
    rw (← table_is s c.initial-valid.ensures.valid.range.most_stages small p c.args.from end table is c.args.to c.in_ok-end.ensures.end) c.in_ok-write_table.ensures.ok
