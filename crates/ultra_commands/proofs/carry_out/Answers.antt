-- how each command ends
use Rattle.std.proofs.{Common.{◌≡◌, ◌+◌, arith, refl}, lemmas.Result.{IfErr-weaker, on_ok_weaker}}
use Rattle.std.specs.Prelude.{OnOk}
use Rattle.ultra_args.specs.declared.Invocation.TheVariants.{Run, Cycles, Requests, Measure, Order, Explain, Check, Para, List as ListOf, Sweep, Lib}
use Rattle.ultra_command_line.specs.declared.Parsed.TheVariants as parsed
use Rattle.ultra_requests.specs.RequestTable.{requests_of}
use Rattle.ultra_inputs.specs.{Failure.read_failures, Traffic.{traffic, WroteText}}
use Rattle.ultra_commands.specs.{Listing.{WroteListing, ListFails}, Stops.{WroteRun, RunFails}, Order.order_of, Coordination.{WroteProgram, LibFails}, Outputs.{cycles_text, measures_asked, part_asked}, Check.{WroteLegal, CheckFails}, Paracomputer.{WrotePara, ParaFails}, Outcome.ExplainFails}
use Rattle.ultra_explain_command.specs.Explanation.{explanation_of}
use Rattle.ultra_commands.proofs.Endings.{run_refused, check_refused, para_refused, explain_failed, explain_refused, list_refused, lib_refused, lib_unread, command_ended, text_ended, sweep_ended}
use Rattle.ultra_commands.proofs.carry_out.Goals as goal

pub returns-in-Run : goal.returns-in-Run
returns-in-Run g c =
    let a = c.in-Run in
    let conf = a.settings.now in
    let prog = a.program.now in
    let old = traffic (g.F.Source.files c.args.source.now) (g.O.Sink.taken c.args.out.now) in
    let new = traffic (g.F.Source.files c.run-done.new.source) (g.O.Sink.taken c.run-done.new.out) in
    let did = rw c.part_asked-part.ensures at c.run-done.ensures in
    let part = part_asked a.from a.to a.only in
    rw a.is (command_ended (parsed.Invocation (Run a.settings a.program a.workers a.from a.to a.only)) old new _ _ _ _ _ _ _ c.run-done.result (WroteRun part conf prog old new) (RunFails part a.workers conf prog old new) (λ d same. (d, same)) (λ f why. (why, refl)) (λ f. run_refused conf prog old new f part a.workers) did.ok did.err did.read_still did.read_counted did.write_still did.write_counted c.report_outcome.ensures)

pub returns-in-Cycles : goal.returns-in-Cycles
returns-in-Cycles g c =
    let a = c.in-Cycles in
    let conf = a.settings.now in
    let prog = a.program.now in
    let old = traffic (g.F.Source.files c.args.source.now) (g.O.Sink.taken c.args.out.now) in
    let new = traffic (g.F.Source.files c.write_run_output-done.new.source) (g.O.Sink.taken c.write_run_output-done.new.out) in
    let did = c.write_run_output-done.ensures in
    rw a.is (text_ended (parsed.Invocation (Cycles a.output a.settings a.program a.from a.to)) old new _ _ _ _ _ _ _ c.write_run_output-done.result (cycles_text a.output a.from a.to) conf prog (λ d same. (d, same)) (λ f why. (why, refl)) did.ok did.err did.read_still did.read_counted did.write_still did.write_counted c.report_outcome-in-Cycles.ensures)

pub returns-in-Requests : goal.returns-in-Requests
returns-in-Requests g c =
    let a = c.in-Requests in
    let conf = a.settings.now in
    let prog = a.program.now in
    let old = traffic (g.F.Source.files c.args.source.now) (g.O.Sink.taken c.args.out.now) in
    let new = traffic (g.F.Source.files c.write_run_output-done-in-Requests.new.source) (g.O.Sink.taken c.write_run_output-done-in-Requests.new.out) in
    let did = c.write_run_output-done-in-Requests.ensures in
    rw a.is (text_ended (parsed.Invocation (Requests a.settings a.program)) old new _ _ _ _ _ _ _ c.write_run_output-done-in-Requests.result requests_of conf prog (λ d same. (d, same)) (λ f why. (why, refl)) did.ok did.err did.read_still did.read_counted did.write_still did.write_counted c.report_outcome-in-Requests.ensures)

pub returns-in-Measure : goal.returns-in-Measure
returns-in-Measure g c =
    let a = c.in-Measure in
    let conf = a.settings.now in
    let prog = a.program.now in
    let old = traffic (g.F.Source.files c.args.source.now) (g.O.Sink.taken c.args.out.now) in
    let new = traffic (g.F.Source.files c.write_run_output-done-in-Measure.new.source) (g.O.Sink.taken c.write_run_output-done-in-Measure.new.out) in
    let did = c.write_run_output-done-in-Measure.ensures in
    rw a.is (text_ended (parsed.Invocation (Measure a.settings a.program a.csv a.every a.from a.to)) old new _ _ _ _ _ _ _ c.write_run_output-done-in-Measure.result (measures_asked a.csv a.every a.from a.to) conf prog (λ d same. (d, same)) (λ f why. (why, refl)) did.ok did.err did.read_still did.read_counted did.write_still did.write_counted c.report_outcome-in-Measure.ensures)

pub returns-in-Order : goal.returns-in-Order
returns-in-Order g c =
    let a = c.in-Order in
    let conf = a.settings.now in
    let prog = a.program.now in
    let old = traffic (g.F.Source.files c.args.source.now) (g.O.Sink.taken c.args.out.now) in
    let new = traffic (g.F.Source.files c.write_run_output-done-in-Order.new.source) (g.O.Sink.taken c.write_run_output-done-in-Order.new.out) in
    let did = c.write_run_output-done-in-Order.ensures in
    rw a.is (text_ended (parsed.Invocation (Order a.settings a.program)) old new _ _ _ _ _ _ _ c.write_run_output-done-in-Order.result order_of conf prog (λ d same. (d, same)) (λ f why. (why, refl)) did.ok did.err did.read_still did.read_counted did.write_still did.write_counted c.report_outcome-in-Order.ensures)

pub returns-in-Explain : goal.returns-in-Explain
returns-in-Explain g c =
    let a = c.in-Explain in
    let conf = a.settings.now in
    let prog = a.program.now in
    let old = traffic (g.F.Source.files c.args.source.now) (g.O.Sink.taken c.args.out.now) in
    let new = traffic (g.F.Source.files c.explain-done.new.source) (g.O.Sink.taken c.explain-done.new.out) in
    let did = c.explain-done.ensures in
    rw a.is (command_ended (parsed.Invocation (Explain a.settings a.program a.heap)) old new _ _ _ _ _ _ _ c.explain-done.result (WroteText explanation_of conf prog old new) (ExplainFails conf prog old new) (λ d same. (d, same)) (λ f why. (why, refl)) (explain_refused conf prog old new) did.ok (explain_failed conf prog old new c.explain-done.result did.err did.full did.too_small) did.read_still did.read_counted did.write_still did.write_counted c.report_outcome-in-Explain.ensures)

pub returns-in-Check : goal.returns-in-Check
returns-in-Check g c =
    let a = c.in-Check in
    let conf = a.settings.now in
    let prog = a.program.now in
    let old = traffic (g.F.Source.files c.args.source.now) (g.O.Sink.taken c.args.out.now) in
    let new = traffic (g.F.Source.files c.check-done.new.source) (g.O.Sink.taken c.check-done.new.out) in
    let did = c.check-done.ensures in
    rw a.is (command_ended (parsed.Invocation (Check a.settings a.program a.list)) old new _ _ _ _ _ _ _ c.check-done.result (WroteLegal conf prog a.list.now old new) (CheckFails conf prog a.list.now old new) (λ d same. (d, same)) (λ f why. (why, refl)) (λ f. check_refused conf prog a.list.now old new f) did.ok did.err did.read_still did.read_counted did.write_still did.write_counted c.report_outcome-in-Check.ensures)

pub returns-in-Para : goal.returns-in-Para
returns-in-Para g c =
    let a = c.in-Para in
    let conf = a.settings.now in
    let prog = a.program.now in
    let old = traffic (g.F.Source.files c.args.source.now) (g.O.Sink.taken c.args.out.now) in
    let new = traffic (g.F.Source.files c.para-done.new.source) (g.O.Sink.taken c.para-done.new.out) in
    let did = c.para-done.ensures in
    rw a.is (command_ended (parsed.Invocation (Para a.settings a.program a.schedule a.only_end)) old new _ _ _ _ _ _ _ c.para-done.result (WrotePara a.schedule a.only_end conf prog old new) (ParaFails a.schedule a.only_end conf prog old new) (λ d same. (d, same)) (λ f why. (why, refl)) (λ f. para_refused a.schedule a.only_end conf prog old new f) did.ok did.err did.read_still did.read_counted did.write_still did.write_counted c.report_outcome-in-Para.ensures)

pub returns-in-List : goal.returns-in-List
returns-in-List g c =
    let a = c.in-List in
    let prog = a.program.now in
    let old = traffic (g.F.Source.files c.args.source.now) (g.O.Sink.taken c.args.out.now) in
    let new = traffic (g.F.Source.files c.list.new.source) (g.O.Sink.taken c.list.new.out) in
    let did = c.list.ensures in
    rw a.is (command_ended (parsed.Invocation (ListOf a.program a.careful)) old new _ _ _ _ _ _ _ c.list.result (WroteListing prog a.careful old new) (ListFails prog a.careful old new) (λ d same. (d, same)) (λ f why. (why, refl)) (λ f. list_refused prog a.careful old new f) did.ok did.err did.read_still did.read_counted did.write_still did.write_counted c.report_outcome-in-List.ensures)

pub returns-in-Sweep : goal.returns-in-Sweep
returns-in-Sweep g c =
    let a = c.in-Sweep in
    let did = c.sweep.ensures in
    rw a.is (sweep_ended (parsed.Invocation (Sweep a.jobs a.workers a.at_once a.progress a.output)) _ _ _ _ _ _ _ _ _ a.jobs.now a.workers a.output a.progress (λ d. d) (λ f shown why. why) did.done did.failed did.read_still did.still did.counted)

pub returns-in-Lib : goal.returns-in-Lib
returns-in-Lib g c =
    let a = c.in-Lib in
    let files = g.F.Source.files c.args.source.now in
    let read = g.F.Source.failures c.args.source.now in
    let old = g.O.Sink.taken c.args.out.now in
    let new = g.O.Sink.taken c.write_program.new.out in
    let did = c.write_program.ensures in
    let result = c.write_program.result in
    let fails = LibFails a.coordination old new in
    let read_still : OnOk result (read ≡ read) = on_ok_weaker result (λ d. refl) did.ok in
    let read_counted = IfErr-weaker result fails (λ f. read ≡ read + read_failures f) (λ f why. let none = lib_unread a.coordination old new f why in omega (arith, none)) did.err in
    rw a.is (command_ended (parsed.Invocation (Lib a.coordination)) (traffic files old) (traffic files new) _ _ _ _ _ _ _ result (WroteProgram a.coordination old new) fails (λ d same. (refl, d, same)) (λ f why. (refl, why, refl)) (λ f. lib_refused a.coordination old new f) did.ok did.err read_still read_counted did.still did.counted c.report_outcome-in-Lib.ensures)
