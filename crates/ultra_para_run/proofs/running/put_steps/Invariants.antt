use Rattle.std.proofs.Common.{take}
use Rattle.ultra_io.specs.TextBuffer.{Writes}
use Rattle.ultra_para_run.specs.{ParaText.{steps_text, unless_only_end}, Steps.HasMade}
use Rattle.ultra_para_run.proofs.running.put_steps.Given as goal

abbrev pub invariant-loop-pe : goal.invariant-loop-pe
invariant-loop-pe g l =
    let c = l.initial.run.para.settings in
    let program = l.initial.run.para.program in
    let ps = take l.pe-index l.schedule in
    record {
      made : HasMade c program ps l.run;
      writes : Writes g.S.Sink.taken g.S.Sink.failures (unless_only_end l.only_end (steps_text c program ps)) l.initial.buffer l.buffer;
    }
