use Rattle.std.proofs.Common.{◌≡◌, ◌-◌, List, ℕ, length}
use Rattle.ultra_io.specs.TextBuffer.{Writes}
use Rattle.ultra_para_run.specs.{ParaText.{steps_text, unless_only_end}, Steps.HasMade}
use Rattle.ultra_para_run.proofs.Drawn.{AreDrawn}
use Rattle.ultra_para_run.proofs.running.put_drawn.Given as goal

abbrev pub invariant-loop-made : goal.invariant-loop-made
invariant-loop-made g l =
    let c = l.initial.run.para.settings in
    let program = l.initial.run.para.program in
    record {
      steps : List ℕ;
      count : length steps ≡ l.made;
      made : HasMade c program steps l.run;
      drawn : AreDrawn c program l.fn.seed l.most steps (l.most - l.made) l.x;
      writes : Writes g.S.Sink.taken g.S.Sink.failures (unless_only_end l.only_end (steps_text c program steps)) l.initial.buffer l.buffer;
    }
