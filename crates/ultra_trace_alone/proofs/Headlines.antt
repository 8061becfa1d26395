-- the headline of a run that has written its trace
use Rattle.std.proofs.Common.{◌≡◌, ℕ, List, ◌++◌, refl}
use Rattle.std.specs.Prelude.{Result, Ok, Err, OnOk}
use Rattle.ultra_isa.specs.declared.Instr.{Instr}
use Rattle.ultra_model.specs.{Machine.Settings, Ranges.AreInRange, Trace.trace}
use Rattle.ultra_serial_law.proofs.{Law.are_chained, Replies.answers_after}
use Rattle.ultra_trace_alone.specs.Headline.{Headline}
use Rattle.ultra_trace_alone.proofs.Shown.{lines_are, replies_shown}

module _ (c : Settings) (program : List Instr) where
  headline : AreInRange c → Headline c program (trace c program)
  headline range = record {
    trace = refl;
    chain = are_chained c range program;
    replies = record { shown = replies_shown c program; lines = lines_are c program; answers = answers_after c range program };
  }

  pub headline_on_ok : {T E : Type 0} (r : Result T E) (old new : List ℕ) → AreInRange c → OnOk r (new ≡ old ++ trace c program)
      → OnOk r ((written : List ℕ) × (new ≡ old ++ written) × Headline c program written)
  headline_on_ok (Ok x) old new range e = (trace c program, e, headline range)
  headline_on_ok (Err x) old new range e = tt
