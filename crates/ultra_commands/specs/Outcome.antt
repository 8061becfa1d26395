-- which commands were obeyed, and with which status the program ends; this project's profile
use Rattle.std.specs.Prelude.{◌≡◌, ◌≢◌, ◌+◌, ℕ, List, [], ◌∷◌, ◌++◌, string_bytes, Result, OnOk, IfErr}
use Rattle.ultra_msg.specs.Bytes.{TakesPrefix}
use Rattle.ultra_args.specs.declared.Invocation.TheVariants.{Run, Cycles, Requests, Measure, Order, Explain, Check, Para, List as ListOf, Sweep, Lib}
use Rattle.ultra_command_line.specs.declared.Parsed.{Parsed}
use Rattle.ultra_command_line.specs.declared.Parsed.TheVariants as parsed
use Rattle.ultra_inputs.specs.{declared.failure.Failure.{Failure, TheVariants.{Usage, NoMemory, HeapTooSmall, HeapFull, NotWritten}}, Traffic.{Traffic, IsStopped, WroteText, TextFails}, Failure.{status_of, read_failures}, Shown.IsReported, Status.{IsStatus, IsRefusal, status_failures}}
use Rattle.ultra_io.specs.Account.{SinkState}
use Rattle.ultra_commands.specs.{Listing.{WroteListing, ListFails}, Stops.{WroteRun, RunFails}, Outputs.{cycles_text, measures_asked, part_asked}, Check.{WroteLegal, CheckFails}, Paracomputer.{WrotePara, ParaFails}, Order.order_of, Coordination.{WroteProgram, LibFails}}
use Rattle.ultra_explain_command.specs.Explanation.{explanation_of, EndsFull, IsCutShort}
use Rattle.ultra_sweep_command.specs.Sweep.{Swept, SweepFails}
use Rattle.ultra_requests.specs.RequestTable.{requests_of}

-- how an explanation fails: where the heap is full, the lines before a combination are written, and
-- nothing where it is too small
pub record ExplainFails (conf prog : List ℕ) (old new : Traffic) (f : Failure) : Type 0 where
  pub fails : TextFails explanation_of IsCutShort conf prog old new f
  pub full : f ≡ HeapFull → EndsFull conf prog old new
  pub too_small : f ≡ HeapTooSmall → new.written ≡ old.written

-- help or the version was written
abbrev pub WroteAnswer : List ℕ → Traffic → Traffic → Type 0
WroteAnswer text old new = new ≡ record old { written = old.written ++ text }

-- a prefix of it was written, and no file was read
abbrev pub AnswerFails : List ℕ → Traffic → Traffic → Failure → Type 0
AnswerFails text old new f =
    (f ≡ NotWritten) × (new.files ≡ old.files) × TakesPrefix text old.written new.written

-- what was asked for was done. Standard error took nothing, but for the progress of a sweep
abbrev pub Obeyed : Parsed → Traffic → Traffic → SinkState → SinkState → Type 0
Obeyed (parsed.Invocation (Run conf prog workers from to only)) old new before after =
    WroteRun (part_asked from to only) conf.now prog.now old new × (after ≡ before)
Obeyed (parsed.Invocation (Cycles output conf prog from to)) old new before after =
    WroteText (cycles_text output from to) conf.now prog.now old new × (after ≡ before)
Obeyed (parsed.Invocation (Requests conf prog)) old new before after =
    WroteText requests_of conf.now prog.now old new × (after ≡ before)
Obeyed (parsed.Invocation (Measure conf prog csv every from to)) old new before after =
    WroteText (measures_asked csv every from to) conf.now prog.now old new × (after ≡ before)
Obeyed (parsed.Invocation (Order conf prog)) old new before after =
    WroteText order_of conf.now prog.now old new × (after ≡ before)
Obeyed (parsed.Invocation (Explain conf prog heap)) old new before after =
    WroteText explanation_of conf.now prog.now old new × (after ≡ before)
Obeyed (parsed.Invocation (Check conf prog list)) old new before after =
    WroteLegal conf.now prog.now list.now old new × (after ≡ before)
Obeyed (parsed.Invocation (Para conf prog schedule only_end)) old new before after =
    WrotePara schedule only_end conf.now prog.now old new × (after ≡ before)
Obeyed (parsed.Invocation (ListOf prog careful)) old new before after =
    WroteListing prog.now careful old new × (after ≡ before)
Obeyed (parsed.Invocation (Sweep jobs workers at_once progress output)) old new before after =
    Swept jobs.now output progress old new before after
Obeyed (parsed.Invocation (Lib coordination)) old new before after =
    (new.files ≡ old.files) × WroteProgram coordination old.written new.written × (after ≡ before)
Obeyed (parsed.Help text) old new before after =
    WroteAnswer (string_bytes text) old new × (after ≡ before)
Obeyed (parsed.Version text) old new before after =
    WroteAnswer (string_bytes text) old new × (after ≡ before)
Obeyed (parsed.Usage text) old new before after = ⊥
Obeyed parsed.NoMemory old new before after = ⊥

-- how it wasn't done, before the failure was reported
abbrev pub NotObeyed : Parsed → Traffic → Traffic → SinkState → SinkState → Failure → Type 0
NotObeyed (parsed.Invocation (Run conf prog workers from to only)) old new before after f =
    RunFails (part_asked from to only) workers conf.now prog.now old new f × (after ≡ before)
NotObeyed (parsed.Invocation (Cycles output conf prog from to)) old new before after f =
    TextFails (cycles_text output from to) IsStopped conf.now prog.now old new f
    × (after ≡ before)
NotObeyed (parsed.Invocation (Requests conf prog)) old new before after f =
    TextFails requests_of IsStopped conf.now prog.now old new f × (after ≡ before)
NotObeyed (parsed.Invocation (Measure conf prog csv every from to)) old new before after f =
    TextFails (measures_asked csv every from to) IsStopped conf.now prog.now old new f
    × (after ≡ before)
NotObeyed (parsed.Invocation (Order conf prog)) old new before after f =
    TextFails order_of IsStopped conf.now prog.now old new f × (after ≡ before)
NotObeyed (parsed.Invocation (Explain conf prog heap)) old new before after f =
    ExplainFails conf.now prog.now old new f × (after ≡ before)
NotObeyed (parsed.Invocation (Check conf prog list)) old new before after f =
    CheckFails conf.now prog.now list.now old new f × (after ≡ before)
NotObeyed (parsed.Invocation (Para conf prog schedule only_end)) old new before after f =
    ParaFails schedule only_end conf.now prog.now old new f × (after ≡ before)
NotObeyed (parsed.Invocation (ListOf prog careful)) old new before after f =
    ListFails prog.now careful old new f × (after ≡ before)
NotObeyed (parsed.Invocation (Sweep jobs workers at_once progress output)) old new before after f =
    SweepFails jobs.now workers output progress old new before after f
NotObeyed (parsed.Invocation (Lib coordination)) old new before after f =
    (new.files ≡ old.files) × LibFails coordination old.written new.written f × (after ≡ before)
NotObeyed (parsed.Help text) old new before after f =
    AnswerFails (string_bytes text) old new f × (after ≡ before)
NotObeyed (parsed.Version text) old new before after f =
    AnswerFails (string_bytes text) old new f × (after ≡ before)
NotObeyed (parsed.Usage text) old new before after f =
    (f ≡ Usage text) × (new ≡ old) × (after ≡ before)
NotObeyed parsed.NoMemory old new before after f = (f ≡ NoMemory) × (new ≡ old) × (after ≡ before)

-- the failure was reported, after what was shown before. The source of files has failed as often as
-- the failure says
pub record Failed (p : Parsed) (old new : Traffic) (before after : SinkState)
    (source_failures source_failures_after status : ℕ) : Type 0 where
  pub failure : Failure
  pub shown : SinkState
  pub same_status : status_of failure ≡ status
  pub why : NotObeyed p old new before shown failure
  pub report : IsReported failure shown after
  pub read_counted : source_failures_after ≡ source_failures + read_failures failure

-- a failure was reported, and else nothing
pub record HasReported {T : Type 0} (done : Result T Failure) (before after : SinkState)
    (status : ℕ) : Type 0 where
  pub well : OnOk done ((status ≡ 0) × (after ≡ before))
  pub badly : IfErr done (λ f. (status ≡ status_of f) × IsReported f before after)

-- the program ended: what was asked for was done, or a failure was reported
pub record HasEnded (p : Parsed) (old new : Traffic) (before after : SinkState)
    (source_failures source_failures_after failures failures_after end : ℕ) : Type 0 where
  pub status : IsStatus end
  pub nothing : IsRefusal end → new.written ≡ old.written
  pub counted : failures_after ≡ failures + status_failures end
  pub read_still : end ≢ 3 → source_failures_after ≡ source_failures
  pub done : end ≡ 0 → Obeyed p old new before after
  pub failed : end ≢ 0 → Failed p old new before after source_failures source_failures_after end
