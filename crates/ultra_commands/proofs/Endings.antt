-- how commands end
use Rattle.std.proofs.Common.{◌≡◌, ◌≢◌, ◌∙◌, ◌+◌, ℕ, inl, inr, refl, sym, ap, subst, arith, ⊎_elim}
use Rattle.std.specs.Prelude.{Bool, List, Result, Ok, Err, OnOk, IfErr}
use Rattle.std.proofs.lemmas.Bool.{cases_eq}
use Rattle.ultra_settings.specs.JobsText.{Paths}
use Rattle.ultra_isa.specs.declared.Instr.{Instr}
use Rattle.ultra_model.specs.Machine.{Settings}
use Rattle.ultra_io.specs.Account.{SinkState}
use Rattle.ultra_inputs.specs.{declared.failure.Failure.Failure, Failure.{status_of, read_failures, write_failures}, Traffic.{Traffic, IsStopped, WroteText, TextFails}, Shown.IsReported, Status.{IsStatus, IsRefusal, status_failures}}
use Rattle.ultra_inputs.specs.declared.failure.Failure.TheVariants.{NotFenced, NotLegal, NoThread, HeapTooSmall, HeapFull, NotWritten}
use Rattle.ultra_commands.specs.{Listing.{ListFails, unread_text, refused_text, unwritten, not_careful}, Check.{CheckFails, failure_of_verdict}, Paracomputer.{ParaFails, seeded_text}, Stops.{IsStoppedBy, RunFails}, Coordination.LibFails, Outcome.{ExplainFails, Obeyed, NotObeyed, HasReported, HasEnded}}
use Rattle.ultra_trace_alone.specs.{declared.part.TracePart.TracePart, Part.part_of}
use Rattle.ultra_verdict.specs.declared.VerdictFault.{VerdictFault}
use Rattle.ultra_verdict.specs.declared.VerdictFault.TheVariants as verdict
use Rattle.ultra_args.specs.declared.{ScheduleSource.{ScheduleSource, TheVariants.{File, Seed}}, Coordination.Coordination, sweep_output.SweepOutput.SweepOutput}
use Rattle.ultra_commands.specs.Check as check
use Rattle.ultra_commands.specs.Paracomputer as para
use Rattle.ultra_explain_command.specs.Explanation.{explanation_of, EndsFull, IsCutShort}
use Rattle.ultra_commands.specs.Coordination as lib
use Rattle.ultra_command_line.specs.declared.Parsed.{Parsed}
use Rattle.ultra_sweep_command.specs.Sweep as sweep
use Rattle.ultra_sweep_command.specs.Sweep.{Swept, SweepFails, HasFailed, JobsFail}
use Rattle.ultra_inputs.proofs.Endings.{ends, not_four, not_five, ended_by, is_unwritten, is_stopped, stopped_refused, text_refused}

not_one : ¬ IsRefusal 1
not_one (inl e) = cc
not_one (inr e) = cc

verdict_stops : (v : VerdictFault) → ¬ IsRefusal (status_of (failure_of_verdict v))
verdict_stops verdict.Write = not_five
verdict_stops verdict.NoMemory = not_four

is_stopped_by : (workers : ℕ) (f : Failure) → IsStoppedBy workers f → ¬ IsRefusal (status_of f)
is_stopped_by workers f (inl s) = is_stopped f s
is_stopped_by workers f (inr s) = ended_by f NoThread s.0 not_four

is_cut_short : (f : Failure) → IsCutShort f → ¬ IsRefusal (status_of f)
is_cut_short f (inl e) = ended_by f HeapTooSmall e not_four
is_cut_short f (inr (inl e)) = ended_by f HeapFull e not_four
is_cut_short f (inr (inr s)) = is_stopped f s

module _ (conf prog : List ℕ) (old new : Traffic) (f : Failure) (text : Settings → List Instr → List ℕ) where
  stopped_by_refused : (workers : ℕ) → TextFails text (IsStoppedBy workers) conf prog old new f → IsRefusal (status_of f) → new.written ≡ old.written
  stopped_by_refused workers = text_refused conf prog old new f text (IsStoppedBy workers) (is_stopped_by workers f)

  cut_short_refused : TextFails text IsCutShort conf prog old new f → IsRefusal (status_of f) → new.written ≡ old.written
  cut_short_refused = text_refused conf prog old new f text IsCutShort (is_cut_short f)

pub run_refused : (conf prog : List ℕ) (old new : Traffic) (f : Failure) (part : TracePart) (workers : ℕ) → RunFails part workers conf prog old new f → IsRefusal (status_of f) → new.written ≡ old.written
run_refused conf prog old new f part workers why = stopped_by_refused conf prog old new f (part_of part) workers why.shown

pub check_refused : (conf prog list : List ℕ) (old new : Traffic) (f : Failure) → CheckFails conf prog list old new f → IsRefusal (status_of f) → new.written ≡ old.written
check_refused conf prog list old new f (check.refused gave same) r = same
check_refused conf prog list old new f (check.not_legal c p l gave why written) r = absurd (ended_by f NotLegal why not_one r)
check_refused conf prog list old new f (check.stopped c p l gave v why cut) r = absurd (ended_by f (failure_of_verdict v) why (verdict_stops v) r)

pub para_refused : (schedule : ScheduleSource) (only_end : Bool) (conf prog : List ℕ) (old new : Traffic) (f : Failure) → ParaFails schedule only_end conf prog old new f → IsRefusal (status_of f) → new.written ≡ old.written
para_refused (File path) only_end conf prog old new f (para.refused gave same) r = same
para_refused (File path) only_end conf prog old new f (para.stopped c p s gave stops begun) r = absurd (is_stopped f stops r)
para_refused (Seed seed steps) only_end conf prog old new f why r = stopped_refused conf prog old new f (seeded_text seed steps only_end) why r

pub explain_refused : (conf prog : List ℕ) (old new : Traffic) (f : Failure) → ExplainFails conf prog old new f → IsRefusal (status_of f) → new.written ≡ old.written
explain_refused conf prog old new f why = cut_short_refused conf prog old new f explanation_of why.fails

-- what the command explain says of its failure, as one fact
pub explain_failed : {T : Type 0} (conf prog : List ℕ) (old new : Traffic) (r : Result T Failure) → IfErr r (TextFails explanation_of IsCutShort conf prog old new) → IfErr r (λ f. f ≡ HeapFull → EndsFull conf prog old new) → IfErr r (λ f. f ≡ HeapTooSmall → new.written ≡ old.written) → IfErr r (ExplainFails conf prog old new)
explain_failed conf prog old new (Ok x) fails full small = fails
explain_failed conf prog old new (Err f) fails full small = record { fails = fails; full = full; too_small = small }

pub list_refused : (prog : List ℕ) (careful : Bool) (old new : Traffic) (f : Failure) → ListFails prog careful old new f → IsRefusal (status_of f) → new.written ≡ old.written
list_refused prog careful old new f (unread_text why same) r = ap (λ t. t.written) same
list_refused prog careful old new f (refused_text text why same) r = ap (λ t. t.written) same
list_refused prog careful old new f (unwritten text p gave why files begun) r = absurd (is_unwritten f why r)
list_refused prog careful old new f (not_careful text p gave asked path k why same first files written) r = absurd (ended_by f (NotFenced path k) why not_one r)

pub lib_refused : (c : Coordination) (old new : List ℕ) (f : Failure) → LibFails c old new f → IsRefusal (status_of f) → new ≡ old
lib_refused c old new f (lib.refused bad why same) r = same
lib_refused c old new f (lib.no_memory good why same) r = same
lib_refused c old new f (lib.unwritten good why begun) r = absurd (is_unwritten f why r)

-- a command that writes a coordination program reads no file
pub lib_unread : (c : Coordination) (old new : List ℕ) (f : Failure) → LibFails c old new f → read_failures f ≡ 0
lib_unread c old new f (lib.refused bad why same) = ap read_failures why
lib_unread c old new f (lib.no_memory good why same) = ap read_failures why
lib_unread c old new f (lib.unwritten good why begun) = ap read_failures why

jobs_refused : (paths : List Paths) (workers : ℕ) (output : SweepOutput) (progress : Bool) (old new : Traffic) (before after : SinkState) (f : Failure) → JobsFail paths workers output progress old new before after f → IsRefusal (status_of f) → new.written ≡ old.written
jobs_refused paths workers output progress old new before after f (sweep.refused gave same still) r = same
jobs_refused paths workers output progress old new before after f (sweep.not_run jobs last gave stops same shown) r = same
jobs_refused paths workers output progress old new before after f (sweep.unwritten jobs gave why begun shown) r = absurd (is_unwritten f why r)

sweep_refused : (path : List ℕ) (workers : ℕ) (output : SweepOutput) (progress : Bool) (old new : Traffic) (before after : SinkState) (f : Failure) → SweepFails path workers output progress old new before after f → IsRefusal (status_of f) → new.written ≡ old.written
sweep_refused path workers output progress old new before after f (sweep.unlisted gave same still) r = same
sweep_refused path workers output progress old new before after f (sweep.listed text paths gave fails) r = jobs_refused paths workers output progress _ new before after f fails r

not_zero : ¬ IsRefusal 0
not_zero (inl e) = cc
not_zero (inr e) = cc

module _ (p : Parsed) (old new : Traffic) (before after : SinkState) (source_failures source_failures_after failures failures_after end : ℕ) where
  -- what was asked for was done
  well_ended : end ≡ 0 → Obeyed p old new before after → source_failures_after ≡ source_failures → failures_after ≡ failures → HasEnded p old new before after source_failures source_failures_after failures failures_after end
  well_ended zero good read_still still = record {
    status = inl zero;
    nothing = λ r. absurd (not_zero (subst IsRefusal zero r));
    counted = rw zero (omega arith);
    read_still = λ ne. read_still;
    done = λ e. good;
    failed = λ ne. absurd (ne zero);
  }

  -- a command whose failure was reported
  pub failure_ended : (f : Failure) (shown : SinkState) → NotObeyed p old new before shown f → (IsRefusal (status_of f) → new.written ≡ old.written) → source_failures_after ≡ source_failures + read_failures f → failures_after ≡ failures + write_failures f → end ≡ status_of f → IsReported f shown after → HasEnded p old new before after source_failures source_failures_after failures failures_after end
  failure_ended f shown why nothing read_counted counted same report =
      let e = ends f in
      let read_nothing : end ≢ 3 → read_failures f ≡ 0 = λ ne. e.unread (λ three. ne (same ∙ three)) in
      record {
        status = rw same e.status;
        nothing = λ r. nothing (subst IsRefusal same r);
        counted = rw same (counted ∙ ap (λ n. failures + n) e.written);
        read_still = λ ne. let none = read_nothing ne in omega (arith, read_counted, none);
        done = λ zero. absurd (e.bad (sym same ∙ zero));
        failed = λ ne. record { failure = f; shown = shown; same_status = sym same; why = why; report = report; read_counted = read_counted };
      }

  -- a command that is done, or whose failure was reported
  pub command_ended : {T : Type 0} (r : Result T Failure) (Done : Type 0) (Fails : Failure → Type 0) → (Done → after ≡ before → Obeyed p old new before after) → ((f : Failure) → Fails f → NotObeyed p old new before before f)
      → ((f : Failure) → Fails f → IsRefusal (status_of f) → new.written ≡ old.written) → OnOk r Done → IfErr r Fails → OnOk r (source_failures_after ≡ source_failures) → IfErr r (λ f. source_failures_after ≡ source_failures + read_failures f)
      → OnOk r (failures_after ≡ failures) → IfErr r (λ f. failures_after ≡ failures + write_failures f) → HasReported r before after end → HasEnded p old new before after source_failures source_failures_after failures failures_after end
  command_ended (Ok x) Done Fails obeyed failed nothing good bad read_still read_counted still counted reported = well_ended reported.well.0 (obeyed good reported.well.1) read_still still
  command_ended (Err f) Done Fails obeyed failed nothing good bad read_still read_counted still counted reported = failure_ended f before (failed f bad) (nothing f bad) read_counted counted reported.badly.0 reported.badly.1

  -- the same of a command that writes a text of a run
  pub text_ended : {T : Type 0} (r : Result T Failure) (text : Settings → List Instr → List ℕ) (conf prog : List ℕ) → (WroteText text conf prog old new → after ≡ before → Obeyed p old new before after) → ((f : Failure) → TextFails text IsStopped conf prog old new f → NotObeyed p old new before before f)
      → OnOk r (WroteText text conf prog old new) → IfErr r (TextFails text IsStopped conf prog old new) → OnOk r (source_failures_after ≡ source_failures) → IfErr r (λ f. source_failures_after ≡ source_failures + read_failures f)
      → OnOk r (failures_after ≡ failures) → IfErr r (λ f. failures_after ≡ failures + write_failures f) → HasReported r before after end → HasEnded p old new before after source_failures source_failures_after failures failures_after end
  text_ended r text conf prog obeyed failed = command_ended r (WroteText text conf prog old new) (TextFails text IsStopped conf prog old new) obeyed failed (λ f. stopped_refused conf prog old new f text)

  -- a sweep that is done, or whose failure was reported
  pub sweep_ended : (path : List ℕ) (workers : ℕ) (output : SweepOutput) (progress : Bool) → (Swept path output progress old new before after → Obeyed p old new before after) → ((f : Failure) (shown : SinkState) → SweepFails path workers output progress old new before shown f → NotObeyed p old new before shown f)
      → (end ≡ 0 → Swept path output progress old new before after) → (end ≢ 0 → HasFailed path workers output progress old new before after source_failures source_failures_after end)
      → (end ≡ 0 → source_failures_after ≡ source_failures) → (end ≡ 0 → failures_after ≡ failures) → (end ≢ 0 → (f : Failure) × (status_of f ≡ end) × (failures_after ≡ failures + write_failures f)) → HasEnded p old new before after source_failures source_failures_after failures failures_after end
  sweep_ended path workers output progress obeyed failed done fails read_still still counted = ⊎_elim (λ zero. well_ended zero (obeyed (done zero)) (read_still zero) (still zero)) (λ (bad : end ≢ 0). badly (fails bad) (counted bad)) (cases_eq end 0)
    where
      badly : HasFailed path workers output progress old new before after source_failures source_failures_after end → (f : Failure) × (status_of f ≡ end) × (failures_after ≡ failures + write_failures f) → HasEnded p old new before after source_failures source_failures_after failures failures_after end
      badly b (g, other, count) =
          let f = b.failure in
          let both : write_failures g ≡ write_failures f = (ends g).written ∙ (ap status_failures (other ∙ sym b.same_status) ∙ sym (ends f).written) in
          failure_ended f b.shown (failed f b.shown b.why) (sweep_refused path workers output progress old new before b.shown f b.why) b.read_counted (count ∙ ap (λ n. failures + n) both) (sym b.same_status) b.report
