-- how a text ends that the cycles of workers wrote
use Rattle.std.proofs.Common.{◌≡◌, ℕ, ◌++◌, List, [], true, false}
use Rattle.std.specs.Prelude.{Result, Ok, Err, OnOk, OnErr, IfErr}
use Rattle.ultra_msg.specs.Bytes.{TakesPrefix}
use Rattle.ultra_crew.specs.declared.fault.CrewFault.{CrewFault}
use Rattle.ultra_io.specs.{declared.text_buffer.TextBuffer.TextBuffer, TextBuffer.{IsBlank, Writes, WritesPrefix}}
use Rattle.ultra_io.proofs.Writing.{finished, part_taken}
use Rattle.ultra_trace_alone.specs.declared.fault.RunFault.{RunFault}
use Rattle.ultra_trace.specs.Faults.{fault_of_crew}

-- a sink took the whole text, or a prefix of it
pub record HasGone {T : Type 0} (r : Result T RunFault) (text old new : List ℕ) : Type 0 where
  pub ok : OnOk r (new ≡ old ++ text)
  pub err : OnErr r (TakesPrefix text old new)

module _ {T S : Type 0} (taken : S → List ℕ) (failures : S → ℕ) (text : List ℕ) (s t u : TextBuffer S) (blank : IsBlank s) where
  -- the workers made all cycles, and the buffer was finished
  made_all : (r : Result T RunFault) → Writes taken failures text s t → Writes taken failures [] t u → OnOk r (IsBlank u) → OnErr r (u.failed ≡ true) → HasGone r text (taken s.sink.now) (taken u.sink.now)
  made_all r written flushed ok err =
      let gone = finished {T = T} {E = RunFault} r blank written flushed ok err in
      record { ok = gone.ok; err = gone.err }

  -- the workers failed, and the buffer was left as it was
  cut_off : (r : Result T RunFault) (e : CrewFault) → r ≡ Err (fault_of_crew e) → WritesPrefix taken failures text s t → t.failed ≡ false → u ≡ t → HasGone r text (taken s.sink.now) (taken u.sink.now)
  cut_off r e refused (part, begins, writes) sound left =
      rw (refused, left) record { ok = tt; err = part_taken part text _ _ blank.empty sound begins writes.wrote }

  pub ended : {M : Type 0} (made : Result M CrewFault) (r : Result T RunFault) → OnOk made (Writes taken failures text s t) → OnErr made (WritesPrefix taken failures text s t) → OnErr made (t.failed ≡ false) → IfErr made (λ e. r ≡ Err (fault_of_crew e)) → OnErr made (u ≡ t) → OnOk made (Writes taken failures [] t u) → OnOk made (OnOk r (IsBlank u)) → OnOk made (OnErr r (u.failed ≡ true)) → HasGone r text (taken s.sink.now) (taken u.sink.now)
  ended (Ok x) r written begun sound refused left flushed ok err = made_all r written flushed ok err
  ended (Err e) r written begun sound refused left flushed ok err = cut_off r e refused begun sound left
