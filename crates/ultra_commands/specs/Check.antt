-- the verdict on a list, and how it isn't written; this project's profile
use Rattle.std.specs.Prelude.{◌≡◌, ℕ, List, true, false, ⊤}
use Rattle.ultra_isa.specs.declared.Instr.{Instr}
use Rattle.ultra_model.specs.Machine.{Settings}
use Rattle.ultra_list.specs.declared.ListFault.TheVariants as fault
use Rattle.ultra_list.specs.{Faults.ExplainsListFault, SerialText.IsListText}
use Rattle.ultra_verdict.specs.{declared.VerdictFault.VerdictFault, Faults.{IsVerdictWritten, VerdictFails}}
use Rattle.ultra_verdict.specs.declared.VerdictFault.TheVariants as verdict
use Rattle.ultra_inputs.specs.{declared.failure.Failure.{Failure, TheVariants.{NotAnEntry, NotLegal, NoMemory, NotWritten}}, Traffic.Traffic}
use Rattle.ultra_commands.specs.{declared.checking.ListedEntries.ListedEntries, ThirdFile.{GaveThree, GaveNoThree}}

-- the text of a file is the text of this list
abbrev pub IsListOf : List ℕ → ListedEntries → Type 0
IsListOf text l = IsListText text l.list.items

-- why it is no list's
abbrev pub ExplainsList : List ℕ → List ℕ → Failure → Type 0
ExplainsList path text (NotAnEntry p line) =
    (p.now ≡ path) × ExplainsListFault text (fault.NotAnEntry line)
ExplainsList path text NoMemory = ⊤
ExplainsList path text _ = ⊥

-- what a fault of the verdict is for the command
abbrev pub failure_of_verdict : VerdictFault → Failure
failure_of_verdict verdict.Write = NotWritten
failure_of_verdict verdict.NoMemory = NoMemory

module _ (conf prog list : List ℕ) (old new : Traffic) where
  -- three files were read, and they give these settings, this program and this list
  abbrev pub GaveList : Settings → List Instr → ListedEntries → Type 0
  GaveList c p l = GaveThree (λ c. IsListOf) conf prog list old.files new.files c p l

  -- the list is a serial order of the run, and the line that says so was written
  pub record WroteLegal : Type 0 where
    pub settings : Settings
    pub program : List Instr
    pub entries : ListedEntries
    pub gave : GaveList settings program entries
    pub written : IsVerdictWritten settings program entries.list.items old.written new.written true

  -- how a check ends otherwise. A file is refused, and nothing is written. Or the list is no serial
  -- order of the run, and the line of its first breach is written. Or the line isn't written whole
  pub data CheckFails (f : Failure) : Type 0 where
    refused : GaveNoThree (λ c. ExplainsList) conf prog list old.files new.files f
        → new.written ≡ old.written → CheckFails f
    not_legal : (c : Settings) (p : List Instr) (l : ListedEntries) → GaveList c p l
        → f ≡ NotLegal → IsVerdictWritten c p l.list.items old.written new.written false
        → CheckFails f
    stopped : (c : Settings) (p : List Instr) (l : ListedEntries) → GaveList c p l
        → (v : VerdictFault) → f ≡ failure_of_verdict v
        → VerdictFails c p l.list.items old.written new.written v → CheckFails f
