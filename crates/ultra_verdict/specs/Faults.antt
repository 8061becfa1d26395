-- how the writing of a verdict ends; this project's profile
use Rattle.std.specs.Prelude.{◌≡◌, ℕ, List, ◌++◌, Bool}
use Rattle.ultra_msg.specs.Bytes.{TakesPrefix}
use Rattle.ultra_isa.specs.declared.Instr.{Instr}
use Rattle.ultra_model.specs.Machine.{Settings}
use Rattle.ultra_serial_law.specs.declared.records.Entry.{Entry}
use Rattle.ultra_verdict.specs.{declared.{verdict.Verdict.Verdict, fault.VerdictFault.{VerdictFault, TheVariants.{Write, NoMemory}}}, Judged.{IsVerdictFor, is_legal}, VerdictText.verdict_text}

-- how often the sink has failed
abbrev pub failures_of_verdict : VerdictFault → ℕ
failures_of_verdict Write = 1
failures_of_verdict NoMemory = 0

module _ (c : Settings) (program : List Instr) (list : List Entry) where
  -- the line of the verdict was written, and this is whether the list is legal
  pub record IsVerdictWritten (old new : List ℕ) (legal : Bool) : Type 0 where
    pub verdict : Verdict
    pub right : IsVerdictFor c program list verdict
    pub says : legal ≡ is_legal verdict
    pub written : new ≡ old ++ verdict_text verdict

  -- a prefix of the line was written; where memory was refused, nothing was
  pub record IsVerdictCut (old new : List ℕ) : Type 0 where
    pub verdict : Verdict
    pub right : IsVerdictFor c program list verdict
    pub written : TakesPrefix (verdict_text verdict) old new

  abbrev pub VerdictFails : List ℕ → List ℕ → VerdictFault → Type 0
  VerdictFails old new Write = IsVerdictCut old new
  VerdictFails old new NoMemory = new ≡ old
