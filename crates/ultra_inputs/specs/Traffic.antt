-- what a command does with files and standard output; this project's profile
use Rattle.std.specs.Prelude.{◌≡◌, ℕ, List, ◌++◌, ◌⊎◌}
use Rattle.ultra_msg.specs.Bytes.{TakesPrefix}
use Rattle.ultra_isa.specs.declared.Instr.{Instr}
use Rattle.ultra_model.specs.Machine.{Settings}
use Rattle.ultra_io.specs.Source.{File}
use Rattle.ultra_inputs.specs.{Inputs.{Gave, GaveNothing}, declared.failure.Failure.{Failure, TheVariants.{NoMemory, NotWritten}}}

-- what went in and out so far: the files that were read, and the bytes that standard output took
pub record Traffic : Type 0 where
  pub files : List File
  pub written : List ℕ

abbrev pub traffic : List File → List ℕ → Traffic
traffic files written = record { files = files; written = written }

abbrev pub with_files : Traffic → List File → Traffic
with_files t files = record t { files = t.files ++ files }

-- why a text ended early
abbrev pub IsStopped : Failure → Type 0
IsStopped f = (f ≡ NoMemory) ⊎ (f ≡ NotWritten)

module _ (text : Settings → List Instr → List ℕ) where
  -- two files were read, and the text of their settings and program was written
  pub record WroteText (conf prog : List ℕ) (old new : Traffic) : Type 0 where
    pub settings : Settings
    pub program : List Instr
    pub gave : Gave conf prog old.files new.files settings program
    pub written : new.written ≡ old.written ++ text settings program

  -- how that fails: both files are accepted before a byte is written, and `Stops` says which
  -- failures stop the text
  pub data TextFails (Stops : Failure → Type 0) (conf prog : List ℕ) (old new : Traffic)
      (f : Failure) : Type 0 where
    refused : GaveNothing conf prog old.files new.files f → new.written ≡ old.written
        → TextFails Stops conf prog old new f
    stopped : (c : Settings) (p : List Instr) → Gave conf prog old.files new.files c p → Stops f
        → TakesPrefix (text c p) old.written new.written → TextFails Stops conf prog old new f
