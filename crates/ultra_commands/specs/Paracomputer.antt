-- what is written of the paracomputer, and how it isn't written; this project's profile
use Rattle.std.specs.Prelude.{◌≡◌, ℕ, ◌<◌, All, Bool, List, ◌++◌, Option, ⊤}
use Rattle.ultra_msg.specs.Bytes.{TakesPrefix}
use Rattle.ultra_isa.specs.declared.Instr.{Instr}
use Rattle.ultra_model.specs.Machine.{Settings, size}
use Rattle.ultra_para_run.specs.declared.reading.ScheduleFault.TheVariants as fault
use Rattle.ultra_para_run.specs.{ParaText.para_text, ScheduleFaults.ExplainsScheduleFault, ScheduleText.IsScheduleText, SeededSchedule.{most_steps, seeded_schedule}}
use Rattle.ultra_args.specs.declared.ScheduleSource.{ScheduleSource, TheVariants.{File, Seed}}
use Rattle.ultra_inputs.specs.{declared.failure.Failure.{Failure, TheVariants.{BadPe, NoMemory}}, Traffic.{Traffic, IsStopped, WroteText, TextFails}}
use Rattle.ultra_commands.specs.{declared.para.ScheduledSteps.ScheduledSteps, ThirdFile.{GaveThree, GaveNoThree}}

-- the text of a file writes this schedule, of numbers of processing elements
pub record IsScheduleOf (c : Settings) (text : List ℕ) (s : ScheduledSteps) : Type 0 where
  pub words : IsScheduleText (size c) text s.pes.items
  pub below : All (λ p. p < size c) s.pes.items

-- why it writes none
abbrev pub ExplainsSchedule : Settings → List ℕ → List ℕ → Failure → Type 0
ExplainsSchedule c path text (BadPe p line) =
    (p.now ≡ path) × ExplainsScheduleFault (size c) text (fault.BadPe line)
ExplainsSchedule c path text NoMemory = ⊤
ExplainsSchedule c path text _ = ⊥

-- the text of a run by the schedule that is drawn from a number
abbrev pub seeded_text : ℕ → Option ℕ → Bool → Settings → List Instr → List ℕ
seeded_text seed steps only_end c p =
    para_text c p only_end (seeded_schedule c p seed (most_steps c steps))

-- ---- by the schedule of a file
module _ (only_end : Bool) (conf prog path : List ℕ) (old new : Traffic) where
  -- three files were read, and they give these settings, this program and this schedule
  abbrev pub GaveSchedule : Settings → List Instr → ScheduledSteps → Type 0
  GaveSchedule c p s = GaveThree IsScheduleOf conf prog path old.files new.files c p s

  -- what the paracomputer's steps by this schedule do was written
  pub record WroteScheduled : Type 0 where
    pub settings : Settings
    pub program : List Instr
    pub steps : ScheduledSteps
    pub gave : GaveSchedule settings program steps
    pub written : new.written
        ≡ old.written ++ para_text settings program only_end steps.pes.items

  -- how it isn't: all files are accepted before a byte is written
  pub data ScheduledFails (f : Failure) : Type 0 where
    refused : GaveNoThree ExplainsSchedule conf prog path old.files new.files f
        → new.written ≡ old.written → ScheduledFails f
    stopped : (c : Settings) (p : List Instr) (s : ScheduledSteps) → GaveSchedule c p s
        → IsStopped f
        → TakesPrefix (para_text c p only_end s.pes.items) old.written new.written
        → ScheduledFails f

-- ---- by either kind of schedule
abbrev pub WrotePara : ScheduleSource → Bool → List ℕ → List ℕ → Traffic → Traffic → Type 0
WrotePara (File path) only_end conf prog old new =
    WroteScheduled only_end conf prog path.now old new
WrotePara (Seed seed steps) only_end conf prog old new =
    WroteText (seeded_text seed steps only_end) conf prog old new

abbrev pub ParaFails : ScheduleSource → Bool → List ℕ → List ℕ → Traffic → Traffic → Failure
    → Type 0
ParaFails (File path) only_end conf prog old new f =
    ScheduledFails only_end conf prog path.now old new f
ParaFails (Seed seed steps) only_end conf prog old new f =
    TextFails (seeded_text seed steps only_end) IsStopped conf prog old new f
