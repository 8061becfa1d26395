-- what files give: settings and a program, each accepted or refused; this project's profile
use Rattle.std.specs.Prelude.{◌≡◌, ℕ, List, [], ◌∷◌, ◌++◌, None, false, IsUtf8, ⊤}
use Rattle.ultra_isa.specs.declared.Instr.{Instr}
use Rattle.ultra_model.specs.{Machine.Settings, declared.config.RawSettings.RawSettings, Accepted.{first_bad, settings_of}}
use Rattle.ultra_settings.specs.declared.settings.SettingsFault.TheVariants as settings
use Rattle.ultra_settings.specs.SettingsText as settings_text
use Rattle.ultra_settings.specs.SettingsText.{Gives}
use Rattle.ultra_asm.specs.{Words.text_words, ProgramText.{IsProgramText, IsFirstFault}}
use Rattle.ultra_inputs.specs.declared.failure.Failure.{Failure}
use Rattle.ultra_inputs.specs.declared.failure.Failure.TheVariants.{NotRead, NotToml, BadField, UnknownKey, NotUtf8, BadProgramLine, NoMemory}
use Rattle.ultra_io.specs.Source.{File, file_of}

-- the text of a file gives these settings, and they are accepted
abbrev pub IsAccepted : List ℕ → Settings → Type 0
IsAccepted text c =
    (r : RawSettings) × Gives text r false × (first_bad r ≡ None) × (c ≡ settings_of r)

-- the text of a file is written for this program
abbrev pub IsProgramOf : List ℕ → List Instr → Type 0
IsProgramOf text p = IsUtf8 text × IsProgramText text p

-- why a file isn't had
abbrev pub IsUnread : List ℕ → Failure → Type 0
IsUnread path (NotRead p) = p.now ≡ path
IsUnread path NoMemory = ⊤
IsUnread path _ = ⊥

-- why the text of a file gives no settings that are accepted
abbrev pub ExplainsSettings : List ℕ → List ℕ → Failure → Type 0
ExplainsSettings path text (NotToml p) =
    (p.now ≡ path) × settings_text.ExplainsSettingsFault text settings.NotToml
ExplainsSettings path text (BadField p f) =
    (p.now ≡ path) × settings_text.ExplainsSettingsFault text (settings.BadField f)
ExplainsSettings path text (UnknownKey p) =
    (p.now ≡ path) × settings_text.ExplainsSettingsFault text settings.UnknownKey
ExplainsSettings path text NoMemory = ⊤
ExplainsSettings path text _ = ⊥

-- why the text of a file is no program
abbrev pub ExplainsProgram : List ℕ → List ℕ → Failure → Type 0
ExplainsProgram path text (NotUtf8 p) = (p.now ≡ path) × ¬ IsUtf8 text
ExplainsProgram path text (BadProgramLine p l k) =
    (p.now ≡ path) × IsFirstFault (text_words text) (record { line = l; kind = k })
ExplainsProgram path text NoMemory = ⊤
ExplainsProgram path text _ = ⊥

-- a file was read, and its text gives this value
pub record FileGave {A : Type 0} (Gives : List ℕ → A → Type 0) (path : List ℕ)
    (old new : List File) (value : A) : Type 0 where
  pub text : List ℕ
  pub given : Gives text value
  pub files : new ≡ old ++ file_of path text ∷ []

-- why a file gives no value: it isn't had, or its text is refused
pub data FileGaveNothing (Explains : List ℕ → List ℕ → Failure → Type 0) (path : List ℕ)
    (old new : List File) (f : Failure) : Type 0 where
  not_had : IsUnread path f → new ≡ old → FileGaveNothing Explains path old new f
  not_accepted : (text : List ℕ) → Explains path text f → new ≡ old ++ file_of path text ∷ []
      → FileGaveNothing Explains path old new f

-- two files were read, and they give these settings and this program
pub record Gave (conf prog : List ℕ) (old new : List File) (c : Settings)
    (p : List Instr) : Type 0 where
  pub settings_bytes : List ℕ
  pub program_bytes : List ℕ
  pub accepted : IsAccepted settings_bytes c
  pub assembled : IsProgramOf program_bytes p
  pub files : new ≡ old ++ file_of conf settings_bytes ∷ file_of prog program_bytes ∷ []

-- why two files give no settings and program: the first is accepted or refused before the second is
-- read
pub data GaveNothing (conf prog : List ℕ) (old new : List File) (f : Failure) : Type 0 where
  unread_settings : IsUnread conf f → new ≡ old → GaveNothing conf prog old new f
  refused_settings : (text : List ℕ) → ExplainsSettings conf text f
      → new ≡ old ++ file_of conf text ∷ [] → GaveNothing conf prog old new f
  unread_program : (text : List ℕ) (c : Settings) → IsAccepted text c → IsUnread prog f
      → new ≡ old ++ file_of conf text ∷ [] → GaveNothing conf prog old new f
  refused_program : (text program_text : List ℕ) (c : Settings) → IsAccepted text c
      → ExplainsProgram prog program_text f
      → new ≡ old ++ file_of conf text ∷ file_of prog program_text ∷ []
      → GaveNothing conf prog old new f
