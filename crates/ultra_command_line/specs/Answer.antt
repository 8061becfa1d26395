-- what the answer to the arguments of a command line says
use Rattle.std.specs.Prelude.{◌≡◌, ◌≢◌, ◌⊎◌, ⊤, List, [], ◌∷◌, codes, slice_index, Some, None, Result, MatchResult}
use Rattle.clap.specs.{Words.{Text, fault_of, kind_of, IsAmong}, declared.{Error.Error, error.ErrorKind.ErrorKind}}
use Rattle.clap.specs.declared.error.ErrorKind.TheVariants as kind
use Rattle.ultra_args.specs.{declared.{Invocation.Invocation, LineFilter.TheVariants.All}, Asked.{asked, asked_of, run}, Grammar.ultra_app}
use Rattle.ultra_command_line.specs.declared.Parsed.{Parsed}
use Rattle.ultra_command_line.specs.declared.Parsed.TheVariants as parsed

-- what is wrong with the arguments: `clap` refuses them so, or what it accepted asks for nothing
abbrev pub IsFault : List Text → ErrorKind → Type 0
IsFault words k = IsAmong k (fault_of ultra_app words)
    ⊎ ((k ≡ kind.ValueValidation) × (fault_of ultra_app words ≡ []) × (asked words ≡ None))

-- a text of this kind is the answer: help, the version, or what is wrong with the arguments
abbrev pub IsTextOfKind : ErrorKind → Parsed → Type 0
IsTextOfKind k (parsed.Invocation c) = ⊥
IsTextOfKind k (parsed.Help text) = k ≡ kind.DisplayHelp
IsTextOfKind k (parsed.Version text) = k ≡ kind.DisplayVersion
IsTextOfKind k (parsed.Usage text) = (k ≢ kind.DisplayHelp) × (k ≢ kind.DisplayVersion)
IsTextOfKind k parsed.NoMemory = ⊥

-- the arguments ask for the command
abbrev pub IsAsked : List Text → Invocation → Type 0
IsAsked words c = (fault_of ultra_app words ≡ []) × (asked words ≡ Some (asked_of c))

-- the arguments ask for the command, or memory was refused, or the error says what is wrong
abbrev pub IsAnswer : List Text → Result Invocation Error → Type 0
IsAnswer words r = MatchResult r (IsAsked words)
    (λ e. (kind_of e ≡ kind.OutOfMemory) ⊎ IsFault words (kind_of e))

-- the arguments ask for what was parsed
abbrev pub IsAskedBy : List Text → Parsed → Type 0
IsAskedBy words (parsed.Invocation c) = IsAsked words c
IsAskedBy words (parsed.Help text) = IsFault words kind.DisplayHelp
IsAskedBy words (parsed.Version text) = IsFault words kind.DisplayVersion
IsAskedBy words (parsed.Usage text) =
    (k : ErrorKind) × IsFault words k × (k ≢ kind.DisplayHelp) × (k ≢ kind.DisplayVersion)
IsAskedBy words parsed.NoMemory = ⊤

-- ---- a run of two paths

-- the text doesn't begin with a hyphen (45)
abbrev pub IsPath : Text → Type 0
IsPath t = slice_index t 0 ≢ 45

-- the arguments are `run` and two paths, after the program's name
abbrev pub AreRunOf : List Text → Text → Text → Type 0
AreRunOf words conf prog =
    (name : Text) × (words ≡ name ∷ codes "run" ∷ conf ∷ prog ∷ []) × IsPath conf × IsPath prog

-- the run of these two paths by one worker, unless memory was refused
abbrev pub IsRunOf : Text → Text → Parsed → Type 0
IsRunOf conf prog (parsed.Invocation c) = asked_of c ≡ run conf prog 1 0 1000000 All
IsRunOf conf prog (parsed.Help text) = ⊥
IsRunOf conf prog (parsed.Version text) = ⊥
IsRunOf conf prog (parsed.Usage text) = ⊥
IsRunOf conf prog parsed.NoMemory = ⊤

-- ---- help and the version

-- the only argument is this one, after the program's name
abbrev pub AreOnly : List Text → Text → Type 0
AreOnly words word = (name : Text) × (words ≡ name ∷ word ∷ [])

-- help, unless memory was refused
abbrev pub IsHelp : Parsed → Type 0
IsHelp (parsed.Help text) = ⊤
IsHelp parsed.NoMemory = ⊤
IsHelp _ = ⊥

-- the version, unless memory was refused
abbrev pub IsVersion : Parsed → Type 0
IsVersion (parsed.Version text) = ⊤
IsVersion parsed.NoMemory = ⊤
IsVersion _ = ⊥
