-- how a command that failed ends: its status, and its line; this project's profile
use Rattle.std.specs.Prelude.{ℕ, List, [], ◌++◌, codes, decimal, string_bytes}
use Rattle.std.specs.declared.io.ErrorKind.{ErrorKind, TheVariants.OutOfMemory}
use Rattle.ultra_asm.specs.declared.AsmFaultKind.{AsmFaultKind}
use Rattle.ultra_asm.specs.declared.AsmFaultKind.TheVariants as kind
use Rattle.ultra_model.specs.Accepted.{name_of}
use Rattle.ultra_inputs.specs.declared.failure.Failure.{Failure}
use Rattle.ultra_inputs.specs.declared.failure.Failure.TheVariants.{Usage, ArgumentsNotUtf8, NotRead, NotToml, BadField, UnknownKey, NotUtf8, BadProgramLine, BadJob, NotAnEntry, BadPe, NotFenced, NotLegal, BadParameter, NoMemory, NoThread, HeapTooSmall, HeapFull, NotWritten}

-- what is wrong in a line of a program
abbrev pub kind_text : AsmFaultKind → List ℕ
kind_text kind.NoMemory = codes "no memory"
kind_text kind.UnknownWord = codes "unknown word"
kind_text kind.BadRegister = codes "bad register"
kind_text kind.BadNumber = codes "bad number"
kind_text kind.UnknownLabel = codes "unknown label"
kind_text kind.DoubleLabel = codes "double label"
kind_text kind.TooLong = codes "too long"
kind_text kind.WrongOperands = codes "wrong operands"

-- the status of the program
abbrev pub status_of : Failure → ℕ
status_of (Usage t) = 2
status_of ArgumentsNotUtf8 = 2
status_of (NotRead p) = 3
status_of (NotToml p) = 3
status_of (BadField p f) = 3
status_of (UnknownKey p) = 3
status_of (NotUtf8 p) = 3
status_of (BadProgramLine p l k) = 3
status_of (BadJob p) = 3
status_of (NotAnEntry p l) = 3
status_of (BadPe p l) = 3
status_of (NotFenced p k) = 1
status_of NotLegal = 1
status_of BadParameter = 3
status_of NoMemory = 4
status_of NoThread = 4
status_of HeapTooSmall = 4
status_of HeapFull = 4
status_of NotWritten = 5

-- how often the source of files failed, and how often standard output failed, in a command that
-- failed so
abbrev pub read_failures : Failure → ℕ
read_failures (NotRead p) = 1
read_failures _ = 0

abbrev pub write_failures : Failure → ℕ
write_failures NotWritten = 1
write_failures _ = 0

-- how the line of a refused file begins
abbrev pub path_text : List ℕ → List ℕ
path_text path = codes "ultra: " ++ path ++ codes ": "

-- the line of a fault in a line of a file
abbrev pub line_fault_text : List ℕ → ℕ → List ℕ → List ℕ
line_fault_text path l what =
    path_text path ++ codes "line " ++ decimal l ++ codes ": " ++ what ++ codes "\n"

-- why the arguments couldn't be had, by the kind of the error
abbrev pub failure_of_arguments : ErrorKind → Failure
failure_of_arguments OutOfMemory = NoMemory
failure_of_arguments _ = ArgumentsNotUtf8

-- what goes to standard error
abbrev pub text_of : Failure → List ℕ
text_of (Usage t) = string_bytes t
text_of ArgumentsNotUtf8 = codes "ultra: arguments: not utf-8\n"
text_of (NotRead p) = codes "ultra: cannot read " ++ p.now ++ codes "\n"
text_of (NotToml p) = path_text p.now ++ codes "not toml" ++ codes "\n"
text_of (BadField p f) = path_text p.now ++ codes "bad " ++ name_of f ++ codes "\n"
text_of (UnknownKey p) = path_text p.now ++ codes "unknown key" ++ codes "\n"
text_of (NotUtf8 p) = path_text p.now ++ codes "not utf-8" ++ codes "\n"
text_of (BadProgramLine p l k) = line_fault_text p.now l (kind_text k)
text_of (BadJob p) = path_text p.now ++ codes "bad job" ++ codes "\n"
text_of (NotAnEntry p l) = line_fault_text p.now l (codes "not an entry")
text_of (BadPe p l) = line_fault_text p.now l (codes "bad pe")
text_of (NotFenced p k) =
    path_text p.now ++ codes "instruction " ++ decimal k ++ codes ": "
    ++ codes "not followed by fence" ++ codes "\n"
text_of NotLegal = []
text_of BadParameter = codes "ultra: bad parameter\n"
text_of NoMemory = codes "ultra: no memory\n"
text_of NoThread = codes "ultra: no thread\n"
text_of HeapTooSmall = codes "ultra: heap full\n"
text_of HeapFull = codes "ultra: heap full\n"
text_of NotWritten = codes "ultra: write failed\n"
