-- what a source of files has read, and how it fails; this project's profile
use Rattle.std.specs.Prelude.{◌≡◌, ℕ, List, Option, IfSome, All}
use Rattle.ultra_io.specs.declared.source.SourceFault.{SourceFault, TheVariants.{NotRead, NoMemory}}

-- a file that was read: its path and its bytes
pub record File : Type 0 where
  pub path : List ℕ
  pub bytes : List ℕ

abbrev pub file_of : List ℕ → List ℕ → File
file_of path bytes = record { path = path; bytes = bytes }

-- how often the source itself failed in a call that ended with the fault: where memory was refused,
-- it hasn't failed
abbrev pub failures_of : SourceFault → ℕ
failures_of NotRead = 1
failures_of NoMemory = 0

-- these are all bytes that a reader gives, where std says which it gives
abbrev pub AreAllBytes : Option (List ℕ) → List ℕ → Type 0
AreAllBytes known bytes = IfSome known (λ given. bytes ≡ given)

-- each of the files has all bytes that some open file gave
pub record AreGivenByFiles {F : Type 0} (remaining : F → Option (List ℕ))
    (files : List File) : Type 0 where
  pub each : All (λ (f : File). (opened : F) × AreAllBytes (remaining opened) f.bytes) files
