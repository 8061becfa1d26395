-- the canonical text of a program, and how one isn't written; this project's profile
use Rattle.std.specs.Prelude.{◌≡◌, ℕ, Bool, true, List, [], ◌∷◌, ◌++◌}
use Rattle.std.specs.Borrow.{Bor}
use Rattle.ultra_msg.specs.Bytes.{TakesPrefix}
use Rattle.ultra_isa.specs.declared.Instr.{Instr}
use Rattle.ultra_asm.specs.Listing.{listing_text}
use Rattle.ultra_para.specs.Careful.{is_careful, IsFirstUnfenced}
use Rattle.ultra_io.specs.Source.{file_of}
use Rattle.ultra_inputs.specs.{declared.failure.Failure.{Failure, TheVariants.{NotFenced, NotWritten}}, Inputs.{IsProgramOf, IsUnread, ExplainsProgram}, Traffic.{Traffic, with_files}}

-- a file was read, and the canonical text of its program was written. The program is careful, if
-- that was asked
pub record WroteListing (prog : List ℕ) (careful : Bool) (old new : Traffic) : Type 0 where
  pub bytes : List ℕ
  pub program : List Instr
  pub assembled : IsProgramOf bytes program
  pub files : new.files ≡ old.files ++ file_of prog bytes ∷ []
  pub written : new.written ≡ old.written ++ listing_text program
  pub judged : careful ≡ true → is_careful program ≡ true

-- how a listing fails: its file is accepted before a byte is written, and the program is judged
-- once the whole text is written
pub data ListFails (prog : List ℕ) (careful : Bool) (old new : Traffic) (f : Failure) : Type 0 where
  unread_text : IsUnread prog f → new ≡ old → ListFails prog careful old new f
  refused_text : (text : List ℕ) → ExplainsProgram prog text f
      → new ≡ with_files old (file_of prog text ∷ []) → ListFails prog careful old new f
  unwritten : (text : List ℕ) (p : List Instr) → IsProgramOf text p → f ≡ NotWritten
      → new.files ≡ old.files ++ file_of prog text ∷ []
      → TakesPrefix (listing_text p) old.written new.written → ListFails prog careful old new f
  not_careful : (text : List ℕ) (p : List Instr) → IsProgramOf text p → careful ≡ true
      → (path : Bor (List ℕ)) (k : ℕ) → f ≡ NotFenced path k → path.now ≡ prog
      → IsFirstUnfenced p k → new.files ≡ old.files ++ file_of prog text ∷ []
      → new.written ≡ old.written ++ listing_text p → ListFails prog careful old new f
