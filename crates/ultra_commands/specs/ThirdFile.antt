-- a third file beside settings and a program; this project's profile
use Rattle.std.specs.Prelude.{ℕ, List}
use Rattle.ultra_isa.specs.declared.Instr.{Instr}
use Rattle.ultra_model.specs.Machine.{Settings}
use Rattle.ultra_io.specs.Source.{File}
use Rattle.ultra_inputs.specs.{declared.failure.Failure.Failure, Inputs.{FileGave, FileGaveNothing, Gave, GaveNothing}}

-- three files were read: two give these settings and this program, and the third a value for them
pub record GaveThree {X : Type 0} (Gives : Settings → List ℕ → X → Type 0)
    (conf prog third : List ℕ) (old new : List File) (c : Settings) (p : List Instr)
    (x : X) : Type 0 where
  pub between : List File
  pub two : Gave conf prog old between c p
  pub last : FileGave (Gives c) third between new x

-- why three files don't: each is accepted or refused before the next is read
pub data GaveNoThree (Explains : Settings → List ℕ → List ℕ → Failure → Type 0)
    (conf prog third : List ℕ) (old new : List File) (f : Failure) : Type 0 where
  not_two : GaveNothing conf prog old new f → GaveNoThree Explains conf prog third old new f
  not_third : (between : List File) (c : Settings) (p : List Instr)
      → Gave conf prog old between c p → FileGaveNothing (Explains c) third between new f
      → GaveNoThree Explains conf prog third old new f
