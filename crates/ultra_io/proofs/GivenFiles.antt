-- files whose bytes are those that an open file gave
use Rattle.std.proofs.Common.{◌≡◌, ℕ, List, [], ◌∷◌, ◌++◌, subst, sym}
use Rattle.std.specs.Prelude.{Option}
use Rattle.std.proofs.lemmas.List.Elements.{All-append, All-cons, All-nil}
use Rattle.ultra_io.specs.Source.{File, file_of, AreAllBytes, AreGivenByFiles}

pub one_more_given : {F : Type 0} (remaining : F → Option (List ℕ)) (before after : List File) → AreGivenByFiles remaining before → (path bytes : List ℕ) → after ≡ before ++ file_of path bytes ∷ [] → (opened : F) × AreAllBytes (remaining opened) bytes → AreGivenByFiles remaining after
one_more_given {F} remaining before after given path bytes more one =
    let Given : File → Type 0 = λ f. (opened : F) × AreAllBytes (remaining opened) f.bytes in
    let all = All-append Given before (file_of path bytes ∷ []) given.each (All-cons Given (file_of path bytes) [] one (All-nil Given)) in
    subst (λ fs. AreGivenByFiles remaining fs) (sym more) record { each = all }
