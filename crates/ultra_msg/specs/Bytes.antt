-- bytes that go to a sink; this project's profile
use Rattle.std.specs.Prelude.{◌≡◌, ◌≤◌, ◌<◌, ◌+◌, ℕ, List, [], ◌∷◌, ◌++◌, take, length, Result, OnOk, OnErr}
use Rattle.std.specs.{Borrow.Bor, List.flat_map}

-- a line's end
abbrev pub newline : List ℕ
newline = 10 ∷ []

-- the first list is a prefix of the second
abbrev pub IsPrefix : {X : Type 0} → List X → List X → Type 0
IsPrefix {X} xs ys = (rest : List X) × (xs ++ rest ≡ ys)

-- a sink took a prefix of the bytes: it has what it had, and then that prefix
pub record TakesPrefix (bytes old new : List ℕ) : Type 0 where
  pub part : List ℕ
  pub begins : IsPrefix part bytes
  pub taken : new ≡ old ++ part

-- a sink took the first n of the bytes, and at least one if there is one
pub record TakesPart (n : ℕ) (bytes old new : List ℕ) : Type 0 where
  pub taken : new ≡ old ++ take n bytes
  pub within : n ≤ length bytes
  pub some : 0 < length bytes → 0 < n

-- bytes were written behind those that waited: the sink took the first of them all, and the others
-- wait
pub record AreTakenOrWait (bytes old waited new waits : List ℕ) : Type 0 where
  pub passed_on : List ℕ
  pub taken : new ≡ old ++ passed_on
  pub rest : passed_on ++ waits ≡ waited ++ bytes

-- pieces of bytes, joined in order
abbrev pub joined_pieces : List (Bor (List ℕ)) → List ℕ
joined_pieces pieces = flat_map (λ piece. piece.now) pieces

-- the bytes were written, or the sink has failed once and has taken a prefix of them
pub record WritesOrFails {T E : Type 0} (result : Result T E) (bytes old new : List ℕ)
    (before after : ℕ) : Type 0 where
  pub ok : OnOk result (new ≡ old ++ bytes)
  pub still : OnOk result (after ≡ before)
  pub err : OnErr result (TakesPrefix bytes old new)
  pub counted : OnErr result (after ≡ before + 1)
