-- a queue whose first item lies apart from those behind it
use Rattle.std.specs.Prelude.{◌≡◌, ℕ, ◌+◌, Bool, true, false, List, [], ◌∷◌, length, Option, Some, None}

module _ {X : Type 0} where
  -- all items, the front first
  abbrev pub with_front : Option X → List X → List X
  with_front None rest = []
  with_front (Some x) rest = x ∷ rest

  -- nothing is behind an empty front, and the places without an item are free
  pub record IsInPlace (front : Option X) (rest : List X) (places free : ℕ) : Type 0 where
    pub alone : front ≡ None → rest ≡ []
    pub filled : length (with_front front rest) + free ≡ places
