-- a place for one item
use Rattle.std.specs.Prelude.{Bool, true, false, Option, Some, None}

-- an item, if its place is full
abbrev pub item_if : {X : Type 0} → Bool → X → Option X
item_if is_full x = elim is_full [ true ↦ Some x | false ↦ None ]
