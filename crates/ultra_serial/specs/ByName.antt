-- the items of a list by the name of a request: most in rows by index, the others by pair
use Rattle.std.specs.Prelude.{ℕ, zero, suc, List, [], ◌∷◌, true, false, Option, Some, None, option_to_list, slice_get, slice_index}
use Rattle.std.specs.Global.{Vec}
use Rattle.ultra_serial.specs.{declared.by_name.ListsByName.ListsByName, ByPair.{is_pair, list_of}}

-- the item of a place, which is one more than an index, or 0
abbrev pub one_at : {X : Type 0} → List X → ℕ → List X
one_at xs zero = []
one_at xs (suc k) = option_to_list (slice_get xs k)

-- the place of a number in a row, and of a name in all rows: 0 where there is none
abbrev pub place_in : Option (Vec ℕ) → ℕ → ℕ
place_in None n = 0
place_in (Some row) n = slice_index row.items n

abbrev pub place_of : List (Vec ℕ) → ℕ → ℕ → ℕ
place_of rows p n = place_in (slice_get rows p) n

abbrev pub places_with : (ℕ → ℕ → ℕ) → ℕ → ℕ → ℕ → ℕ → ℕ → ℕ
places_with f p q k a b = elim (is_pair p q a b) [ true ↦ k | false ↦ f a b ]

-- a list, or the other one where it is empty
abbrev pub list_or : {X : Type 0} → List X → List X → List X
list_or [] other = other
list_or (x ∷ xs) other = x ∷ xs

-- the items of processing element p and number n
abbrev pub list_named : {X : Type 0} → ListsByName X → List X → ℕ → ℕ → List X
list_named t whole p n =
    list_or (list_of t.others.lists p n) (one_at whole (place_of t.rows.items p n))
