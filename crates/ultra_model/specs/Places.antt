-- lists with a value for each number below a bound
use Rattle.std.specs.Prelude.{ℕ, List, [], ◌∷◌, map, slice_index_or, Option, Some, None, ◌++◌, drop}
use Rattle.std.specs.List.{range_with_len}

-- f 0, f 1, .. f (n - 1)
unfoldable pub places : {X : Type 0} → ℕ → (ℕ → X) → List X
places n f = map f (range_with_len 0 n)

-- f 0 0, f 0 1, .. in the first row, f 1 0, f 1 1, .. in the next
abbrev pub table : {X : Type 0} → ℕ → ℕ → (ℕ → ℕ → X) → List (List X)
table m n f = places m (λ s. places n (λ x. f s x))

-- the value in row s at index x, and the default where there is none
abbrev pub in_table : {X : Type 0} → X → List (List X) → ℕ → ℕ → X
in_table d xs s x = slice_index_or (slice_index_or xs s []) x d

-- without the first where something leaves, and else all
abbrev pub after_leaving : {X : Type 0} {Y : Type 0} → Option Y → List X → List X
after_leaving None xs = xs
after_leaving (Some y) xs = drop 1 xs

-- the values that are there, in order
abbrev pub present : {X : Type 0} → List (Option X) → List X
present [] = []
present (None ∷ xs) = present xs
present (Some x ∷ xs) = x ∷ present xs

-- several lists, joined in order
abbrev pub joined : {X : Type 0} → List (List X) → List X
joined [] = []
joined (xs ∷ rest) = xs ++ joined rest
