-- the latest number of each processing element for each cell: by row, or in a map
use Rattle.std.specs.Prelude.{ℕ, true, false, Option, Some, None, slice_get}
use Rattle.std.specs.{Option.unwrap_or, Ordering.{nat_cmp, ordering_then}, BTreeMap.{BTreeMap, get}}
use Rattle.ultra_serial_law.specs.Legal.{Cells}
use Rattle.ultra_serial.specs.{declared.{dense_memory.DenseMemory.DenseMemory, latest_numbers.LatestNumbers.LatestNumbers}, ByPair.is_pair, DenseCells.dense_cells}

-- the numbers of a row by cell, or others where there is no row
abbrev pub numbers_of : Option DenseMemory → Cells → Cells
numbers_of None others = others
numbers_of (Some row) others = dense_cells row

abbrev pub number_under : BTreeMap (ℕ × ℕ) ℕ → ℕ → ℕ → ℕ
number_under m p a =
    unwrap_or (get (λ (x y : ℕ × ℕ). ordering_then (nat_cmp x.0 y.0) (nat_cmp x.1 y.1)) m (p, a)) 0

abbrev pub number_in : LatestNumbers → ℕ → ℕ → ℕ
number_in ns p a = numbers_of (slice_get ns.rows.items p) (number_under ns.others p) a

-- another number under a pair
abbrev pub numbers_with : (ℕ → ℕ → ℕ) → ℕ → ℕ → ℕ → ℕ → ℕ → ℕ
numbers_with f p q n a b = elim (is_pair p q a b) [ true ↦ n | false ↦ f a b ]
