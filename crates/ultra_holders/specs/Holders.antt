-- the units of one kind that are in a set
use Rattle.std.specs.Prelude.{ℕ, ◌+◌, ◌-◌, List, ◌++◌, filter}
use Rattle.std.specs.List.{range_with_len}
use Rattle.ultra_topology.specs.Set.{has_bit, has_unit}
use Rattle.ultra_holders.specs.declared.holders.Holders.{Holders}

-- those of n numbers from a on within a kind whose units are in a set; base is the number of the
-- kind's first unit among all units
abbrev pub numbers_from : List ℕ → ℕ → ℕ → ℕ → List ℕ
numbers_from units base a n = filter (λ k. has_unit units (base + k)) (range_with_len a n)

-- of the n units of a kind, those in a set, by their numbers within the kind
abbrev pub numbers_in : List ℕ → ℕ → ℕ → List ℕ
numbers_in units base n = numbers_from units base 0 n

-- the numbers whose bits are set in a word; bit 0 is that of number a
abbrev pub numbers_of_bits : ℕ → ℕ → List ℕ
numbers_of_bits bits a = filter (λ k. has_bit bits (k - a)) (range_with_len a 64)

-- those that are left
abbrev pub holders_left : Holders → List ℕ
holders_left h =
    numbers_of_bits h.bits h.from ++ numbers_from h.units.now h.base h.next (h.end - h.next)
