-- numbers and their sum
use Rattle.std.specs.Prelude.{◌≡◌, ℕ, ◌<◌, ◌≤◌, ◌^◌, List, slice_index}
use Rattle.ultra_model.specs.Balance.{total}

-- this is the sum of the first 64 of these numbers, each of which is small
pub record IsAdded (values : List ℕ) (n : ℕ) : Type 0 where
  pub sum : n ≡ total 64 (λ k. slice_index values k)
  pub small : (k : ℕ) → k < 64 → slice_index values k ≤ 2 ^ 20
