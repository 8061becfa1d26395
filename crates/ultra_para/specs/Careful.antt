-- careful programs: this project's profile
use Rattle.std.specs.Prelude.{◌≡◌, ℕ, ◌+◌, ◌<◌, List, [], ◌∷◌, Bool, true, false, ◌&&◌, ◌||◌, not, Option, Some, None, slice_get}
use Rattle.ultra_isa.specs.declared.Instr.{Instr, TheVariants.{Load, Store, Faa, Swap, Fence}}

-- whether an instruction refers to a cell
abbrev pub refers_to_cell : Instr → Bool
refers_to_cell (Load d a) = true
refers_to_cell (Store a b) = true
refers_to_cell (Faa d a b) = true
refers_to_cell (Swap d a b) = true
refers_to_cell i = false

abbrev pub is_fence : Instr → Bool
is_fence Fence = true
is_fence i = false

abbrev pub begins_with_fence : List Instr → Bool
begins_with_fence [] = false
begins_with_fence (i ∷ is) = is_fence i

-- whether each instruction that refers to a cell is directly followed by a fence
abbrev pub is_careful : List Instr → Bool
is_careful [] = true
is_careful (i ∷ is) = (not (refers_to_cell i) || begins_with_fence is) && is_careful is

-- the same at one program counter
abbrev pub is_some_fence : Option Instr → Bool
is_some_fence None = false
is_some_fence (Some i) = is_fence i

abbrev pub is_fenced : Option Instr → Option Instr → Bool
is_fenced None next = true
is_fenced (Some i) next = not (refers_to_cell i) || is_some_fence next

abbrev pub is_fenced_pc : List Instr → ℕ → Bool
is_fenced_pc is k = is_fenced (slice_get is k) (slice_get is (k + 1))

-- the instruction at program counter k is the first that refers to a cell and isn't directly
-- followed by a fence
pub record IsFirstUnfenced (is : List Instr) (k : ℕ) : Type 0 where
  pub unfenced : is_fenced_pc is k ≡ false
  pub first : (j : ℕ) → j < k → is_fenced_pc is j ≡ true
