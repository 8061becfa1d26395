-- which registers are awaited, as bits of one word: bit r says it of register r. This project's
-- profile
use Rattle.std.specs.{Prelude.{◌≡◌, ℕ, Bool, ◌==◌}, Int.bit_at}
use Rattle.ultra_pni.specs.Interface.{Interface, IsWithin, is_awaited}

abbrev pub has_register : ℕ → ℕ → Bool
has_register word r = bit_at word r == 1

-- what is true of every interface, and what is kept of the registers that it awaits
pub record IsConsistentPni (i : Interface) (most_open word : ℕ) : Type 0 where
  pub within : IsWithin i most_open
  pub awaited : (r : ℕ) → has_register word r ≡ is_awaited r i.opened
